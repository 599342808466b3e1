use Rattle.std.proofs.Common.{◌≡◌, ◌∙◌, inl, inr, ℕ, ◌<◌, ◌≤◌, List, [], ◌∷◌, length, ap, arith, Some}
use Rattle.std.proofs.lemmas.Result.{on_ok_weaker}
use Rattle.outside.specs.Disk.{overwritten, Only, LeavesOnly}
use Rattle.gated_file.specs.Around.{IsAround}
use Rattle.gated_file.proofs.Moments.{if_some, told_of}
use Rattle.gated_file.proofs.Openings.{leaves_less}
use Rattle.intake_journal.specs.Based.{begun}
use Rattle.intake_journal.proofs.BaseMade.{Filling, begun_is, filled_is}
use Rattle.intake_journal.proofs.Openings.{and_then}
use Rattle.intake_journal.proofs.making.fill.Goals as goal

pub returns-in_err-begin-clause-any_moment : goal.returns-in_err-begin-clause-any_moment
returns-in_err-begin-clause-any_moment g c = if_some (g.D.Disk.tells c.args.disk.now).bytes _ (λ b is none only.
    let tells = g.D.Disk.tells in
    let d0 = tells c.args.disk.now in let d1 = tells c.begin.new.disk in
    let P : List ℕ → Type 0 = λ f. length f ≤ 9 in
    leaves_less d0 d1 P (Filling c.args.block.now) (λ f short. inl short)
    (told_of d0.bytes b (λ l. length l ≤ 9 → Only l d0 → LeavesOnly d0 d1 P) is c.begin.ensures.any_moment (omega (arith, ap length none)) only))

pub returns-clause-any_moment : goal.returns-clause-any_moment
returns-clause-any_moment g c = if_some (g.D.Disk.tells c.args.disk.now).bytes _ (λ b is none only.
    let tells = g.D.Disk.tells in
    let d0 = tells c.args.disk.now in let d1 = tells c.begin.new.disk in let d2 = tells c.keep.new.disk in
    let block = c.args.block.now in
    let P : List ℕ → Type 0 = λ f. length f ≤ 9 in
    let first = leaves_less d0 d1 P (Filling block) (λ f short. inl short)
    (told_of d0.bytes b (λ l. length l ≤ 9 → Only l d0 → LeavesOnly d0 d1 P) is c.begin.ensures.any_moment (omega (arith, ap length none)) only) in
    let told : d1.bytes ≡ Some begun = told_of d0.bytes b (λ l. d1.bytes ≡ Some (overwritten l 0 begun)) is c.in_ok-begin.ensures.made ∙ ap (λ (l : List ℕ). Some l) (begun_is b none) in
    let durable : Only begun d1 = told_of d1.bytes begun (λ l. Only l d1) told c.in_ok-begin.ensures.durable in
    let second = told_of d1.bytes begun (λ l. 8 < length l → Only l d1 → LeavesOnly d1 d2 (IsAround l 8 block)) told c.keep.ensures.any_moment (omega arith) durable in
    and_then d0 d1 d2 (Filling block) (IsAround begun 8 block) first second (λ f left. inr left))

pub returns-clause-made : goal.returns-clause-made
returns-clause-made g c = on_ok_weaker c.keep.result (λ kept. if_some (g.D.Disk.tells c.args.disk.now).bytes _ (λ b is none.
    let tells = g.D.Disk.tells in
    let d0 = tells c.args.disk.now in let d1 = tells c.begin.new.disk in let d2 = tells c.keep.new.disk in
    let block = c.args.block.now in
    let told : d1.bytes ≡ Some begun = told_of d0.bytes b (λ l. d1.bytes ≡ Some (overwritten l 0 begun)) is c.in_ok-begin.ensures.made ∙ ap (λ (l : List ℕ). Some l) (begun_is b none) in
    told_of d1.bytes begun (λ l. d2.bytes ≡ Some (overwritten (overwritten l 9 block) 8 (1 ∷ []))) told kept ∙ ap (λ (l : List ℕ). Some l) (filled_is block))) c.keep.ensures.kept
