use Rattle.std.proofs.Common.{◌≡◌, List, length, take, Option, IfSome, sym, subst, ℕ}
use Rattle.std.proofs.lemmas.Result.{IfOk-weaker}
use Rattle.intake_journal.specs.Begun.{IsMagic, IsBaseHead}
use Rattle.intake_journal.specs.Kept.{beginning_of}
use Rattle.intake_journal.specs.declared.opening.BaseHead.{BaseHead}
use Rattle.intake_journal.specs.declared.opening.BaseHead.TheVariants.{Open}
use Rattle.intake_journal.specs.declared.opening.Magic.TheVariants.{Based}
use Rattle.intake_journal.proofs.Beginnings.{shut_told, cut_told, open_told}
use Rattle.intake_journal.proofs.opening.read_based.Goals as goal

pub returns-in-Shut-clause-told : goal.returns-in-Shut-clause-told
returns-in-Shut-clause-told g c =
    let file = (g.D.Disk.tells c.args.disk.now).bytes in
    let head = c.as_slice.result.now in
    let read : IfSome file (λ b. head ≡ take 13 b) = subst (λ (l : List ℕ). IfSome file (λ b. l ≡ take 13 b)) (sym c.as_slice.ensures) c.in_ok-head.ensures.told in
    shut_told file c.args.held head read (subst (λ (h : BaseHead). IsBaseHead h head) c.in-Shut.is c.base_head.ensures)

pub returns-in-Cut-clause-told : goal.returns-in-Cut-clause-told
returns-in-Cut-clause-told g c =
    let file = (g.D.Disk.tells c.args.disk.now).bytes in
    let head = c.as_slice.result.now in
    let read : IfSome file (λ b. head ≡ take 13 b) = subst (λ (l : List ℕ). IfSome file (λ b. l ≡ take 13 b)) (sym c.as_slice.ensures) c.in_ok-head.ensures.told in
    cut_told file c.args.held head read (subst (λ (h : BaseHead). IsBaseHead h head) c.in-Cut.is c.base_head.ensures)

pub returns-clause-told : goal.returns-clause-told
returns-clause-told g c = IfOk-weaker c.read_base.result _ _ (λ it told.
    let file = (g.D.Disk.tells c.args.disk.now).bytes in
    let head = c.as_slice.result.now in
    let size = c.in-Open.size in
    let read : IfSome file (λ b. head ≡ take 13 b) = subst (λ (l : List ℕ). IfSome file (λ b. l ≡ take 13 b)) (sym c.as_slice.ensures) c.in_ok-head.ensures.told in
    open_told file c.args.held head size it read (subst (λ (h : BaseHead). IsBaseHead h head) c.in-Open.is c.base_head.ensures)
    (subst (λ (o : Option (List ℕ)). IfSome o (λ b. c.args.held ≡ length b → IsBaseHead (Open size) (take 13 b) → IsMagic Based b → it ≡ beginning_of b)) c.read_from.ensures.before.same told)) c.read_base.ensures.told
