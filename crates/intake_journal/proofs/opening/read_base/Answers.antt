use Rattle.std.proofs.Common.{◌≡◌, ℕ, ◌+◌, ◌∙◌, List, length, take, drop, Option, Some, None, IfSome, sym, ap, subst, arith}
use Rattle.zbx_types.specs.declared.base.Base.{Base}
use Rattle.intake_journal.specs.BaseBytes.{IsFormed}
use Rattle.intake_journal.specs.Begun.{IsMagic, IsBaseHead}
use Rattle.intake_journal.specs.Kept.{beginning_of}
use Rattle.intake_journal.specs.declared.format.Beginning.TheVariants.{Begun}
use Rattle.intake_journal.specs.declared.opening.BaseHead.TheVariants.{Open}
use Rattle.intake_journal.specs.declared.opening.Magic.TheVariants.{Based}
use Rattle.intake_journal.proofs.BaseFormed.{formed_not_empty}
use Rattle.intake_journal.proofs.Beginnings.{unfit_told, read_told}
use Rattle.intake_journal.proofs.opening.read_base.Goals as goal

pub returns-then-not-has_room-clause-told : goal.returns-then-not-has_room-clause-told
returns-then-not-has_room-clause-told g c = unfit_told (g.D.Disk.tells c.args.disk.now).bytes c.args.held c.args.size (c.has_room.ensures.unfit c.if-not-has_room.true)

pub returns-in-Some-clause-told : goal.returns-in-Some-clause-told
returns-in-Some-clause-told g c =
    let file = (g.D.Disk.tells c.args.disk.now).bytes in
    let size = c.args.size in let base = c.in-Some.base in
    let room = c.has_room.ensures.fits c.if-not-has_room.false in
    let read : IfSome file (λ b. c.as_slice.result.now ≡ take size (drop 13 b)) = subst (λ (l : List ℕ). IfSome file (λ b. l ≡ take size (drop 13 b))) (sym c.as_slice.ensures) c.in_ok-bytes.ensures.told in
    let told = read_told file c.args.held size c.as_slice.result.now (Some base) room.0 room.1 read (sym c.in-Some.is ∙ c.in_ok-base.ensures.read) in
    subst (λ (n : ℕ). IfSome file (λ b. c.args.held ≡ length b → IsBaseHead (Open size) (take 13 b) → IsMagic Based b → Begun (n + 13) base ≡ beginning_of b)) (sym c.from.ensures) told

pub returns-clause-told : goal.returns-clause-told
returns-clause-told g c =
    let file = (g.D.Disk.tells c.args.disk.now).bytes in
    let size = c.args.size in
    let room = c.has_room.ensures.fits c.if-not-has_room.false in
    let read : IfSome file (λ b. c.as_slice.result.now ≡ take size (drop 13 b)) = subst (λ (l : List ℕ). IfSome file (λ b. l ≡ take size (drop 13 b))) (sym c.as_slice.ensures) c.in_ok-bytes.ensures.told in
    read_told file c.args.held size c.as_slice.result.now None room.0 room.1 read (sym c.in-None.is ∙ c.in_ok-base.ensures.read)

pub returns-in-Some-clause-placed : goal.returns-in-Some-clause-placed
returns-in-Some-clause-placed g c =
    let room = c.has_room.ensures.fits c.if-not-has_room.false in
    let formed : IsFormed c.in-Some.base = subst (λ (o : Option Base). IfSome o IsFormed) c.in-Some.is c.in_ok-base.ensures.formed in
    (omega (arith, room.1, c.from.ensures), λ e. absurd (formed_not_empty c.in-Some.base formed e), λ none. absurd (omega (arith, formed.text, ap length none)))
