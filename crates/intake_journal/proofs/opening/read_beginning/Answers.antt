use Rattle.std.proofs.Common.{◌≡◌, ◌<◌, ℕ, List, length, Option, IfSome, subst}
use Rattle.std.proofs.lemmas.Result.{IfOk-weaker}
use Rattle.intake_journal.specs.Begun.{IsMagic}
use Rattle.intake_journal.specs.Kept.{beginning_of}
use Rattle.intake_journal.specs.declared.opening.Magic.{Magic}
use Rattle.intake_journal.specs.declared.opening.Magic.TheVariants.{Based}
use Rattle.intake_journal.proofs.Beginnings.{plain_told, other_told, based_told}
use Rattle.intake_journal.proofs.opening.read_beginning.Goals as goal

pub returns-in-Plain-clause-told : goal.returns-in-Plain-clause-told
returns-in-Plain-clause-told g c =
    let file = (g.D.Disk.tells c.args.disk.now).bytes in
    plain_told file c.args.held c.empty.result c.empty.ensures (subst (λ (m : Magic). IfSome file (IsMagic m)) c.in-Plain.is c.in_ok-read_magic.ensures.magic)

pub returns-in-Other-clause-told : goal.returns-in-Other-clause-told
returns-in-Other-clause-told g c =
    let file = (g.D.Disk.tells c.args.disk.now).bytes in
    other_told file c.args.held c.requires (subst (λ (m : Magic). IfSome file (IsMagic m)) c.in-Other.is c.in_ok-read_magic.ensures.magic)

pub returns-in-Based-clause-told : goal.returns-in-Based-clause-told
returns-in-Based-clause-told g c = IfOk-weaker c.read_based.result _ _ (λ it told.
    let file = (g.D.Disk.tells c.args.disk.now).bytes in
    based_told file c.args.held it c.requires (subst (λ (m : Magic). IfSome file (IsMagic m)) c.in-Based.is c.in_ok-read_magic.ensures.magic)
    (subst (λ (o : Option (List ℕ)). IfSome o (λ b. 9 < c.args.held → c.args.held ≡ length b → IsMagic Based b → it ≡ beginning_of b)) c.read_magic.ensures.before.same told)) c.read_based.ensures.told
