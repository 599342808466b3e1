use Rattle.std.proofs.Common.{◌≡◌, IfSome, subst, arith}
use Rattle.intake_journal.specs.Begun.{IsPlaced}
use Rattle.intake_journal.specs.Kept.{beginning_of}
use Rattle.intake_journal.specs.declared.format.Beginning.{Beginning}
use Rattle.intake_journal.specs.declared.format.Beginning.TheVariants.{Begun}
use Rattle.intake_journal.proofs.OpenedFiles.{begun_durable, none_ahead}
use Rattle.intake_journal.proofs.Openings.{begun_told}
use Rattle.intake_journal.proofs.journal.Journal.recover.Goals as goal

pub invariant_of-result : goal.invariant_of-result
invariant_of-result g c =
    let tells = g.D.Disk.tells in
    let first = c.in-Ok-Begun.first in let base = c.in-Ok-Begun.base in
    let placed : IsPlaced (Begun first base) = subst IsPlaced c.in-Ok-Begun.field-0-is c.in-Ok-Begun.ensures.placed in (
      (placed.0, omega arith, c.requires),
      begun_durable (tells c.args.disk).bytes (tells c.prepare.new.disk) c.in-Ok-Begun.field-0 first base c.in-Ok-Begun.field-0-is c.prepare.ensures.told c.in-Ok-Begun.ensures.opened,
      λ _. none_ahead c.new.result (tells c.prepare.new.disk).bytes c.new.ensures,
    )

pub returns-in-Ok-Begun-clause-ours : goal.returns-in-Ok-Begun-clause-ours
returns-in-Ok-Begun-clause-ours g c =
    let file = (g.D.Disk.tells c.args.disk).bytes in
    begun_told file c.in-Ok-Begun.first c.in-Ok-Begun.base (subst (λ (it : Beginning). IfSome file (λ b. it ≡ beginning_of b)) c.in-Ok-Begun.field-0-is c.in-Ok-Begun.ensures.begins)
