use Rattle.std.proofs.Common.{take, drop, subst}
use Rattle.std.proofs.lemmas.Option.{IfSome_then}
use Rattle.intake_journal.specs.Found.{IsHead}
use Rattle.intake_journal.specs.declared.reading.Head.{Head}
use Rattle.intake_journal.proofs.Look.{cut_found}
use Rattle.intake_journal.proofs.reading.look.Goals as goal

pub returns-in-Cut-clause-told : goal.returns-in-Cut-clause-told
returns-in-Cut-clause-told g c = IfSome_then (g.D.Disk.tells c.args.disk.now).bytes c.in_ok-read_head.ensures.told
    (λ b head. cut_found c.args.at b (subst (λ (h : Head). IsHead h (take 9 (drop c.args.at b))) c.in-Cut.is head))
