use Rattle.journal_opening.proofs.Bases.{own_good}
use Rattle.journal_opening.proofs.basing.put_base.Goals as goal

pub returns-in_ok-push-in-Ok-Some : goal.returns-in_ok-push-in-Ok-Some
returns-in_ok-push-in-Ok-Some c =
    let good = rw c.in-Ok-Some.field-0-is at c.in-Ok-Some.ensures.good in
    own_good c.args.base.now c.args.confs.now.items c.push.new.self.items c.in-Ok-Some.conf (c.is_nothing.ensures.some c.if-is_nothing.false) good.0 good.1 good.2
    c.in_ok-push-in-Ok-Some.ensures.items
