use Rattle.std.proofs.Common.{List, false, subst}
use Rattle.alert_queue.specs.Queues.{Queued}
use Rattle.alert_queue.specs.declared.types.NoteMark.{NoteMark}
use Rattle.alert_sessions.specs.Calls.{IsCall}
use Rattle.alert_sessions.proofs.Settling.{call_begins}
use Rattle.alert_sessions.proofs.state.State.new.Goals as goal

pub invariant_of-result : goal.invariant_of-result
invariant_of-result g c =
    let queue = c.args.queue in
    let list = c.args.marks.list in
    let f = c.args.failures.total in
    let s = c.args.successes.total in (
      subst (λ (q : Queued). IsCall q queue g.N.CallName.kept list f s false) c.requires.start
          (subst (λ (k : List NoteMark). IsCall queue queue k list f s false) c.requires.kept (call_begins queue list f s c.requires.fresh c.requires.unmarked)),
      c.requires.disk,
    )
