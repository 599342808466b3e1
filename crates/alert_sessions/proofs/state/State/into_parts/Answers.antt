use Rattle.std.proofs.Common.{◌≡◌, ◌⊎◌, true}
use Rattle.std.specs.Prelude.{is_some}
use Rattle.alert_queue.specs.Queues.{IsOver}
use Rattle.alert_sessions.proofs.Settling.{call_over, same_over}
use Rattle.alert_sessions.proofs.state.State.into_parts.Goals as goal

pub returns-clause-call : goal.returns-clause-call
returns-clause-call g c =
    let i = c.self.inside in
    let over : (is_some i.stopped ≡ true) ⊎ IsOver i.queue = same_over _ _ c.self.view_is c.requires.over in
    call_over g.N.CallName.start i.queue g.N.CallName.kept i.marks.list i.failures.total i.successes.total i.stopped c.self.invariant.0 over
