use Rattle.std.specs.Prelude.{is_some}
use Rattle.alert_sessions.proofs.Settling.{call_took}
use Rattle.alert_sessions.proofs.state.State.next.Goals as goal

pub invariant_of-self : goal.invariant_of-self
invariant_of-self g c =
    let i = c.self.inside in (
      call_took g.N.CallName.start i.queue c.take.new.self g.N.CallName.kept i.marks.list i.failures.total i.successes.total c.args.now c.take.result (is_some i.stopped) c.self.invariant.0 c.take.ensures.queue,
      c.self.invariant.1,
    )
