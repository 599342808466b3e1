use Rattle.std.proofs.Common.{length}
use Rattle.alert_sessions.proofs.spread.+fn-spread-join_mut+arg2+fn-spread-join_mut+arg3+spread.Given as goal

abbrev pub decreases-join_mut+arg2 : goal.decreases-join_mut+arg2
decreases-join_mut+arg2 g l = length l.front.now

abbrev pub decreases-join_mut+arg3 : goal.decreases-join_mut+arg3
decreases-join_mut+arg3 g l = length l.back.now

abbrev pub decreases-spread : goal.decreases-spread
decreases-spread g l = length l.hands.now
