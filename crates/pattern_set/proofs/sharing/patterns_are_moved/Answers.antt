use denote.Param.Send.{sendable}
use Rattle.pattern_set.proofs.Crossing.{patterns_send}
use Rattle.pattern_set.proofs.sharing.patterns_are_moved.Goals as goal

pub is_send-requires-send-T : goal.is_send-requires-send-T
is_send-requires-send-T c κs = search (sendable, patterns_send) depth 20
