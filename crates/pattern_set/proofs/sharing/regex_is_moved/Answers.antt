use denote.Param.Send.{sendable}
use Rattle.pattern_set.proofs.Crossing.{regex_send}
use Rattle.pattern_set.proofs.sharing.regex_is_moved.Goals as goal

pub is_send-requires-send-T : goal.is_send-requires-send-T
is_send-requires-send-T c κs = search (sendable, regex_send) depth 20
