use denote.Param.Send.{sendable}
use Rattle.pattern_set.proofs.Crossing.{regex_sync}
use Rattle.pattern_set.proofs.sharing.regex_is_shared.Goals as goal

pub is_sync-requires-sync-T : goal.is_sync-requires-sync-T
is_sync-requires-sync-T c κs = search (sendable, regex_sync) depth 20
