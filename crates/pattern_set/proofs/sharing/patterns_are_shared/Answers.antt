use denote.Param.Send.{sendable}
use Rattle.pattern_set.proofs.Crossing.{patterns_sync}
use Rattle.pattern_set.proofs.sharing.patterns_are_shared.Goals as goal

pub is_sync-requires-sync-T : goal.is_sync-requires-sync-T
is_sync-requires-sync-T c κs = search (sendable, patterns_sync) depth 20
