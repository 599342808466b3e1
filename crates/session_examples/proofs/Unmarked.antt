-- Where there are no marks, no note has one.
use Rattle.std.proofs.Common.{◌≡◌, List, [], refl, subst, sym}
use Rattle.alert_queue.specs.Queues.{Queued}
use Rattle.alert_queue.specs.declared.types.NoteMark.{NoteMark}
use Rattle.alert_sessions.specs.Calls.{AreUnmarked}

pub none_marked : (queue : Queued) (marks : List NoteMark) → marks ≡ [] → AreUnmarked queue marks
none_marked queue marks none = subst (λ (ms : List NoteMark). AreUnmarked queue ms) (sym none) (λ r k there inner. refl)
