-- Events that come behind others.
use Rattle.std.proofs.Common.{◌≡◌, ℕ, List, [], ◌∷◌, ◌++◌, refl}
use Rattle.outside.specs.declared.event.WireEvent.{WireEvent}
use Rattle.wire_mio.specs.Queues.{MayFollow, AreInTurn, told_after, told_after_all}

-- one that may come behind them all stands in turn
pub in_turn_push : (told : ℕ) (events : List WireEvent) (event : WireEvent) → AreInTurn told events → MayFollow (told_after_all told events) event → AreInTurn told (events ++ event ∷ [])
in_turn_push told [] event held follows = (follows, _)
in_turn_push told (first ∷ events) event held follows = (held.0, in_turn_push (told_after told first) events event held.1 follows)

-- the latest connection of which is told behind it
pub told_after_all_push : (told : ℕ) (events : List WireEvent) (event : WireEvent) → told_after_all told (events ++ event ∷ []) ≡ told_after (told_after_all told events) event
told_after_all_push told [] event = refl
told_after_all_push told (first ∷ events) event = told_after_all_push (told_after told first) events event
