-- What sinks and wires tell of themselves.
use Rattle.std.specs.Prelude.{ℕ, List, Option}
use Rattle.outside.specs.declared.event.WireEvent.{WireEvent}

-- a sink: the bytes that it holds, where it tells them, how many they are, and how many of its calls have failed
pub record SinkTells : Type 0 where
  pub bytes : Option (List ℕ)
  pub held : ℕ
  pub faults : ℕ

-- a wire: its events that are left, what was sent and what was closed, each where it tells, and its counts
pub record WireTells : Type 0 where
  pub left : Option (List WireEvent)
  -- how many events next has given
  pub given : ℕ
  -- connections, each with the bytes that were sent to it
  pub sent : Option (List (ℕ × List ℕ))
  -- how many calls of send there were, failed ones included
  pub sends : ℕ
  -- connections, each with how many calls of send stood before it was closed
  pub closed : Option (List (ℕ × ℕ))
  -- how many calls of next have failed
  pub faults : ℕ
  -- how many calls of send have failed
  pub unsent : ℕ
