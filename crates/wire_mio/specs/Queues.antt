-- What contracts see of a wire over sockets.
use Rattle.std.specs.Prelude.{◌≡◌, ℕ, ◌+◌, ◌<◌, ◌≤◌, Bool, List, [], ◌∷◌, length, fold, Result, Ok, Err, ⊤}
use Rattle.outside.specs.declared.event.WireEvent.{WireEvent}
use Rattle.outside.specs.declared.event.WireEvent.TheVariants.{Opened, Piece, Ended, Broke, Quiet, Closed}
use Rattle.outside.specs.declared.event.Trouble.{Trouble}
use Rattle.outside.specs.declared.event.Trouble.TheVariants as trouble
use Rattle.wire_mio.specs.Adapters.{risen}
use Rattle.wire_mio.specs.Tables.{Table}

-- the longest piece, in bytes
abbrev pub longest_piece : ℕ
longest_piece = 65536

-- how many bytes may wait to go out on one connection: those of a longest frame
abbrev pub most_waiting : ℕ
most_waiting = 16777229

-- a wire: the events that stand in its queue, the latest connection of which it has told, the connections that are there, those
-- that were there each time that a newcomer was turned away, the latest first, whether it listens, and its counts
pub record WireState : Type 0 where
  pub waiting : List WireEvent
  pub told : ℕ
  pub connections : Table
  pub turned_away : List Table
  pub listens : Bool
  pub given : ℕ
  pub sends : ℕ
  pub faults : ℕ
  pub unsent : ℕ

-- a queue: its events, the latest connection of which was told before them, the latest of which they tell, the connections that
-- were there each time that a newcomer was turned away, and for how many more events there is room
pub record Queued : Type 0 where
  pub events : List WireEvent
  pub told : ℕ
  pub opened : ℕ
  pub turned_away : List Table
  pub room : ℕ

-- a connection of which was told, where the latest is this one
pub record IsTold (told conn : ℕ) : Type 0 where
  pub first : 0 < conn
  pub last : conn ≤ told

-- an event that may come behind the opening of so many connections: they are numbered from 1, a piece has at least one
-- byte and at most the longest number, and a wire over sockets never closes
abbrev pub MayFollow : ℕ → WireEvent → Type 0
MayFollow told (Opened conn at) = conn ≡ told + 1
MayFollow told (Piece conn bytes at) = IsTold told conn × (0 < length bytes) × (length bytes ≤ longest_piece)
MayFollow told (Ended conn at) = IsTold told conn
MayFollow told (Broke conn at) = IsTold told conn
MayFollow told (Quiet at) = ⊤
MayFollow told (Closed at) = ⊥

-- the latest connection of which is told once an event has come
abbrev pub told_after : ℕ → WireEvent → ℕ
told_after told (Opened conn at) = conn
told_after told (Piece conn bytes at) = told
told_after told (Ended conn at) = told
told_after told (Broke conn at) = told
told_after told (Quiet at) = told
told_after told (Closed at) = told

-- each event may come behind those before it
abbrev pub AreInTurn : ℕ → List WireEvent → Type 0
AreInTurn told [] = ⊤
AreInTurn told (event ∷ events) = MayFollow told event × AreInTurn (told_after told event) events

-- the latest connection of which is told once all of these have come
abbrev pub told_after_all : ℕ → List WireEvent → ℕ
told_after_all told events = fold told_after told events

-- a call that gives no event leaves the queue as it is
pub record LeavesQueue (old new : WireState) : Type 0 where
  pub waiting : new.waiting ≡ old.waiting
  pub told : new.told ≡ old.told
  pub turned_away : new.turned_away ≡ old.turned_away
  pub listens : new.listens ≡ old.listens
  pub given : new.given ≡ old.given
  pub faults : new.faults ≡ old.faults

-- the event that stands first in the queue is the one that is given, and no other leaves the queue
abbrev pub GivesFirst : List WireEvent → List WireEvent → Result WireEvent Trouble → Type 0
GivesFirst [] new result = ⊤
GivesFirst (event ∷ events) new result = (result ≡ Ok event) × (new ≡ events)

-- the latest connection of which is told behind an answer
abbrev pub told_behind : ℕ → Result WireEvent Trouble → ℕ
told_behind told (Ok event) = told_after told event
told_behind told (Err cause) = told

-- the count of failed calls behind an answer of next: want of memory isn't one
abbrev pub failed_behind : ℕ → Result WireEvent Trouble → ℕ
failed_behind faults (Ok event) = faults
failed_behind faults (Err trouble.Failed) = risen faults
failed_behind faults (Err trouble.OutOfMemory) = faults
