-- What contracts see of the connections that are there.
use Rattle.std.specs.Prelude.{◌≡◌, ◌≢◌, ℕ, ◌+◌, ◌-◌, ◌^◌, ◌<◌, ◌≤◌, Bool, true, false, not, ◌&&◌, ◌==◌, nat_lt, nat_eq, List, [], ◌∷◌, length, fold, slice_index_or, if◌then◌else◌, ◌⊎◌, Option, Some, None, Result, Ok, Err, ⊤}
use Rattle.std.specs.Option.{option_map}
use Rattle.std.specs.Map.{lookup, values_of}
use Rattle.std.specs.List.{All}
use Rattle.zbx_types.specs.Limits.{most_connections}
use Rattle.outside.specs.declared.event.WireEvent.{WireEvent}
use Rattle.outside.specs.declared.event.WireEvent.TheVariants.{Opened, Piece, Ended, Broke, Quiet, Closed}
use Rattle.outside.specs.declared.event.Trouble.{Trouble}
use Rattle.wire_mio.specs.declared.peer.Peer.{Peer}
use Rattle.wire_mio.specs.declared.peer.Stage.{Stage}
use Rattle.wire_mio.specs.declared.peer.Stage.TheVariants as stage
use Rattle.wire_mio.specs.declared.peer.Kind.{Kind}
use Rattle.wire_mio.specs.declared.peer.Kind.TheVariants as kind
use Rattle.wire_mio.specs.declared.peer.Place.{Place}
use Rattle.wire_mio.specs.declared.peer.Place.TheVariants as place

-- how long a connection may bring nothing before it can lose its place, in microseconds
abbrev pub longest_silence : ℕ
longest_silence = 60000000

-- a connection: how far it has come, the moment since which it is so or, while it is open, at which it brought its latest
-- byte or opened, and how often something was sent on it
pub record Held : Type 0 where
  pub stage : Stage
  pub since : ℕ
  pub sends : ℕ

-- what is seen of a connection
abbrev pub held_of : Peer → Held
held_of p = record { stage = p.stage; since = p.since; sends = p.sends }

-- the connections, each with its number, in some order, the moment of the latest look, and for how many more there is memory
pub record Table : Type 0 where
  pub entries : List (ℕ × Held)
  pub moment : ℕ
  pub room : ℕ

-- what a number has
abbrev pub held_in : Table → ℕ → Option Held
held_in t conn = lookup (nat_eq conn) t.entries

-- how many there are
abbrev pub count_in : Table → ℕ
count_in t = length t.entries

-- all of them
abbrev pub all_in : Table → List Held
all_in t = values_of t.entries

-- an entry as it is seen
abbrev pub seen : ℕ × Peer → ℕ × Held
seen entry = (entry.0, held_of entry.1)

-- both sides may send
abbrev pub is_open : Stage → Bool
is_open stage.Open = true
is_open stage.Ended = false
is_open stage.Closing = false
is_open stage.Closed = false
is_open stage.Left = false

-- a connection is there, and both sides may send
abbrev pub is_live : Option Held → Bool
is_live None = false
is_live (Some h) = is_open h.stage

-- the program has closed a connection, or was told of its end before the look of a moment: it gives its place to a newcomer at
-- once
abbrev pub parted_at : ℕ → ℕ → Stage → Bool
parted_at moment since stage.Open = false
parted_at moment since stage.Ended = nat_lt since moment
parted_at moment since stage.Closing = false
parted_at moment since stage.Closed = true
parted_at moment since stage.Left = true

-- the end of a connection was seen in the look of a moment, and may not be told yet
abbrev pub ending_at : ℕ → ℕ → Stage → Bool
ending_at moment since stage.Open = false
ending_at moment since stage.Ended = not (nat_lt since moment)
ending_at moment since stage.Closing = false
ending_at moment since stage.Closed = false
ending_at moment since stage.Left = false

-- the program has closed a connection behind bytes that still wait to go out
abbrev pub is_closing : Stage → Bool
is_closing stage.Open = false
is_closing stage.Ended = false
is_closing stage.Closing = true
is_closing stage.Closed = false
is_closing stage.Left = false

-- those of this kind aren't open
abbrev pub is_over : Kind → Bool
is_over kind.Open = false
is_over kind.Ending = true
is_over kind.Parted = true
is_over kind.Closing = true

-- a connection is of this kind at a moment
abbrev pub is_kind : Kind → ℕ → Held → Bool
is_kind kind.Open moment h = is_open h.stage
is_kind kind.Ending moment h = ending_at moment h.since h.stage
is_kind kind.Parted moment h = parted_at moment h.since h.stage
is_kind kind.Closing moment h = is_closing h.stage

-- a connection is of this kind since a moment
abbrev pub IsSince : Kind → Table → ℕ → ℕ → Type 0
IsSince k t conn since = (h : Held) × (held_in t conn ≡ Some h) × (is_kind k t.moment h ≡ true) × (h.since ≡ since)

-- a connection is of this kind since a moment, and none is for longer
pub record IsLongest (k : Kind) (t : Table) (conn since : ℕ) : Type 0 where
  pub there : IsSince k t conn since
  pub longest : All (λ h. is_kind k t.moment h ≡ true → since ≤ h.since) (all_in t)

-- among the first so many connections none is of this kind
abbrev pub HasNoneBelow : Kind → Table → ℕ → Type 0
HasNoneBelow k t count = (n : ℕ) (d : Held) → n < count → is_kind k t.moment (slice_index_or (all_in t) n d) ≡ false

-- among the first so many connections none is of this kind since before a moment
abbrev pub HasNoneBefore : Kind → Table → ℕ → ℕ → Type 0
HasNoneBefore k t count since = (n : ℕ) (d : Held) → n < count → is_kind k t.moment (slice_index_or (all_in t) n d) ≡ true → since ≤ (slice_index_or (all_in t) n d).since

-- the one that is of this kind for longest among the first so many, where one is
abbrev pub IsLongestBelow : Kind → Table → ℕ → Option (ℕ × ℕ) → Type 0
IsLongestBelow k t count None = HasNoneBelow k t count
IsLongestBelow k t count (Some found) = IsSince k t found.0 found.1 × HasNoneBefore k t count found.1

-- what stands at a place, if it is of this kind
abbrev pub IsAt : Kind → Table → ℕ → Option (ℕ × ℕ) → Type 0
IsAt k t place None = (d : Held) → is_kind k t.moment (slice_index_or (all_in t) place d) ≡ false
IsAt k t place (Some found) = IsSince k t found.0 found.1 × ((d : Held) → (slice_index_or (all_in t) place d).since ≡ found.1)

-- the earlier of what was found and another
abbrev pub earlier_of : Option (ℕ × ℕ) → Option (ℕ × ℕ) → Option (ℕ × ℕ)
earlier_of None next = next
earlier_of (Some found) None = Some found
earlier_of (Some found) (Some next) = if nat_lt next.1 found.1 then Some next else Some found

-- a connection is open, and has brought a byte or opened not long ago
abbrev pub is_active : ℕ → Held → Bool
is_active moment h = is_open h.stage && not (nat_lt (h.since + longest_silence) moment)

-- none of them is of this kind
abbrev pub HasNo : Kind → Table → Type 0
HasNo k t = All (λ h. is_kind k t.moment h ≡ false) (all_in t)

-- where there is no room, and no connection that gives its place at once, none is there whose end may not be told yet
abbrev pub HasSettled : Table → Type 0
HasSettled t = nat_lt (count_in t) most_connections ≡ false → HasNo kind.Parted t → HasNo kind.Ending t

-- as many connections are there as may be, and each is open and has brought a byte or opened not long ago
pub record IsTakenUp (t : Table) : Type 0 where
  pub full : most_connections ≤ (count_in t)
  pub active : All (λ h. is_active t.moment h ≡ true) (all_in t)

-- one connection is as this says, and all others are as before
pub record Changes (conn : ℕ) (to : Option Held) (old new : Table) : Type 0 where
  pub held : (c : ℕ) → held_in new c ≡ (if conn == c then to else held_in old c)
  pub moment : new.moment ≡ old.moment

-- as many connections are open as before, and the same
abbrev pub KeepsLive : Table → Table → Type 0
KeepsLive old new = (c : ℕ) → is_live (held_in new c) ≡ is_live (held_in old c)

-- the connection has gone that was of this kind for longest, and no other
pub record DropsFirst (k : Kind) (old new : Table) : Type 0 where
  pub gone : (conn : ℕ) × (since : ℕ) × IsLongest k old conn since × Changes conn None old new
  pub live : KeepsLive old new
  pub count : (count_in new) + 1 ≡ (count_in old)
  pub room : old.room ≤ new.room

-- where a connection is of this kind, the one has gone that was so for longest, and else nothing changed
abbrev pub DropsLongest : Kind → Bool → Table → Table → Type 0
DropsLongest k true old new = DropsFirst k old new
DropsLongest k false old new = (new ≡ old) × HasNo k old

-- an open connection has gone that was silent for longer than one may be, and longer than any other
pub record DropsSilent (conn : ℕ) (old new : Table) : Type 0 where
  pub gone : (since : ℕ) × IsLongest kind.Open old conn since × (since + longest_silence < old.moment)
  pub only : Changes conn None old new
  pub none : HasNo kind.Parted old × HasNo kind.Closing old
  pub full : most_connections ≤ (count_in old)
  pub count : (count_in new) + 1 ≡ (count_in old)
  pub room : old.room ≤ new.room

-- one has gone that gives its place at once: that which parted first, or where none parted, that which was closed first of those
-- on which bytes still wait
abbrev pub DropsOver : Table → Table → Type 0
DropsOver old new = DropsFirst kind.Parted old new ⊎ (HasNo kind.Parted old × DropsFirst kind.Closing old new)

-- a newcomer has a place where there is room; else that of the connection that parted first; where none parted, that of the one
-- that was closed first of those on which bytes wait; where none is so, that of the open one that was silent for longest, and
-- longer than one may be; and else there is none
abbrev pub GivesPlace : Place → Table → Table → Type 0
GivesPlace place.Free old new = ((nat_lt (count_in old) most_connections ≡ true) × (new ≡ old)) ⊎ DropsOver old new
GivesPlace (place.Instead conn) old new = DropsSilent conn old new
GivesPlace place.Missing old new = IsTakenUp old × (new ≡ old)

-- where a newcomer has a place, the same are open as before, or all but the one that was silent
abbrev pub LeavesLive : Place → Table → Table → Type 0
LeavesLive place.Free old new = KeepsLive old new
LeavesLive (place.Instead conn) old new = (is_live (held_in old conn) ≡ true) × Changes conn None old new
LeavesLive place.Missing old new = KeepsLive old new

-- a place is there
abbrev pub HasRoom : Table → Table → Type 0
HasRoom old new = (count_in new < most_connections) × (old.room ≤ new.room) × (new.moment ≡ old.moment)

-- where a newcomer has a place, it is there
abbrev pub HasPlace : Place → Table → Table → Type 0
HasPlace place.Free old new = HasRoom old new
HasPlace (place.Instead conn) old new = HasRoom old new
HasPlace place.Missing old new = ⊤

-- a newcomer that isn't taken, so that the latest number stays, comes where all numbers were given, or is turned away
abbrev pub Admits : Table → ℕ → List Table → ℕ → List Table → Type 0
Admits t opened away opened_now away_now = opened_now ≡ opened → opened < 2 ^ 64 - 1 → away_now ≡ t ∷ away

-- something more was sent on it
abbrev pub sent_once : Held → Held
sent_once h = record { stage = h.stage; since = h.since; sends = h.sends + 1 }

-- something was sent on this connection, if it is there and the wire listens, and on no other
pub record IsSentOn (conn : ℕ) (listens : Bool) (old new : Table) : Type 0 where
  pub one : listens ≡ true → held_in new conn ≡ option_map sent_once (held_in old conn)
  pub others : (c : ℕ) → c ≢ conn → held_in new c ≡ held_in old c

-- it brought a byte at a moment
abbrev pub heard : ℕ → Held → Held
heard moment h = record { stage = h.stage; since = moment; sends = h.sends }

-- the other side has sent all that it sends
abbrev pub ended_at : ℕ → Held → Held
ended_at moment h = record { stage = stage.Ended; since = moment; sends = h.sends }

-- a connection that opens at a moment
abbrev pub fresh : ℕ → Held
fresh moment = record { stage = stage.Open; since = moment; sends = 0 }

-- an event may come where this connection is open, as far as is told, or isn't: its pieces and its end come while it is
abbrev pub MayCome : ℕ → Bool → WireEvent → Type 0
MayCome c open_now (Opened conn at) = ⊤
MayCome c open_now (Piece conn bytes at) = conn ≡ c → open_now ≡ true
MayCome c open_now (Ended conn at) = conn ≡ c → open_now ≡ true
MayCome c open_now (Broke conn at) = conn ≡ c → open_now ≡ true
MayCome c open_now (Quiet at) = ⊤
MayCome c open_now (Closed at) = ⊤

-- whether this connection is open once an event has come
abbrev pub open_after : ℕ → Bool → WireEvent → Bool
open_after c open_now (Opened conn at) = if conn == c then true else open_now
open_after c open_now (Piece conn bytes at) = open_now
open_after c open_now (Ended conn at) = if conn == c then false else open_now
open_after c open_now (Broke conn at) = if conn == c then false else open_now
open_after c open_now (Quiet at) = open_now
open_after c open_now (Closed at) = open_now

-- the events of this connection come in order: no piece of it and no second end stand behind its end
abbrev pub ComeInOrder : ℕ → Bool → List WireEvent → Type 0
ComeInOrder c open_now [] = ⊤
ComeInOrder c open_now (event ∷ events) = MayCome c open_now event × ComeInOrder c (open_after c open_now event) events

-- where this connection was open or wasn't, its events come in order, and it is open now exactly where they leave it so
pub record Tells (c : ℕ) (before latest : Bool) (events : List WireEvent) : Type 0 where
  pub order : ComeInOrder c before events
  pub leaves : latest ≡ fold (open_after c) before events

-- what was told of each connection stays told, and what became of it since is told too
abbrev pub GoesOn : Table → List WireEvent → Table → List WireEvent → Type 0
GoesOn old before new after = (c : ℕ) (told : Bool) → Tells c told (is_live (held_in old c)) before → Tells c told (is_live (held_in new c)) after

-- an answer of a wire, and what stands in its queue behind it
abbrev pub answered : Result WireEvent Trouble → List WireEvent → List WireEvent
answered (Ok event) waiting = event ∷ waiting
answered (Err trouble) waiting = waiting

-- each open connection has a number that was given
abbrev pub IsNumbered : Table → ℕ → Type 0
IsNumbered t opened = (c : ℕ) → is_live (held_in t c) ≡ true → (0 < c) × (c ≤ opened)
