-- What is told of a connection.
use Rattle.std.proofs.Common.{◌≡◌, ◌≢◌, ◌<◌, ◌≤◌, true≢false, ℕ, Bool, true, false, ◌==◌, if◌then◌else◌, Option, None, Some, List, [], ◌∷◌, ◌++◌, refl, sym, ap, subst, ◌∙◌, fold, arith}
use Rattle.std.specs.Option.{option_map}
use Rattle.outside.specs.declared.event.WireEvent.{WireEvent}
use Rattle.outside.specs.declared.event.WireEvent.TheVariants.{Opened, Piece, Ended, Broke, Quiet}
use Rattle.wire_mio.specs.Tables.{Table, Held, Changes, KeepsLive, GoesOn, MayCome, ComeInOrder, Tells, open_after, IsNumbered, is_live, held_in, heard, ended_at, sent_once}

-- one more event that may come stands in order
pub order_push : (c : ℕ) (before : Bool) (events : List WireEvent) (event : WireEvent) → ComeInOrder c before events → MayCome c (fold (open_after c) before events) event → ComeInOrder c before (events ++ event ∷ [])
order_push c before [] event held comes = (comes, _)
order_push c before (first ∷ events) event held comes = (held.0, order_push c (open_after c before first) events event held.1 comes)

-- what it leaves
pub open_push : (c : ℕ) (before : Bool) (events : List WireEvent) (event : WireEvent) → fold (open_after c) before (events ++ event ∷ []) ≡ open_after c (fold (open_after c) before events) event
open_push c before [] event = refl
open_push c before (first ∷ events) event = open_push c (open_after c before first) events event

-- it is told behind the others
pub tells_push : (c : ℕ) (before latest later : Bool) (events : List WireEvent) (event : WireEvent) → Tells c before latest events → MayCome c latest event → later ≡ open_after c latest event → Tells c before later (events ++ event ∷ [])
tells_push c before latest later events event tells comes is = record {
  order = order_push c before events event tells.order (subst (λ b. MayCome c b event) tells.leaves comes);
  leaves = is ∙ ap (λ b. open_after c b event) tells.leaves ∙ sym (open_push c before events event);
}

-- whether a connection is there that was chosen by a test
live_if : (b : Bool) (to other : Option Held) → is_live (if b then to else other) ≡ (if b then is_live to else is_live other)
live_if true to other = refl
live_if false to other = refl

-- whether a connection is open once one has changed
pub live_changed : (conn : ℕ) (to : Option Held) (old new : Table) → Changes conn to old new → (c : ℕ) → is_live (held_in new c) ≡ (if conn == c then is_live to else is_live (held_in old c))
live_changed conn to old new changes c = ap is_live (changes.held c) ∙ live_if (conn == c) to (held_in old c)

-- nothing was told, and as many are open, and the same
pub goes_same : (old new : Table) (events : List WireEvent) → KeepsLive old new → GoesOn old events new events
goes_same old new events keeps c told tells = subst (λ b. Tells c told b events) (sym (keeps c)) tells

-- one has opened, and that was told
pub goes_opened : (conn at : ℕ) (to : Option Held) (old new : Table) (events : List WireEvent) → Changes conn to old new → is_live to ≡ true → GoesOn old events new (events ++ Opened conn at ∷ [])
goes_opened conn at to old new events changes is c told tells =
    tells_push c told (is_live (held_in old c)) (is_live (held_in new c)) events (Opened conn at) tells _
    (live_changed conn to old new changes c ∙ ap (λ b. if conn == c then b else is_live (held_in old c)) is)

-- what is so of a connection is so of an equal one
pub live_same : (t : Table) (conn : ℕ) → is_live (held_in t conn) ≡ true → (c : ℕ) → conn ≡ c → is_live (held_in t c) ≡ true
live_same t conn live c same = subst (λ d. is_live (held_in t d) ≡ true) same live

-- an open one has brought a piece, stays open, and that was told
pub goes_piece : (conn at : ℕ) (bytes : List ℕ) (old new : Table) (events : List WireEvent) → KeepsLive old new → is_live (held_in old conn) ≡ true → GoesOn old events new (events ++ Piece conn bytes at ∷ [])
goes_piece conn at bytes old new events keeps live c told tells =
    tells_push c told (is_live (held_in old c)) (is_live (held_in new c)) events (Piece conn bytes at) tells (live_same old conn live c) (keeps c)

-- an open one has ended, and that was told
pub goes_ended : (conn at : ℕ) (to : Option Held) (old new : Table) (events : List WireEvent) → Changes conn to old new → is_live to ≡ false → is_live (held_in old conn) ≡ true → GoesOn old events new (events ++ Ended conn at ∷ [])
goes_ended conn at to old new events changes is live c told tells =
    tells_push c told (is_live (held_in old c)) (is_live (held_in new c)) events (Ended conn at) tells (live_same old conn live c)
    (live_changed conn to old new changes c ∙ ap (λ b. if conn == c then b else is_live (held_in old c)) is)

-- an open one is lost, and that was told
pub goes_broke : (conn at : ℕ) (to : Option Held) (old new : Table) (events : List WireEvent) → Changes conn to old new → is_live to ≡ false → is_live (held_in old conn) ≡ true → GoesOn old events new (events ++ Broke conn at ∷ [])
goes_broke conn at to old new events changes is live c told tells =
    tells_push c told (is_live (held_in old c)) (is_live (held_in new c)) events (Broke conn at) tells (live_same old conn live c)
    (live_changed conn to old new changes c ∙ ap (λ b. if conn == c then b else is_live (held_in old c)) is)

-- one has changed, and is open where it was
pub changed_live : (conn : ℕ) (to : Option Held) (old new : Table) → Changes conn to old new → is_live to ≡ is_live (held_in old conn) → KeepsLive old new
changed_live conn to old new changes is c = live_changed conn to old new changes c ∙ by (conn == c) refl
  where
    by : (b : Bool) → (conn == c) ≡ b → (if b then is_live to else is_live (held_in old c)) ≡ is_live (held_in old c)
    by true e = let same : conn ≡ c = grind arith in is ∙ ap (λ d. is_live (held_in old d)) same
    by false e = refl

-- one may have changed, and is open where it was
pub only_live : (conn : ℕ) (old new : Table) → is_live (held_in new conn) ≡ is_live (held_in old conn) → ((c : ℕ) → c ≢ conn → held_in new c ≡ held_in old c) → KeepsLive old new
only_live conn old new one others c = by (conn == c) refl
  where
    by : (b : Bool) → (conn == c) ≡ b → is_live (held_in new c) ≡ is_live (held_in old c)
    by true e = let same : conn ≡ c = grind arith in subst (λ d. is_live (held_in new d) ≡ is_live (held_in old d)) same one
    by false e = let other : c ≢ conn = grind arith in ap is_live (others c other)

-- a byte leaves a connection open where it was
pub heard_live : (moment : ℕ) (o : Option Held) → is_live (option_map (heard moment) o) ≡ is_live o
heard_live moment None = refl
heard_live moment (Some h) = refl

-- one that has ended is not open
pub ended_live : (moment : ℕ) (o : Option Held) → is_live (option_map (ended_at moment) o) ≡ false
ended_live moment None = refl
ended_live moment (Some h) = refl

-- what was told since nothing stood in the queue
pub goes_from : (old new : Table) (before after : List WireEvent) → before ≡ [] → GoesOn old before new after → (c : ℕ) → Tells c (is_live (held_in old c)) (is_live (held_in new c)) after
goes_from old new before after none goes c = goes c (is_live (held_in old c)) (subst (λ events. Tells c (is_live (held_in old c)) (is_live (held_in old c)) events) (sym none) (record { order = _; leaves = refl }))

-- that nothing came tells nothing
pub quiet_told : (c at : ℕ) (before latest : Bool) → Tells c before latest [] → Tells c before latest (Quiet at ∷ [])
quiet_told c at before latest tells = record { order = (_, _); leaves = tells.leaves }

-- numbers stay given
pub numbered_same : (old new : Table) (opened : ℕ) → KeepsLive old new → IsNumbered old opened → IsNumbered new opened
numbered_same old new opened keeps given c live = given c (sym (keeps c) ∙ live)

-- one has changed whose number is given
pub numbered_changed : (conn opened later : ℕ) (to : Option Held) (old new : Table) → Changes conn to old new → 0 < conn → conn ≤ later → opened ≤ later → IsNumbered old opened → IsNumbered new later
numbered_changed conn opened later to old new changes first last more given c live = by (conn == c) refl
  where
    by : (b : Bool) → (conn == c) ≡ b → (0 < c) × (c ≤ later)
    by true e = let same : conn ≡ c = grind arith in subst (λ d. (0 < d) × (d ≤ later)) same (first, last)
    by false e =
        let was : is_live (held_in old c) ≡ true = sym (live_changed conn to old new changes c ∙ ap (λ b. if b then is_live to else is_live (held_in old c)) e) ∙ live in
        let held : (0 < c) × (c ≤ opened) = given c was in let low : c ≤ opened = held.1 in (held.0, omega arith)

-- a send leaves a connection open where it was
pub sent_live : (o : Option Held) → is_live (option_map sent_once o) ≡ is_live o
sent_live None = refl
sent_live (Some h) = refl

-- one isn't open any more
pub numbered_closed : (conn opened : ℕ) (old new : Table) → is_live (held_in new conn) ≡ false → ((c : ℕ) → c ≢ conn → held_in new c ≡ held_in old c) → IsNumbered old opened → IsNumbered new opened
numbered_closed conn opened old new over others given c live = given c (sym (ap is_live (others c (λ same. true≢false (sym live ∙ ap (λ d. is_live (held_in new d)) same ∙ over)))) ∙ live)
