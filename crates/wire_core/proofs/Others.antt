-- An event leaves the connections of which it is not.
use Rattle.std.specs.Prelude.{◌≡◌, ℕ, List, [], ◌∷◌, ◌++◌, ◌==◌, false, Option, Some, None, refl, Result, Ok, Err, OnOk, OnErr}
use Rattle.std.proofs.Common.{sym, inl, inr}
use Rattle.std.proofs.lemmas.Bool.{eqb-true, cases_Bool}
use Rattle.std.proofs.lemmas.Bool.Decides.{eqb_tells}
use Rattle.zbxd_frame.specs.Found.{Found, short, whole, bad, found}
use Rattle.outside.specs.declared.event.WireEvent.{WireEvent}
use Rattle.outside.specs.declared.event.WireEvent.TheVariants.{Opened, Piece, Ended, Broke, Quiet, Closed}
use Rattle.wire_core.specs.declared.peer.Peer.{Peer}
use Rattle.wire_core.specs.Peers.{Peers, is_of, is_there, peer_of, replaced, without, fresh, opened, may_open, with_piece, peers_at, after_piece, after_event, LeavesOthers}

-- the peer of another connection is found as before where one is replaced
other-replaced : (ps : Peers) (q : Peer) (other : ℕ) → (q.conn == other) ≡ false → peer_of (replaced ps q) other ≡ peer_of ps other
other-replaced [] q other no_more = refl
other-replaced (p ∷ ps) q other apart =
    let rest = other-replaced ps q other apart in
    elim (eqb_tells p.conn q.conn) [
      | inl h ↦ let too : (p.conn == other) ≡ false = rw h.1 apart in rw (h.0, apart, too) rest
      | inr h ↦ rw (h.0, rest)
    ]

-- and where one is forgotten
other-without : (ps : Peers) (gone other : ℕ) → (gone == other) ≡ false → peer_of (without ps gone) other ≡ peer_of ps other
other-without [] gone other apart = refl
other-without (p ∷ ps) gone other apart =
    let rest = other-without ps gone other apart in
    elim (eqb_tells p.conn gone) [
      | inl h ↦ let too : (p.conn == other) ≡ false = rw h.1 apart in rw (h.0, too) rest
      | inr h ↦ rw (h.0, rest)
    ]

-- and where one joins
other-joined : (ps : Peers) (q : Peer) (other : ℕ) → (q.conn == other) ≡ false → peer_of (ps ++ q ∷ []) other ≡ peer_of ps other
other-joined [] q other apart = rw apart
other-joined (p ∷ ps) q other apart =
    let rest = other-joined ps q other apart in
    elim (cases_Bool (is_of other p)) [ inl h ↦ rw h | inr h ↦ rw h rest ]

other-opened : (ps : Peers) (conn now other : ℕ) → (conn == other) ≡ false → peer_of (opened ps conn now) other ≡ peer_of ps other
other-opened ps conn now other apart =
    elim (cases_Bool (is_there ps conn)) [
      | inl h ↦ rw h (other-replaced ps (fresh conn now) other apart)
      | inr h ↦ rw h (other-joined ps (fresh conn now) other apart)
    ]

other-peers_at : (ps : Peers) (q : Peer) (seen : Found) (other : ℕ) → (q.conn == other) ≡ false → peer_of (peers_at ps q seen) other ≡ peer_of ps other
unfolding peers_at
other-peers_at ps q short other apart = other-replaced ps q other apart
other-peers_at ps q (whole body behind) other apart = other-without ps q.conn other apart
other-peers_at ps q (bad fault) other apart = other-without ps q.conn other apart

-- the peer that is found is that of the connection
found_is : (ps : Peers) (conn : ℕ) (p : Peer) → peer_of ps conn ≡ Some p → p.conn ≡ conn
found_is [] conn p is = absurd (cc)
found_is (q ∷ ps) conn p is =
    elim (cases_Bool (is_of conn q)) [
      | inl h ↦ let same : Some q ≡ Some p = rw h at is in let it : q ≡ p = cc in rw (sym it) (eqb-true q.conn conn h)
      | inr h ↦ found_is ps conn p (rw h at is)
    ]

other-after_piece : (ps : Peers) (piece : List ℕ) (conn other : ℕ) (peer : Option Peer) → peer_of ps conn ≡ peer → (conn == other) ≡ false → peer_of (after_piece ps piece peer) other ≡ peer_of ps other
unfolding after_piece
other-after_piece ps piece conn other None is apart = refl
other-after_piece ps piece conn other (Some p) is apart =
    let same = found_is ps conn p is in
    other-peers_at ps (with_piece p piece) (found (p.bytes ++ piece)) other (rw same apart)

others_left : (ps : Peers) (now : ℕ) (event : WireEvent) → LeavesOthers event ps (after_event ps now event)
unfolding after_event
others_left ps now (Opened conn at) other apart =
    elim (cases_Bool (may_open ps conn)) [ inl h ↦ rw h (other-opened ps conn now other apart) | inr h ↦ rw h ]
others_left ps now (Piece conn piece at) other apart = other-after_piece ps piece conn other (peer_of ps conn) refl apart
others_left ps now (Ended conn at) other apart = other-without ps conn other apart
others_left ps now (Broke conn at) other apart = other-without ps conn other apart
others_left ps now (Quiet at) other apart = refl
others_left ps now (Closed at) other apart = refl

-- whether the event was taken or memory was refused
pub leaves_others : {T E : Type 0} (result : Result T E) (ps qs : Peers) (now : ℕ) (event : WireEvent) → OnOk result (qs ≡ after_event ps now event) → OnErr result (qs ≡ ps) → LeavesOthers event ps qs
leaves_others (Ok t) ps qs now event ok err other apart = rw ok (others_left ps now event other apart)
leaves_others (Err e) ps qs now event ok err other apart = rw err
