-- Laws of the connections that are there.
use Rattle.std.specs.Prelude.{◌≡◌, ℕ, ◌+◌, ◌<◌, ◌≤◌, List, [], ◌∷◌, ◌++◌, length, if◌then◌else◌, Bool, true, false, not, ◌||◌, Option, Some, None, refl, slice_index_or, slice_set, position, remove, nat_lt}
use Rattle.std.specs.List.{find, list_any, slice_get, position_from, position_or_len}
use Rattle.std.proofs.Common.{arith, sym, ap, ◌∙◌, subst, inl, inr, zero, suc, length-append}
use Rattle.std.proofs.lemmas.List.{length-map}
use Rattle.std.proofs.lemmas.Bool.{eq-eqb, eqb-true, lt-ltb, le-ltb, cases_Bool}
use Rattle.std.proofs.lemmas.Bool.Decides.{eqb_tells}
use Rattle.std.proofs.lemmas.Option.{slice_get-get_or}
use Rattle.std.proofs.lemmas.Iterator.Adapters.{position_from-zero}
use Rattle.std.proofs.lemmas.List.Folds.{list_any_at, list_any-append, find_at}
use Rattle.std.proofs.lemmas.List.Filters.{length-filter_both}
use Rattle.std.proofs.lemmas.List.Elements.{All-filter, All-map, All-push, All-weaker}
use Rattle.std.proofs.lemmas.List.Quantifiers.{position-Some}
use Rattle.zbx_types.specs.Limits.{most_connections}
use Rattle.zbxd_frame.specs.Found.{short, whole, bad, found, found_magic}
use Rattle.zbxd_frame.specs.declared.fault.Fault.{Fault}
use Rattle.wire_core.specs.declared.peer.Peer.{Peer}
use Rattle.wire_core.specs.declared.turn.Turn.{Turn}
use Rattle.wire_core.specs.declared.turn.Turn.TheVariants.{Nothing, Shut, Whole}
use Rattle.wire_core.specs.Peers.{Peers, is_of, is_there, peer_of, replaced, without, fresh, may_open, opened, with_piece, turn_at, peers_at, piece_turn, after_piece}
use Rattle.wire_core.specs.Kept.{AreApart, AreKept, given}

pub both_false : (a b : Bool) → (a || b) ≡ false → (a ≡ false) × (b ≡ false)
both_false true b h = absurd (cc)
both_false false b h = (refl, h)

pub one_of : (b : Bool) → (b ≡ true → ⊥) → b ≡ false
one_of true no_true = absurd (no_true refl)
one_of false no_true = refl

-- where no peer is of the connection, none is replaced
replaced_none : (ps : Peers) (q : Peer) → is_there ps q.conn ≡ false → replaced ps q ≡ ps
replaced_none [] q none = refl
replaced_none (p ∷ ps) q none =
    let h = both_false (is_of q.conn p) (is_there ps q.conn) none in
    rw (h.0, replaced_none ps q h.1)

-- no peer is of a connection that is not there
none_at : (ps : Peers) (conn i : ℕ) (d : Peer) → is_there ps conn ≡ false → i < length ps → is_of conn (slice_index_or ps i d) ≡ false
none_at ps conn i d none within =
    one_of (is_of conn (slice_index_or ps i d)) (λ found. let h = list_any_at (is_of conn) ps i d within found in cc)

-- among peers that are apart, one at its place is replaced
pub replaced-set : (ps : Peers) (i : ℕ) (q d : Peer) → AreApart ps → i < length ps → (slice_index_or ps i d).conn ≡ q.conn → replaced ps q ≡ slice_set ps i q
replaced-set [] i q d apart within same = absurd (omega arith)
replaced-set (p ∷ ps) zero q d apart within same =
    let is : is_of q.conn p ≡ true = eq-eqb p.conn q.conn same in
    let none : is_there ps q.conn ≡ false = subst (λ c. is_there ps c ≡ false) same apart.0 in
    rw (is, replaced_none ps q none)
replaced-set (p ∷ ps) (suc i) q d apart within same =
    let below : i < length ps = omega arith in
    let away : is_of p.conn (slice_index_or ps i d) ≡ false = none_at ps p.conn i d apart.0 below in
    let other : is_of q.conn p ≡ false = one_of (is_of q.conn p) (λ e.
    let met : is_of p.conn (slice_index_or ps i d) ≡ true = eq-eqb (slice_index_or ps i d).conn p.conn (same ∙ sym (eqb-true p.conn q.conn e)) in cc) in
    rw (other, replaced-set ps i q d apart.1 below same)

-- the same connections are there after one was replaced
is_there-replaced : (ps : Peers) (q : Peer) (conn : ℕ) → is_there (replaced ps q) conn ≡ is_there ps conn
is_there-replaced [] q conn = refl
is_there-replaced (p ∷ ps) q conn =
    let rest = is_there-replaced ps q conn in
    elim (eqb_tells p.conn q.conn) [ inl h ↦ rw (h.0, rest, h.1) | inr h ↦ rw (h.0, rest) ]

-- a connection that is not there is not there without another one
is_there-without : (ps : Peers) (gone conn : ℕ) → is_there ps conn ≡ false → is_there (without ps gone) conn ≡ false
is_there-without [] gone conn none = refl
is_there-without (p ∷ ps) gone conn none =
    let h = both_false (is_of conn p) (is_there ps conn) none in
    let rest = is_there-without ps gone conn h.1 in
    elim (cases_Bool (is_of gone p)) [ inl e ↦ rw e rest | inr e ↦ rw (e, h.0) rest ]

-- a connection that was forgotten is not there
is_there-without_itself : (ps : Peers) (conn : ℕ) → is_there (without ps conn) conn ≡ false
is_there-without_itself [] conn = refl
is_there-without_itself (p ∷ ps) conn =
    let rest = is_there-without_itself ps conn in
    elim (cases_Bool (is_of conn p)) [ inl e ↦ rw e rest | inr e ↦ rw (e, e) rest ]

AreApart-replaced : (ps : Peers) (q : Peer) → AreApart ps → AreApart (replaced ps q)
AreApart-replaced [] q apart = tt
AreApart-replaced (p ∷ ps) q apart =
    let rest = AreApart-replaced ps q apart.1 in
    let here : is_there (replaced ps q) p.conn ≡ false = rw (is_there-replaced ps q p.conn) apart.0 in
    elim (eqb_tells p.conn q.conn) [ inl h ↦ rw h.0 (subst (λ c. is_there (replaced ps q) c ≡ false) h.1 here, rest) | inr h ↦ rw h.0 (here, rest) ]

AreApart-without : (ps : Peers) (conn : ℕ) → AreApart ps → AreApart (without ps conn)
AreApart-without [] conn apart = tt
AreApart-without (p ∷ ps) conn apart =
    let rest = AreApart-without ps conn apart.1 in
    elim (cases_Bool (is_of conn p)) [ inl e ↦ rw e rest | inr e ↦ rw e (is_there-without ps conn p.conn apart.0, rest) ]

AreApart-push : (ps : Peers) (q : Peer) → AreApart ps → is_there ps q.conn ≡ false → AreApart (ps ++ q ∷ [])
AreApart-push [] q apart none = (refl, tt)
AreApart-push (p ∷ ps) q apart none =
    let h = both_false (is_of q.conn p) (is_there ps q.conn) none in
    let other : is_of p.conn q ≡ false = one_of (is_of p.conn q) (λ e. let met = eq-eqb p.conn q.conn (sym (eqb-true q.conn p.conn e)) in cc) in
    (rw (list_any-append (is_of p.conn) ps (q ∷ []), apart.0, other), AreApart-push ps q apart.1 h.1)

-- where no peer is of the connection, none is forgotten
without_none : (ps : Peers) (conn : ℕ) → is_there ps conn ≡ false → without ps conn ≡ ps
without_none [] conn none = refl
without_none (p ∷ ps) conn none =
    let h = both_false (is_of conn p) (is_there ps conn) none in
    rw (h.0, without_none ps conn h.1)

-- among peers that are apart, the one at the place of a connection is all that goes with it
removed : (ps : Peers) (i conn : ℕ) (d : Peer) → AreApart ps → i < length ps → (slice_index_or ps i d).conn ≡ conn → remove ps i ≡ without ps conn
removed [] i conn d apart within same = absurd (omega arith)
removed (p ∷ ps) zero conn d apart within same =
    let is : is_of conn p ≡ true = eq-eqb p.conn conn same in
    let none : is_there ps conn ≡ false = subst (λ c. is_there ps c ≡ false) same apart.0 in
    rw (is, without_none ps conn none)
removed (p ∷ ps) (suc i) conn d apart within same =
    let below : i < length ps = omega arith in
    let away : is_of p.conn (slice_index_or ps i d) ≡ false = none_at ps p.conn i d apart.0 below in
    let other : is_of conn p ≡ false = one_of (is_of conn p) (λ e.
    let met : is_of p.conn (slice_index_or ps i d) ≡ true = eq-eqb (slice_index_or ps i d).conn p.conn (same ∙ sym (eqb-true p.conn conn e)) in cc) in
    rw (other, removed ps i conn d apart.1 below same)

-- what was put in a place goes with it
set_removed : (ps : Peers) (i : ℕ) (q : Peer) → remove (slice_set ps i q) i ≡ remove ps i
set_removed [] i q = refl
set_removed (p ∷ ps) zero q = refl
set_removed (p ∷ ps) (suc i) q = rw (set_removed ps i q)

-- where no place is found, no element passes
from_none : {X : Type 0} (t : X → Bool) (i : ℕ) (xs : List X) → position_from t i xs ≡ None → list_any t xs ≡ false
from_none t i [] none = refl
from_none t i (x ∷ xs) none =
    elim (cases_Bool (t x)) [
      | inl e ↦ let some : Some i ≡ None = rw e at none in absurd (cc)
      | inr e ↦ let rest : position_from t (i + 1) xs ≡ None = rw e at none in rw (e, from_none t (i + 1) xs rest)
    ]

-- and none is found
find_none : {X : Type 0} (t : X → Bool) (xs : List X) → list_any t xs ≡ false → find t xs ≡ None
find_none t [] none = refl
find_none t (x ∷ xs) none =
    let h = both_false (t x) (list_any t xs) none in rw (h.0, find_none t xs h.1)

-- a place that is found is the first that passes
place_or_len : {X : Type 0} (t : X → Bool) (xs : List X) (i : ℕ) → position t xs ≡ Some i → position_or_len t xs ≡ i
place_or_len t xs i at =
    elim (cases_Bool (nat_lt (position_or_len t xs) (length xs))) [
      | inl e ↦ let some : Some (position_or_len t xs) ≡ Some i = rw e at at in cc
      | inr e ↦ let none : ◌≡◌ {A = Option ℕ} None (Some i) = rw e at at in absurd (cc)
    ]

-- what the place of a connection tells of its peer
pub place_found : (ps : Peers) (conn i : ℕ) (d : Peer) → position (is_of conn) ps ≡ Some i → (i < length ps) × ((slice_index_or ps i d).conn ≡ conn) × (peer_of ps conn ≡ Some (slice_index_or ps i d)) × (is_there ps conn ≡ true)
place_found ps conn i d at =
    let h = position-Some (is_of conn) ps i d at in
    let within : i < length ps = h.0 in
    let is : is_of conn (slice_index_or ps i d) ≡ true = h.1 in (
      within,
      eqb-true (slice_index_or ps i d).conn conn is,
      find_at (is_of conn) ps ∙ ap (slice_get ps) (place_or_len (is_of conn) ps i at) ∙ slice_get-get_or ps i d within,
      list_any_at (is_of conn) ps i d within is,
    )

-- what the want of a place tells
pub place_none : (ps : Peers) (conn : ℕ) → position (is_of conn) ps ≡ None → (peer_of ps conn ≡ None) × (is_there ps conn ≡ false)
place_none ps conn at =
    let none = from_none (is_of conn) 0 ps (sym (position_from-zero (is_of conn) ps) ∙ at) in
    (find_none (is_of conn) ps none, none)

-- a connection that is forgotten at its place
pub gone_there : (ps : Peers) (i conn : ℕ) (d : Peer) → AreApart ps → position (is_of conn) ps ≡ Some i → remove ps i ≡ without ps conn
gone_there ps i conn d apart at = let h = place_found ps conn i d at in removed ps i conn d apart h.0 h.1

-- and one that is not there
pub gone_nowhere : (ps : Peers) (conn : ℕ) → position (is_of conn) ps ≡ None → ps ≡ without ps conn
gone_nowhere ps conn at = sym (without_none ps conn (place_none ps conn at).1)

length-without : (ps : Peers) (conn : ℕ) → length (without ps conn) ≤ length ps
length-without ps conn = omega (arith, length-filter_both (λ p. not (is_of conn p)) (is_of conn) (λ p. sym (not_not (is_of conn p))) ps)
  where
    not_not : (b : Bool) → not (not b) ≡ b
    not_not true = refl
    not_not false = refl

pub AreKept-without : (ps : Peers) (conn : ℕ) → AreKept ps → AreKept (without ps conn)
AreKept-without ps conn kept = record {
  few = let fewer = length-without ps conn in let few = kept.few in omega arith;
  waiting = All-filter (λ p. not (is_of conn p)) (λ p. found p.bytes ≡ short) ps kept.waiting;
  apart = AreApart-without ps conn kept.apart;
}

pub AreKept-replaced : (ps : Peers) (q : Peer) → AreKept ps → found q.bytes ≡ short → AreKept (replaced ps q)
AreKept-replaced ps q kept waits = record {
  few = let few = kept.few in rw length-map few;
  waiting = All-map (λ p. found p.bytes ≡ short) (λ p. if is_of q.conn p then q else p) ps
      (All-weaker (λ p. found p.bytes ≡ short) (λ p. found (if is_of q.conn p then q else p).bytes ≡ short)
      (λ p waited. elim (cases_Bool (is_of q.conn p)) [ inl e ↦ rw e waits | inr e ↦ rw e waited ]) ps kept.waiting);
  apart = AreApart-replaced ps q kept.apart;
}

pub AreKept-push : (ps : Peers) (q : Peer) → AreKept ps → length ps < most_connections → is_there ps q.conn ≡ false → found q.bytes ≡ short → AreKept (ps ++ q ∷ [])
AreKept-push ps q kept room none waits = record {
  few = omega (arith, length-append ps (q ∷ []));
  waiting = All-push (λ p. found p.bytes ≡ short) ps q kept.waiting waits;
  apart = AreApart-push ps q kept.apart none;
}

-- no bytes are less than a frame
pub found_nothing : found [] ≡ short
unfolding found found_magic
found_nothing = refl

-- one at its place, with less than a frame, in place of the one before
pub AreKept-set : (ps : Peers) (i : ℕ) (q d : Peer) → AreKept ps → i < length ps → (slice_index_or ps i d).conn ≡ q.conn → found q.bytes ≡ short → AreKept (slice_set ps i q)
AreKept-set ps i q d kept within same waits =
    rw (sym (replaced-set ps i q d kept.apart within same)) (AreKept-replaced ps q kept waits)

-- a connection that is there begins anew at its place
pub reopened : (ps : Peers) (i conn now : ℕ) (bytes : List ℕ) (d : Peer) → AreApart ps → position (is_of conn) ps ≡ Some i → bytes ≡ []
    → slice_set ps i (record { conn = (slice_index_or ps i d).conn; since = now; bytes = bytes }) ≡ (if may_open ps conn then opened ps conn now else ps)
reopened ps i conn now bytes d apart at empty =
    let h = place_found ps conn i d at in
    rw (empty, h.1, h.3) (sym (replaced-set ps i (fresh conn now) d apart h.0 h.1))

-- another one joins behind the others where there is room
pub joined : (ps : Peers) (conn now : ℕ) (bytes : List ℕ) → is_there ps conn ≡ false → length ps < most_connections → bytes ≡ []
    → ps ++ record { conn = conn; since = now; bytes = bytes } ∷ [] ≡ (if may_open ps conn then opened ps conn now else ps)
joined ps conn now bytes none room empty = rw (empty, none, lt-ltb (length ps) most_connections room)

-- another one may not open where there is no room
pub no_room : (ps : Peers) (conn : ℕ) → is_there ps conn ≡ false → most_connections ≤ length ps → may_open ps conn ≡ false
no_room ps conn none full = rw (none, le-ltb (length ps) most_connections full)

-- one that is there may open
pub room_again : (ps : Peers) (conn : ℕ) → is_there ps conn ≡ true → may_open ps conn ≡ true
room_again ps conn there = rw there

-- a piece leaves these connections, and comes to this turn
pub record Comes (before after : Peers) (conn : ℕ) (piece : List ℕ) (turn : Turn) : Type 0 where
  pub turns : turn ≡ piece_turn piece (peer_of before conn)
  pub leaves : after ≡ after_piece before piece (peer_of before conn)
  pub kept : AreKept after

-- a peer whose bytes aren't a frame yet keeps them
given-short : (p : Peer) (piece : List ℕ) → found (p.bytes ++ piece) ≡ short → given p piece ≡ with_piece p piece
given-short p piece seen = rw seen

-- the connection that is forgotten may have had a piece before
forgotten : (ps : Peers) (i conn : ℕ) (piece : List ℕ) (d : Peer) → AreKept ps → position (is_of conn) ps ≡ Some i
    → remove (slice_set ps i (given (slice_index_or ps i d) piece)) i ≡ without ps conn
forgotten ps i conn piece d kept at =
    set_removed ps i (given (slice_index_or ps i d) piece) ∙ gone_there ps i conn d kept.apart at

pub comes_short : (ps : Peers) (i conn : ℕ) (piece : List ℕ) (d : Peer) → AreKept ps → position (is_of conn) ps ≡ Some i
    → found ((slice_index_or ps i d).bytes ++ piece) ≡ short
    → Comes ps (slice_set ps i (given (slice_index_or ps i d) piece)) conn piece Nothing
unfolding piece_turn after_piece turn_at peers_at
comes_short ps i conn piece d kept at seen =
    let h = place_found ps conn i d at in
    let q : Peer = with_piece (slice_index_or ps i d) piece in
    rw (given-short (slice_index_or ps i d) piece seen) record {
      turns = rw (h.2, seen);
      leaves = rw (h.2, seen) (sym (replaced-set ps i q d kept.apart h.0 refl));
      kept = AreKept-set ps i q d kept h.0 refl seen;
    }

pub comes_whole : (ps : Peers) (i conn : ℕ) (piece : List ℕ) (d : Peer) (body behind : List ℕ) → AreKept ps → position (is_of conn) ps ≡ Some i
    → found ((slice_index_or ps i d).bytes ++ piece) ≡ whole body behind
    → Comes ps (remove (slice_set ps i (given (slice_index_or ps i d) piece)) i) conn piece (Whole conn body (slice_index_or ps i d).since)
unfolding piece_turn after_piece turn_at peers_at
comes_whole ps i conn piece d body behind kept at seen =
    let h = place_found ps conn i d at in
    let gone = forgotten ps i conn piece d kept at in record {
      turns = rw (h.2, seen, h.1);
      leaves = rw (gone, h.2, seen, h.1);
      kept = rw gone (AreKept-without ps conn kept);
    }

pub comes_bad : (ps : Peers) (i conn : ℕ) (piece : List ℕ) (d : Peer) (fault : Fault) → AreKept ps → position (is_of conn) ps ≡ Some i
    → found ((slice_index_or ps i d).bytes ++ piece) ≡ bad fault
    → Comes ps (remove (slice_set ps i (given (slice_index_or ps i d) piece)) i) conn piece (Shut conn)
unfolding piece_turn after_piece turn_at peers_at
comes_bad ps i conn piece d fault kept at seen =
    let h = place_found ps conn i d at in
    let gone = forgotten ps i conn piece d kept at in record {
      turns = rw (h.2, seen, h.1);
      leaves = rw (gone, h.2, seen, h.1);
      kept = rw gone (AreKept-without ps conn kept);
    }

-- a piece of a connection that is not there
pub comes_nowhere : (ps : Peers) (conn : ℕ) (piece : List ℕ) → AreKept ps → position (is_of conn) ps ≡ None → Comes ps ps conn piece Nothing
unfolding piece_turn after_piece
comes_nowhere ps conn piece kept at =
    let h = place_none ps conn at in record { turns = rw h.0; leaves = rw h.0; kept = kept }
