-- The peers of a table's entries.
use Rattle.std.specs.Prelude.{◌≡◌, ℕ, List, [], ◌∷◌, ◌++◌, ◌==◌, false, Some, None, refl, Result, Ok, Err, IfOk, OnOk, OnErr, slice_get, slice_index_or, slice_set, position, remove, nat_eq}
use Rattle.std.specs.List.{position_or_len}
use Rattle.std.proofs.Common.{sym, ap, subst, ◌∙◌, inl, inr, zero, suc}
use Rattle.std.proofs.lemmas.List.{length-map, map-append}
use Rattle.std.proofs.lemmas.Bool.{eq-eqb, eqb-true}
use Rattle.std.proofs.lemmas.Bool.Decides.{eqb_tells}
use Rattle.std.specs.Map.{keys_of, values_of}
use Rattle.indexmap.specs.IndexMap.{insert_entry, set_value_at}
use Rattle.zbxd_frame.specs.Found.{short, found}
use Rattle.zbxd_frame.specs.Answers.{Answers, fed_with, left_of}
use Rattle.zbxd_frame.specs.declared.feed.Fed.{Fed}
use Rattle.wire_core.specs.declared.peer.Peer.{Peer}
use Rattle.wire_core.specs.declared.peer.Opened.{Opened}
use Rattle.wire_core.specs.Peers.{is_of, is_there}
use Rattle.wire_core.specs.Kept.{begun, given, peers_in}
use Rattle.wire_core.proofs.PeerLaws.{both_false, one_of, place_none}

-- the peer at a place has what is kept there
pub kept_at : (es : List (ℕ × Opened)) (i : ℕ) (w : Opened) (d : Peer) → slice_get (values_of es) i ≡ Some w
    → slice_index_or (peers_in es) i d ≡ begun (slice_index_or (peers_in es) i d).conn w
kept_at [] i w d at = absurd (cc)
kept_at (e ∷ es) zero w d at = let same : e.1 ≡ w = cc in ap (begun e.0) same
kept_at (e ∷ es) (suc i) w d at = kept_at es i w d at

-- what is put in a place is put in its peer
pub set_at : (es : List (ℕ × Opened)) (i : ℕ) (w : Opened) (d : Peer)
    → peers_in (set_value_at es i w) ≡ slice_set (peers_in es) i (begun (slice_index_or (peers_in es) i d).conn w)
set_at [] i w d = refl
set_at (e ∷ es) zero w d = refl
set_at (e ∷ es) (suc i) w d = rw (set_at es i w d)

-- the peer goes with the entry at its place
pub gone_at : (es : List (ℕ × Opened)) (i : ℕ) → peers_in (remove es i) ≡ remove (peers_in es) i
gone_at [] zero = refl
gone_at [] (suc i) = refl
gone_at (e ∷ es) zero = refl
gone_at (e ∷ es) (suc i) = rw (gone_at es i)

-- what is put back leaves all as it was
put_back : (es : List (ℕ × Opened)) (i : ℕ) (w : Opened) → slice_get (values_of es) i ≡ Some w → set_value_at es i w ≡ es
put_back [] i w at = refl
put_back (e ∷ es) zero w at = let same : e.1 ≡ w = cc in rw (sym same)
put_back (e ∷ es) (suc i) w at = rw (put_back es i w at)

flipped : (a b : ℕ) → (a == b) ≡ (b == a)
flipped a b =
    elim (eqb_tells a b) [
      | inl h ↦ h.0 ∙ sym (eq-eqb b a (sym h.1))
      | inr h ↦ h.0 ∙ sym (one_of (b == a) (λ e. h.1 (sym (eqb-true b a e))))
    ]

same_place : (es : List (ℕ × Opened)) (conn : ℕ) → position_or_len (nat_eq conn) (keys_of es) ≡ position_or_len (is_of conn) (peers_in es)
same_place [] conn = refl
same_place (e ∷ es) conn = rw (flipped conn e.0, same_place es conn)

-- a key stands where the peer of its connection does
pub key_place : (es : List (ℕ × Opened)) (conn : ℕ) → position (nat_eq conn) (keys_of es) ≡ position (is_of conn) (peers_in es)
key_place es conn = rw (same_place es conn, length-map es (λ e. e.0), length-map es (λ e. begun e.0 e.1))

added : (es : List (ℕ × Opened)) (conn : ℕ) (w : Opened) → is_there (peers_in es) conn ≡ false → insert_entry nat_eq es conn w ≡ es ++ (conn, w) ∷ []
added [] conn w none = refl
added (e ∷ es) conn w none =
    let h = both_false (is_of conn (begun e.0 e.1)) (is_there (peers_in es) conn) none in
    let other : (conn == e.0) ≡ false = flipped conn e.0 ∙ h.0 in
    rw (other, added es conn w h.1)

-- a connection that was not there goes last
pub joined_last : (es : List (ℕ × Opened)) (conn : ℕ) (w : Opened) → position (is_of conn) (peers_in es) ≡ None
    → peers_in (insert_entry nat_eq es conn w) ≡ peers_in es ++ begun conn w ∷ []
joined_last es conn w at =
    ap peers_in (added es conn w (place_none (peers_in es) conn at).1) ∙ map-append (λ e. begun e.0 e.1) es ((conn, w) ∷ [])

-- a feed that waits takes the whole piece
fed_short : (bytes piece : List ℕ) → found bytes ≡ short → fed_with bytes piece ≡ bytes ++ piece
fed_short bytes piece waits = rw waits

-- what the feed at a place answers
pub answered : {E : Type 0} (result : Result Fed E) (es : List (ℕ × Opened)) (i : ℕ) (w : Opened) (piece : List ℕ) → slice_get (values_of es) i ≡ Some w
    → ((d : Peer) → found (slice_index_or (peers_in es) i d).bytes ≡ short)
    → IfOk result (λ fed. Answers fed (found (fed_with w.bytes piece)))
    → IfOk result (λ fed. (d : Peer) → Answers fed (found ((slice_index_or (peers_in es) i d).bytes ++ piece)))
answered (Ok fed) es i w piece at waits says = λ d.
    let same : (slice_index_or (peers_in es) i d).bytes ≡ w.bytes = ap (λ (p : Peer). p.bytes) (kept_at es i w d at) in
    let waiting : found w.bytes ≡ short = subst (λ b. found b ≡ short) same (waits d) in
    subst (λ b. Answers fed (found b)) (fed_short w.bytes piece waiting ∙ ap (λ b. b ++ piece) (sym same)) says
answered (Err e) es i w piece at waits says = tt

-- the peer of a feed that took a piece
made : (p : Peer) (w : Opened) (piece left : List ℕ) → p ≡ begun p.conn w → found p.bytes ≡ short → left ≡ left_of (fed_with w.bytes piece)
    → begun p.conn (record { since = w.since; bytes = left }) ≡ given p piece
made p w piece left is waits took =
    let since : p.since ≡ w.since = ap (λ (q : Peer). q.since) is in
    let same : p.bytes ≡ w.bytes = ap (λ (q : Peer). q.bytes) is in
    let waiting : found w.bytes ≡ short = subst (λ b. found b ≡ short) same waits in
    let now : left ≡ left_of (w.bytes ++ piece) = took ∙ ap left_of (fed_short w.bytes piece waiting) in
    rw (since, same, now)

-- the peers once the feed at a place took a piece
pub taken : {E : Type 0} (result : Result Fed E) (es : List (ℕ × Opened)) (i : ℕ) (w : Opened) (piece left : List ℕ) → slice_get (values_of es) i ≡ Some w
    → ((d : Peer) → found (slice_index_or (peers_in es) i d).bytes ≡ short)
    → OnOk result (left ≡ left_of (fed_with w.bytes piece))
    → OnOk result ((d : Peer) → peers_in (set_value_at es i (record { since = w.since; bytes = left })) ≡ slice_set (peers_in es) i (given (slice_index_or (peers_in es) i d) piece))
taken (Ok fed) es i w piece left at waits took = λ d.
    set_at es i (record { since = w.since; bytes = left }) d
    ∙ ap (slice_set (peers_in es) i) (made (slice_index_or (peers_in es) i d) w piece left (kept_at es i w d at) (waits d) took)
taken (Err e) es i w piece left at waits took = tt

-- and where memory was refused
pub refused : {E : Type 0} (result : Result Fed E) (es : List (ℕ × Opened)) (i : ℕ) (w : Opened) (left : List ℕ) → slice_get (values_of es) i ≡ Some w
    → OnErr result (left ≡ w.bytes)
    → OnErr result (peers_in (set_value_at es i (record { since = w.since; bytes = left })) ≡ peers_in es)
refused (Ok fed) es i w left at as_before = tt
refused (Err e) es i w left at as_before = rw as_before (ap peers_in (put_back es i w at))
