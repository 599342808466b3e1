-- The connections as contracts see them, and the map that keeps them.
use Rattle.std.proofs.Common.{◌≡◌, ℕ, zero, suc, List, [], ◌∷◌, map, Option, Some, None, is_some, true, ◌∙◌, ◌+◌, sym, subst, if◌then◌else◌, length, slice_get, slice_index_or, refl, ap, arith}
use Rattle.std.specs.Option.{option_map}
use Rattle.std.specs.Map.{lookup, values_of}
use Rattle.std.proofs.lemmas.Map.Made.{lookup-map_values}
use Rattle.std.specs.Prelude.{nat_eq}
use Rattle.wire_mio.specs.declared.peer.Peer.{Peer}
use Rattle.wire_mio.specs.declared.peer.Kind.{Kind}
use Rattle.wire_mio.specs.Tables.{Held, held_of, seen, is_kind, IsAt}

-- what a number has is what the map has there
pub held_seen : (conn : ℕ) (entries : List (ℕ × Peer)) → lookup (nat_eq conn) (map seen entries) ≡ option_map held_of (lookup (nat_eq conn) entries)
held_seen conn entries = lookup-map_values held_of (nat_eq conn) entries

-- what stands at a place among all of them
pub all_at : (entries : List (ℕ × Peer)) (i : ℕ) (entry : ℕ × Peer) → slice_get entries i ≡ Some entry → (d : Held) → slice_index_or (values_of (map seen entries)) i d ≡ held_of entry.1
all_at [] i entry at d = grind arith
all_at (e ∷ es) zero entry at d = grind arith
all_at (e ∷ es) (suc i) entry at d = all_at es i entry at d

-- how many they are
pub all_length : (entries : List (ℕ × Peer)) → length (values_of (map seen entries)) ≡ length entries
all_length [] = refl
all_length (e ∷ es) = ap suc (all_length es)

-- whether a number has something
pub is_some_seen : (conn : ℕ) (entries : List (ℕ × Peer)) → is_some (lookup (nat_eq conn) (map seen entries)) ≡ is_some (lookup (nat_eq conn) entries)
is_some_seen conn entries = ap is_some (held_seen conn entries) ∙ is_some_map (lookup (nat_eq conn) entries)
  where
    is_some_map : (o : Option Peer) → is_some (option_map held_of o) ≡ is_some o
    is_some_map None = refl
    is_some_map (Some p) = refl

-- as many as they are
seen_length : (entries : List (ℕ × Peer)) → length (map seen entries) ≡ length entries
seen_length [] = refl
seen_length (e ∷ es) = ap suc (seen_length es)

-- one was there, and is taken out
pub removed_count : (conn : ℕ) (old new : List (ℕ × Peer)) (gone : Option Peer) → gone ≡ lookup (nat_eq conn) old → length new + (if is_some gone then 1 else 0) ≡ length old → is_some (lookup (nat_eq conn) (map seen old)) ≡ true → length (map seen new) + 1 ≡ length (map seen old)
removed_count conn old new gone is count there =
    let some : is_some gone ≡ true = ap is_some is ∙ sym (is_some_seen conn old) ∙ there in
    ap (λ n. n + 1) (seen_length new) ∙ subst (λ b. length new + (if b then 1 else 0) ≡ length old) some count ∙ sym (seen_length old)

-- what an entry at a place is seen as, where it is of a kind
pub at_seen : (k : Kind) (entries : List (ℕ × Peer)) (moment room i conn : ℕ) (p : Peer) → slice_get entries i ≡ Some (conn, p) → lookup (nat_eq conn) entries ≡ Some p → is_kind k moment (held_of p) ≡ true → IsAt k (record { entries = map seen entries; moment = moment; room = room }) i (Some (conn, p.since))
at_seen k entries moment room i conn p at there is = ((held_of p, held_seen conn entries ∙ ap (option_map held_of) there, is, refl), λ d. ap (λ (h : Held). h.since) (all_at entries i (conn, p) at d))
