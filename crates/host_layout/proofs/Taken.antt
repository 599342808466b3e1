-- The names of a set of names.
use Rattle.std.proofs.Common.{◌≡◌, ℕ, Bool, List, [], ◌∷◌, map, refl, ap, ◌∙◌}
use Rattle.std.specs.Prelude.{String, string_bytes, ◌==◌, ◌&&◌, ◌||◌, position}
use Rattle.std.specs.List.{list_any, position_or_len}
use Rattle.std.specs.Str.{bytes_eq}
use Rattle.std.specs.declared.alloc.Global.{Global}
use Rattle.std.proofs.lemmas.List.{length-map}
use Rattle.std.specs.Cmp.Lexicographic.{nat_list_eq_equiv}
use Rattle.std.specs.Cmp.{nat_eq_equiv}
use Rattle.zbx_types.specs.declared.items.Item.{Item}
use Rattle.host_layout.specs.Items.{has_item}
use Rattle.host_layout.specs.Names.{Named, named, is_named, has_named, named_items}

abbrev Key : Type 0
Key = ℕ × String Global

abbrev same : Key → Key → Bool
same x y = (x.0 == y.0) && bytes_eq (string_bytes x.1) (string_bytes y.1)

abbrev seen : Key → Named
seen k = named k.0 (string_bytes k.1)

pub same_named : (x k : Key) → same x k ≡ is_named x.0 (string_bytes x.1) (seen k)
same_named x k = ap (λ b. b && bytes_eq (string_bytes x.1) (string_bytes k.1)) (nat_eq_equiv.symm x.0 k.0) ∙ ap (λ b. (k.0 == x.0) && b) (nat_list_eq_equiv.symm (string_bytes x.1) (string_bytes k.1))

names_any : (x : Key) (ks : List Key) → list_any (same x) ks ≡ has_named (map seen ks) x.0 (string_bytes x.1)
names_any x [] = refl
names_any x (k ∷ ks) = rw (same_named x k, names_any x ks) refl

lens_named : (x : Key) (ks : List Key) → position_or_len (same x) ks ≡ position_or_len (is_named x.0 (string_bytes x.1)) (map seen ks)
lens_named x [] = refl
lens_named x (k ∷ ks) = rw (same_named x k, lens_named x ks) refl

names_position : (x : Key) (ks : List Key) → position (same x) ks ≡ position (is_named x.0 (string_bytes x.1)) (map seen ks)
names_position x ks = rw (lens_named x ks, length-map ks seen) refl

-- a name is among those of the set, and stands there, where it is and stands among the names that it is seen as
pub is_among : (x : Key) (ks : List Key) (names : List Named) (name : List ℕ) → map seen ks ≡ names → string_bytes x.1 ≡ name → list_any (same x) ks ≡ has_named names x.0 name
is_among x ks names name e i = rw (← e, ← i) (names_any x ks)

pub stands_at : (x : Key) (ks : List Key) (names : List Named) (name : List ℕ) → map seen ks ≡ names → string_bytes x.1 ≡ name → position (same x) ks ≡ position (is_named x.0 name) names
stands_at x ks names name e i = rw (← e, ← i) (names_position x ks)

-- an item is among others where its name is among theirs
pub has_item_named : (items : List Item) (host : ℕ) (key : List ℕ) → has_named (named_items items) host key ≡ has_item items host key
has_item_named [] host key = refl
has_item_named (i ∷ items) host key = ap (λ b. ((i.host == host) && bytes_eq i.key key) || b) (has_item_named items host key)
