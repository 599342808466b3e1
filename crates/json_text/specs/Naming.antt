-- The members that pairs of names and values make, and where a name stands among them.
use Rattle.std.specs.Prelude.{◌≡◌, ℕ, suc, List, [], ◌∷◌, if◌then◌else◌, Option, Some, None, option_map}
use Rattle.std.specs.Str.{bytes_eq}
use Rattle.std.specs.BTreeMap.{BTreeMap, get}
use Rattle.std.specs.Cmp.Lexicographic.{slice_cmp}
use Rattle.std.specs.Ordering.{nat_cmp}
use Rattle.json_text.specs.Json.{Members, put}
use Rattle.json_text.specs.Trees.{json_of}
use Rattle.json_text.specs.declared.tree.Member.{Member}

-- the members with these put among them in turn
abbrev pub put_all : Members → List Member → Members
put_all ms [] = ms
put_all ms (p ∷ ps) = put_all (put p.name (json_of p.value) ms) ps

-- the place of the first member of this name, counted from 0
abbrev pub place_of : List ℕ → List Member → Option ℕ
place_of name [] = None
place_of name (m ∷ ms) = if bytes_eq name m.name then Some 0 else option_map suc (place_of name ms)

-- the map has the place of each name
abbrev pub Finds : BTreeMap (List ℕ) ℕ → List Member → Type 0
Finds places ms = (name : List ℕ) → get (slice_cmp nat_cmp) places name ≡ place_of name ms
