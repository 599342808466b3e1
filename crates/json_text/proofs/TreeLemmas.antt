-- Trees of the code that grow at the end.
use Rattle.std.proofs.Common.{◌≡◌, List, [], ◌∷◌, ◌++◌, refl, ap}
use Rattle.json_text.specs.Json.{item, add}
use Rattle.json_text.specs.Trees.{json_of, items_of}
use Rattle.json_text.specs.declared.tree.Tree.{Tree}

pub items_of-snoc : (ts : List Tree) (t : Tree) → items_of (ts ++ t ∷ []) ≡ add (items_of ts) (json_of t)
items_of-snoc [] t = refl
items_of-snoc (s ∷ ts) t = ap (item (json_of s)) (items_of-snoc ts t)
