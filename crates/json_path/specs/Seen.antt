-- Values that are borrowed from a tree.
use Rattle.std.specs.Prelude.{List, map}
use Rattle.json_text.specs.Json.{Json}
use Rattle.json_text.specs.Trees.{json_of}
use Rattle.json_text.specs.declared.tree.Tree.{Tree}
use denote.Ref.{Bor}

-- the values behind some borrows
abbrev pub seen : List (Bor Tree) → List Json
seen trees = map (λ t. json_of t.now) trees
