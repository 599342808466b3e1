-- What is noted of things on the way.
use Rattle.std.specs.Prelude.{◌≡◌, ℕ, ◌<◌, ◌≤◌, nat_eq, Bool, false, List, [], length, map, get_or, All, slice_index_or}
use Rattle.std.specs.List.{list_any}
use Rattle.dependency_graph.specs.Depths.{one_longer}

-- each link leads to one of the things
abbrev pub IsClosed : List (List ℕ) → Type 0
IsClosed links = All (λ ends. All (λ t. t < length links) ends) links

-- a table says of each number below its length whether it is in a list, and the list has no others
pub record IsTable (met : List Bool) (queue : List ℕ) : Type 0 where
  pub says : (k : ℕ) → k < length met → slice_index_or met k false ≡ list_any (nat_eq k) queue
  pub below : All (λ t. t < length met) queue

-- no link leads to a thing with a smaller number
abbrev pub NeverFall : List (List ℕ) → List ℕ → Type 0
NeverFall links numbers = (k : ℕ) → k < length links → All (λ t. get_or numbers k 0 ≤ get_or numbers t 0) (get_or links k [])

-- the depth of a thing, by the depths of those that it has links to
abbrev pub next_depth : List ℕ → List ℕ → ℕ
next_depth depths ends = one_longer (map (λ end. get_or depths end 0) ends)

-- each thing is one deeper than the deepest that it has a link to, and no depth is above the number of things
pub record AreDepths (links : List (List ℕ)) (depths : List ℕ) : Type 0 where
  pub size : length depths ≡ length links
  pub next : (k : ℕ) → k < length links → get_or depths k 0 ≡ next_depth depths (get_or links k [])
  pub most : All (λ d. d ≤ length links) depths
