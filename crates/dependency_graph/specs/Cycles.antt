-- Links that lead back to what they are of.
use Rattle.std.specs.Prelude.{ℕ, ◌+◌, nat_eq, Bool, List, [], ◌∷◌, Option, None, option_map, position}
use Rattle.std.specs.List.{list_any}
use Rattle.std.specs.Option.{option_or}
use Rattle.dependency_graph.specs.Walks.{walk}
use Rattle.dependency_graph.specs.declared.cycles.LinkPlace.{LinkPlace}

-- a thing is another one, or leads to it by links
abbrev pub leads_to : List (List ℕ) → ℕ → ℕ → Bool
leads_to links from to = list_any (nat_eq to) (walk links (from ∷ []))

-- a link lies on a cycle: its end is the thing that it is of, or leads back to it
abbrev pub lies_on_cycle : List (List ℕ) → ℕ → ℕ → Bool
lies_on_cycle links from to = leads_to links to from

-- the place of the first of these links of a thing that lies on a cycle
abbrev pub own_on_cycle : List (List ℕ) → ℕ → List ℕ → Option ℕ
own_on_cycle links from ends = position (lies_on_cycle links from) ends

-- the first link on a cycle of the things from this one on
abbrev pub first_from : List (List ℕ) → ℕ → List (List ℕ) → Option LinkPlace
first_from links from [] = None
first_from links from (ends ∷ rest) = option_or (option_map (λ at. record { from = from; at = at }) (own_on_cycle links from ends)) (first_from links (from + 1) rest)

-- the first link that lies on a cycle: things in order, each one's links in order
unfoldable pub first_on_cycle : List (List ℕ) → Option LinkPlace
first_on_cycle links = first_from links 0 links
