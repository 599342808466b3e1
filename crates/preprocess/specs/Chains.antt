-- What is found of the items at the opening: the dependents of each, and the ways of its steps.
use Rattle.std.specs.Prelude.{◌≡◌, ℕ, ◌+◌, ◌==◌, Bool, ◌&&◌, not, List, [], ◌∷◌, ◌++◌, ◌≤◌, length, map, if◌then◌else◌}
use Rattle.std.specs.Option.{unwrap_or}
use Rattle.zbx_types.specs.Ids.{at_id}
use Rattle.zbx_types.specs.Items.{is_received_kind}
use Rattle.zbx_types.specs.declared.conf.Conf.{Conf}
use Rattle.zbx_types.specs.declared.items.Item.{Item}
use Rattle.preprocess.specs.Ways.{ways_for}
use Rattle.preprocess.specs.declared.chains.Chains.{Chains}

-- an item is an enabled dependent
abbrev pub is_dependent : Item → Bool
is_dependent item = not (is_received_kind item.kind) && item.enabled

-- an item is an enabled dependent of the item with this id
abbrev pub depends_on : ℕ → Item → Bool
depends_on id item = is_dependent item && (item.master == id)

-- the ids of those of some items, the first of which has this id, that are enabled dependents of an item
abbrev pub dependents_from : ℕ → ℕ → List Item → List ℕ
dependents_from master id [] = []
dependents_from master id (item ∷ items) =
    (if depends_on master item then id ∷ [] else []) ++ dependents_from master (id + 1) items

-- the ids of an item's enabled dependents, in the order of items (the Zabbix 6.0 manual, "Dependent items")
unfoldable pub dependents_of : Conf → ℕ → List ℕ
dependents_of conf id = dependents_from id 1 conf.items

-- the list of the item with an id; an item without one has none
abbrev pub listed : {A : Type 0} → List (List A) → ℕ → List A
listed rows id = unwrap_or (at_id rows id) []

-- what was found is that of the configuration with these patterns
pub record AreChainsOf (conf : Conf) (patterns : List (List ℕ)) (chains : Chains) : Type 0 where
  pub below : (id : ℕ) → 1 ≤ id → id ≤ length conf.items → listed chains.below.items id ≡ dependents_of conf id
  pub ways : chains.ways.items ≡ map (ways_for patterns) conf.items
