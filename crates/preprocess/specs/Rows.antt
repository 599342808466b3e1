-- Rows of items by their ids.
use Rattle.std.specs.Prelude.{ℕ, ◌-◌, ◌==◌, List, [], ◌∷◌, ◌++◌, slice_set, if◌then◌else◌}
use Rattle.zbx_types.specs.declared.items.Item.{Item}
use Rattle.preprocess.specs.Chains.{listed, is_dependent}

-- the rows with another one for the item with this id
unfoldable pub with_row : {A : Type 0} → List A → ℕ → A → List A
with_row rows id row = if id == 0 then rows else slice_set rows (id - 1) row

-- the lists with an id more in the list of an item
abbrev pub with_id : List (List ℕ) → ℕ → ℕ → List (List ℕ)
with_id rows item id = with_row rows item (listed rows item ++ id ∷ [])

-- the lists with an item's id in that of the item that it depends on
abbrev pub noted : List (List ℕ) → Item → ℕ → List (List ℕ)
noted rows item id = if is_dependent item then with_id rows item.master id else rows
