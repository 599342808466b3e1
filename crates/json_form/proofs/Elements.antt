-- The elements of a list of a document.
use Rattle.std.proofs.Common.{◌≡◌, ℕ, suc, List, [], ◌∷◌, length, refl, ap}
use Rattle.serde_json.specs.View.{items_view}
use Rattle.serde_json.specs.declared.value.Value.{Value}
use Rattle.json_form.specs.Lists.{count}

-- there are as many elements as values
pub count_items : (vs : List Value) → count (items_view vs) ≡ length vs
count_items [] = refl
count_items (v ∷ vs) = ap (λ (n : ℕ). suc n) (count_items vs)
