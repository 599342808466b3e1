-- What expressions name.
use Rattle.std.proofs.Common.{◌≡◌, ℕ, ◌+◌, Bool, true, false, List, [], ◌∷◌, map, refl, ap, sym, ◌∙◌, get_or}
use Rattle.std.specs.Prelude.{◌==◌, ◌&&◌, ◌||◌, cond, position, Option, Some, is_some}
use Rattle.std.specs.List.{list_any, position_from}
use Rattle.std.specs.Str.{bytes_eq}
use Rattle.std.proofs.lemmas.List.Quantifiers.{position-Some}
use Rattle.std.proofs.lemmas.Slice.Eq.{bytes_eq-Decides}
use Rattle.std.proofs.lemmas.Iterator.Adapters.{position_from-zero}
use Rattle.config_read.specs.declared.raw.RawHost.{RawHost}
use Rattle.zbx_types.specs.declared.items.Item.{Item}
use Rattle.host_layout.specs.Names.{Named, named_item, named_items, is_named, is_keyed}
use Rattle.host_layout.specs.Places.{Placed}

any_from : {A : Type 0} (t : A → Bool) (n : ℕ) (xs : List A) → is_some (position_from t n xs) ≡ list_any t xs
any_from t n [] = refl
any_from t n (x ∷ xs) = at (t x) (position_from t (n + 1) xs) (list_any t xs) (any_from t (n + 1) xs)
  where
    at : (b : Bool) (o : Option ℕ) (rest : Bool) → is_some o ≡ rest → is_some (cond b (Some n) o) ≡ (b || rest)
    at true o rest h = refl
    at false o rest h = h

-- a name is the host's own where it stands among those of its sources
pub own_name : (name : List ℕ) (sources : List (Placed RawHost)) → is_some (position (λ s. bytes_eq s.body.name name) sources) ≡ list_any (λ s. bytes_eq s.body.name name) sources
own_name name sources = ap is_some (position_from-zero (λ s. bytes_eq s.body.name name) sources) ∙ any_from (λ s. bytes_eq s.body.name name) 0 sources

from_map : {A B : Type 0} (f : A → B) (t : B → Bool) (n : ℕ) (xs : List A) → position_from t n (map f xs) ≡ position_from (λ x. t (f x)) n xs
from_map f t n [] = refl
from_map f t n (x ∷ xs) = ap (λ o. cond (t (f x)) (Some n) o) (from_map f t (n + 1) xs)

-- an item stands where its name does
pub stands_at : (host : ℕ) (key : List ℕ) (names : List Named) (items : List Item) → names ≡ named_items items → position (is_named host key) names ≡ position (is_keyed host key) items
stands_at host key names items e =
    ap (position (is_named host key)) e ∙ position_from-zero (is_named host key) (named_items items) ∙ from_map named_item (is_named host key) 0 items ∙ sym (position_from-zero (is_keyed host key) items)
