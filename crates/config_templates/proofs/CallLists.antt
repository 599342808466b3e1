-- Lists of calls, call by call.
use Rattle.std.proofs.Common.{◌≡◌, Bool, true, false, List, [], ◌∷◌, ◌++◌, map, refl, ap, sym, ◌∙◌, Option, Some, None}
use Rattle.std.proofs.Math.Bool.{or_assoc}
use Rattle.std.specs.Prelude.{◌||◌}
use Rattle.std.specs.List.{list_any}
use Rattle.std.specs.Option.{option_or}
use Rattle.zbx_types.specs.declared.causes.Cause.{Cause}
use Rattle.config_templates.specs.Expressions.{first_cause}

pub map_one : {A B : Type 0} (f : A → B) (xs : List A) (x : A) → map f (xs ++ x ∷ []) ≡ map f xs ++ f x ∷ []
map_one f [] x = refl
map_one f (y ∷ xs) x = ap (λ ys. f y ∷ ys) (map_one f xs x)

or_nothing : (a : Bool) → (a || false) ≡ a
or_nothing true = refl
or_nothing false = refl

pub any_one : {A : Type 0} (t : A → Bool) (xs : List A) (x : A) → list_any t (xs ++ x ∷ []) ≡ (list_any t xs || t x)
any_one t [] x = or_nothing (t x)
any_one t (y ∷ xs) x = ap (λ b. t y || b) (any_one t xs x) ∙ sym (or_assoc (t y) (list_any t xs) (t x))

else_assoc : {A : Type 0} (a b c : Option A) → option_or a (option_or b c) ≡ option_or (option_or a b) c
else_assoc (Some a) b c = refl
else_assoc None b c = refl

else_nothing : {A : Type 0} (a : Option A) → option_or a None ≡ a
else_nothing (Some a) = refl
else_nothing None = refl

pub first_one : {A : Type 0} (f : A → Option Cause) (xs : List A) (x : A) → first_cause f (xs ++ x ∷ []) ≡ option_or (first_cause f xs) (f x)
first_one f [] x = else_nothing (f x)
first_one f (y ∷ xs) x = ap (λ o. option_or (f y) o) (first_one f xs x) ∙ else_assoc (f y) (first_cause f xs) (f x)
