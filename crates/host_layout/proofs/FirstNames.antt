-- The places where names stand first.
use Rattle.std.proofs.Common.{◌≡◌, ℕ, Bool, true, false, List, [], ◌∷◌, ◌++◌, refl, ap, sym, ◌∙◌}
use Rattle.std.specs.Prelude.{Vec, cond, Option, Some, None, is_some, if◌then◌else◌}
use Rattle.std.specs.Prelude.{position}
use Rattle.std.specs.List.{position_from}
use Rattle.std.proofs.lemmas.Iterator.Adapters.{position_from-zero}
use Rattle.std.specs.Str.{bytes_eq}
use Rattle.std.specs.Map.{lookup}
use Rattle.std.specs.declared.alloc.Global.{Global}
use Rattle.std.specs.Cmp.Lexicographic.{nat_list_eq_equiv}
use Rattle.std.specs.Option.{option_or}

abbrev pub Entries : Type 0
Entries = List (Vec ℕ Global × ℕ)

abbrev pub at_name : List ℕ → Entries → Option ℕ
at_name sought es = lookup (λ k. bytes_eq sought k.items) es

-- a new name goes last
pub added : (es : Entries) (k : Vec ℕ Global) (place : ℕ) (sought : List ℕ) → at_name sought (es ++ (k, place) ∷ []) ≡ option_or (at_name sought es) (if bytes_eq k.items sought then Some place else None)
added [] k place sought = ap (λ b. cond b (Some place) None) (nat_list_eq_equiv.symm sought k.items)
added (e ∷ es) k place sought = at (bytes_eq sought e.0.items) _ _ _ (added es k place sought)
  where
    at : (b : Bool) (all before : Option ℕ) (last : Option ℕ) → all ≡ option_or before last → cond b (Some e.1) all ≡ option_or (cond b (Some e.1) before) last
    at true all before last h = refl
    at false all before last h = h

no_value : {A : Type 0} (o : Option A) → is_some o ≡ false → o ≡ None
no_value None h = refl
no_value (Some a) h = absurd cc

-- a name that isn't found has no place
pub absent : (es : Entries) (k : Vec ℕ Global) (name : List ℕ) → k.items ≡ name → is_some (at_name name es) ≡ false → lookup (λ x. bytes_eq k.items x.items) es ≡ None
absent es k name e h = rw e (no_value (at_name name es) h)

or_none : {A : Type 0} (o : Option A) → option_or o None ≡ o
or_none None = refl
or_none (Some a) = refl

-- behind the last name the place is the first that passes
pub all_named : {A : Type 0} (t : A → Bool) (xs rest : List A) (n : ℕ) (o : Option ℕ) → rest ≡ [] → option_or o (position_from t n rest) ≡ position_from t 0 xs → o ≡ position t xs
all_named t xs rest n o e h = sym (or_none o) ∙ ap (λ r. option_or o (position_from t n r)) (sym e) ∙ h ∙ sym (position_from-zero t xs)
