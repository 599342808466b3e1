-- The first macro of a name, in a list and in two.
use Rattle.std.proofs.Common.{◌≡◌, ℕ, ◌+◌, ◌<◌, Bool, true, false, List, [], ◌∷◌, ◌++◌, length, take, get_or, map, Option, Some, None, option_map, refl, sym, ◌∙◌, ap}
use Rattle.std.specs.List.{find}
use Rattle.std.specs.Option.{option_or, option_map_or}
use Rattle.std.specs.Str.{bytes_eq}
use Rattle.std.proofs.lemmas.List.{map_more}
use Rattle.std.proofs.lemmas.List.Folds.{find-append}
use Rattle.macro_text.specs.declared.macros.Macro.{Macro}
use Rattle.macro_text.specs.declared.macros.MacroRef.{MacroRef}
use Rattle.macro_text.specs.Expanded.{value_of}
use Rattle.macro_text.specs.Index.{macro_now, first_value, noted}

value_or : (a b : Option Macro) → option_map (λ (m : Macro). m.value) (option_or a b) ≡ option_or (option_map (λ (m : Macro). m.value) a) (option_map (λ (m : Macro). m.value) b)
value_or None b = refl
value_or (Some a) b = refl

-- the first of two lists that has the name gives it
pub two_lists : (xs ys : List Macro) (name : List ℕ) → first_value (xs ++ ys) name ≡ option_or (first_value xs name) (first_value ys name)
two_lists xs ys name =
    ap (option_map (λ m. m.value)) (find-append (λ m. bytes_eq m.name name) xs ys) ∙ value_or (find (λ m. bytes_eq m.name name) xs) (find (λ m. bytes_eq m.name name) ys)

value_by : (o : Option Macro) (name : List ℕ) → option_map_or (λ (m : Macro). m.value) o name ≡ option_map_or (λ v. v) (option_map (λ (m : Macro). m.value) o) name
value_by None name = refl
value_by (Some m) name = refl

-- the value of a name is the first value, or the name
by_first : (macros : List Macro) (name : List ℕ) → value_of macros name ≡ option_map_or (λ v. v) (first_value macros name) name
by_first macros name = value_by (find (λ m. bytes_eq m.name name) macros) name

by_two : (xs ys : List Macro) (name : List ℕ) → value_of (xs ++ ys) name ≡ option_map_or (λ v. v) (option_or (first_value xs name) (first_value ys name)) name
by_two xs ys name = by_first (xs ++ ys) name ∙ ap (λ o. option_map_or (λ v. v) o name) (two_lists xs ys name)

pub found_near : (xs ys : List Macro) (name value : List ℕ) → first_value xs name ≡ Some value → value_of (xs ++ ys) name ≡ value
found_near xs ys name value e = by_two xs ys name ∙ ap (λ o. option_map_or (λ v. v) (option_or o (first_value ys name)) name) e

pub found_global : (xs ys : List Macro) (name value : List ℕ) → first_value xs name ≡ None → first_value ys name ≡ Some value → value_of (xs ++ ys) name ≡ value
found_global xs ys name value e f =
    by_two xs ys name ∙ ap (λ o. option_map_or (λ v. v) (option_or o (first_value ys name)) name) e ∙ ap (λ o. option_map_or (λ v. v) o name) f

pub found_none : (xs ys : List Macro) (name : List ℕ) → first_value xs name ≡ None → first_value ys name ≡ None → value_of (xs ++ ys) name ≡ name
found_none xs ys name e f =
    by_two xs ys name ∙ ap (λ o. option_map_or (λ v. v) (option_or o (first_value ys name)) name) e ∙ ap (λ o. option_map_or (λ v. v) o name) f

one : (m : Macro) (name : List ℕ) → first_value (m ∷ []) name ≡ noted None (bytes_eq m.name name) m.value
one m name = at (bytes_eq m.name name) refl
  where
    at : (b : Bool) → bytes_eq m.name name ≡ b → first_value (m ∷ []) name ≡ noted None b m.value
    at true e = rw e refl
    at false e = rw e refl

-- one macro more
pub first_more : (listed : List MacroRef) (i : ℕ) (m : MacroRef) (name : List ℕ) (before after : Option (List ℕ)) → i < length listed → m ≡ get_or listed i m
    → before ≡ first_value (map macro_now (take i listed)) name → after ≡ noted before (bytes_eq m.name.now name) m.value.now → after ≡ first_value (map macro_now (take (i + 1) listed)) name
first_more listed i m name before after l is b a =
    a ∙ ap (λ o. noted o (bytes_eq m.name.now name) m.value.now) b
    ∙ ap (option_or (first_value (map macro_now (take i listed)) name)) (sym (one (macro_now m) name))
    ∙ sym (two_lists (map macro_now (take i listed)) (macro_now m ∷ []) name)
    ∙ ap (λ (x : MacroRef). first_value (map macro_now (take i listed) ++ macro_now x ∷ []) name) is
    ∙ ap (λ ms. first_value ms name) (sym (map_more macro_now listed i m l))
