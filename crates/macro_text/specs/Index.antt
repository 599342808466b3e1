-- Macros by their names, as the code finds them.
use Rattle.std.specs.Prelude.{◌≡◌, ℕ, Bool, List, Option, Some, None, option_map, if◌then◌else◌}
use Rattle.std.specs.HashMap.{HashMap, get_by}
use Rattle.std.specs.List.{find}
use Rattle.std.specs.Option.{option_or}
use Rattle.std.specs.Str.{bytes_eq}
use Rattle.macro_text.specs.declared.macros.Macro.{Macro}
use Rattle.macro_text.specs.declared.macros.MacroRef.{MacroRef}
use denote.Ref.{Bor}

-- a macro that stands elsewhere
abbrev pub macro_now : MacroRef → Macro
macro_now m = record { name = m.name.now; value = m.value.now }

-- the value that is kept under a name
abbrev pub value_in : {S : Type 0} → HashMap (Bor (List ℕ)) (Bor (List ℕ)) S → List ℕ → Option (List ℕ)
value_in values name = option_map (λ v. v.now) (get_by (λ k. bytes_eq name k.now) values)

-- the value of the first macro with a name
abbrev pub first_value : List Macro → List ℕ → Option (List ℕ)
first_value macros name = option_map (λ m. m.value) (find (λ m. bytes_eq m.name name) macros)

-- under each name the value of the first macro of a list is kept
abbrev pub FindsFirst : {S : Type 0} → HashMap (Bor (List ℕ)) (Bor (List ℕ)) S → List Macro → Type 0
FindsFirst values macros = (name : List ℕ) → value_in values name ≡ first_value macros name

-- the value under a name with one macro more, which may have the name: the first one counts
abbrev pub noted : Option (List ℕ) → Bool → List ℕ → Option (List ℕ)
noted before named value = option_or before (if named then Some value else None)
