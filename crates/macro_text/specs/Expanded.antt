-- Texts with their references replaced.
use Rattle.std.specs.Prelude.{ℕ, zero, suc, ◌-◌, ◌==◌, List, [], ◌∷◌, ◌++◌, ◌≢◌, codes, if◌then◌else◌, take}
use Rattle.std.specs.Option.{option_map_or}
use Rattle.std.specs.List.{find}
use Rattle.std.specs.Str.{bytes_eq}
use Rattle.macro_text.specs.References.{reference_len}
use Rattle.macro_text.specs.declared.macros.Macro.{Macro}

-- the value of the first macro of that name, or the reference itself where there is none
abbrev pub value_of : List Macro → List ℕ → List ℕ
value_of lookup name = option_map_or (λ m. m.value) (find (λ m. bytes_eq m.name name) lookup) name

-- what stands for the front of a text: the value of the reference there, or the first byte
unfoldable pub front_of : List Macro → List ℕ → List ℕ
front_of lookup text = if reference_len text == 0 then take 1 text else value_of lookup (take (reference_len text) text)

-- a text with its references replaced, without its first bytes, so many, which belong to one that is replaced already
unfoldable pub expanded_behind : List Macro → ℕ → List ℕ → List ℕ
expanded_behind lookup passed [] = []
expanded_behind lookup (suc passed) (c ∷ rest) = expanded_behind lookup passed rest
expanded_behind lookup zero (c ∷ rest) = front_of lookup (c ∷ rest) ++ expanded_behind lookup (reference_len (c ∷ rest) - 1) rest

-- a text with each reference replaced
unfoldable pub expanded : List Macro → List ℕ → List ℕ
expanded lookup text = expanded_behind lookup 0 text

-- a text in which `{$` stands nowhere
abbrev pub OpensNoReference : List ℕ → Type 0
OpensNoReference text = (before behind : List ℕ) → text ≢ before ++ codes "{$" ++ behind
