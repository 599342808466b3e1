-- Texts part by part, as the code goes over them.
use Rattle.std.specs.Prelude.{◌≡◌, List, ℕ, ◌++◌, if◌then◌else◌}
use Rattle.macro_text.specs.declared.macros.Macro.{Macro}
use Rattle.macro_text.specs.declared.parts.Front.{Front}
use Rattle.macro_text.specs.Expanded.{value_of, expanded}

-- what stands for a front: the value of a reference, or the front itself
abbrev pub shown : List Macro → Front → List ℕ
shown lookup f = if f.is_reference then value_of lookup f.text.now else f.text.now

-- whatever the macros are, a text is replaced front by front
abbrev pub IsFront : Front → List ℕ → Type 0
IsFront f text = (lookup : List Macro) → expanded lookup text ≡ shown lookup f ++ expanded lookup f.rest.now
