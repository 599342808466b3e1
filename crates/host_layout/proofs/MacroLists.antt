-- Lists of macros, borrowed one by one.
use Rattle.std.proofs.Common.{◌≡◌, ℕ, ◌+◌, ◌<◌, List, [], ◌∷◌, ◌++◌, length, drop, get_or, map, ap, sym, ◌∙◌}
use Rattle.std.proofs.lemmas.List.{map-append, append_assoc, drop_more}
use Rattle.macro_text.specs.Index.{macro_now}
use Rattle.macro_text.specs.declared.macros.Macro.{Macro}
use Rattle.macro_text.specs.declared.macros.MacroRef.{MacroRef}
use Rattle.config_read.specs.declared.raw.RawMacro.{RawMacro}
use Rattle.host_layout.specs.Macros.{macros_in}

abbrev macro_read : RawMacro → Macro
macro_read m = record { name = m.name; value = m.value }

-- one macro more was borrowed
pub one_more : (macros : List RawMacro) (i : ℕ) (raw : RawMacro) (made new : List MacroRef) (more : MacroRef) (all : List Macro)
    → i < length macros → raw ≡ get_or macros i raw → macro_now more ≡ macro_read raw → new ≡ made ++ more ∷ []
    → map macro_now made ++ macros_in (drop i macros) ≡ all → map macro_now new ++ macros_in (drop (i + 1) macros) ≡ all
one_more macros i raw made new more all l is same n so_far =
    ap (λ ms. map macro_now ms ++ macros_in (drop (i + 1) macros)) n
    ∙ ap (λ ms. ms ++ macros_in (drop (i + 1) macros)) (map-append macro_now made (more ∷ []))
    ∙ append_assoc (map macro_now made) (macro_now more ∷ []) (macros_in (drop (i + 1) macros))
    ∙ ap (λ m. map macro_now made ++ m ∷ macros_in (drop (i + 1) macros)) (same ∙ ap macro_read is)
    ∙ ap (λ ms. map macro_now made ++ macros_in ms) (sym (drop_more macros i raw l))
    ∙ so_far
