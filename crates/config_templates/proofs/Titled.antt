-- Titles and values of tags that are no longer than an event shows them.
use Rattle.std.proofs.Common.{◌≡◌, ◌≤◌, ℕ, Bool, true, false, List, length, arith, sym, ◌∙◌}
use Rattle.std.specs.Prelude.{max, if◌then◌else◌}
use Rattle.macro_text.specs.Expanded.{expanded}
use Rattle.macro_text.specs.Limited.{whole_front}
use Rattle.macro_text.specs.declared.macros.Macro.{Macro}
use Rattle.macro_text.proofs.Wholes.{whole_within}
use Rattle.config_templates.specs.Titles.{has_brace, filled, shown}

either : {A : Type 0} (b : Bool) (x y z : A) → z ≡ x → z ≡ y → z ≡ (if b then x else y)
either true x y z h k = h
either false x y z h k = k

-- a text that is as short as an event shows it is shown whole
pub short_shown : (most : ℕ) (macros : List Macro) (text made : List ℕ) → most ≤ 65535 → made ≡ expanded macros text → length (expanded macros text) ≤ most → made ≡ shown most macros text
unfolding shown
short_shown most macros text made m e l =
    let x = expanded macros text in
    let within : length x ≤ max (length text) 65535 = omega arith in
    e ∙ either (has_brace (whole_front most x)) (filled macros text) (whole_front most x) x (whole_within x (max (length text) 65535) within) (whole_within x most l)
