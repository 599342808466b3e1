-- Numbers byte by byte.
use Rattle.std.specs.Prelude.{ℕ, ◌*◌, List, [], ◌∷◌, ◌++◌, Option, Some, None, Bool, true, ◌==◌, nat_le, if◌then◌else◌}
use Rattle.std.specs.Prelude.{is_some}
use Rattle.byte_grammar.specs.Bytes.{is_digit}
use Rattle.expr_parser.specs.declared.figures.Figures.{Figures}
use Rattle.expr_parser.specs.declared.figures.Figures.TheVariants.{Integral, Pointed, Fraction, Suffixed}
use Rattle.expr_parser.specs.Numbers.{is_at_most, millionths, number_factor}

-- the text of a number so far
abbrev pub figures_text : Figures → List ℕ
figures_text (Integral w) = w
figures_text (Pointed w) = w
figures_text (Fraction w) = w
figures_text (Suffixed w n) = w

-- a byte that may stand behind the first one of a number
abbrev pub is_figure : ℕ → Bool
is_figure b = if is_digit b then true else if b == 46 then true else is_some (number_factor b)

-- the millionths, where the number may end here
abbrev pub figures_value : Figures → Option ℕ
figures_value (Integral w) = millionths w
figures_value (Pointed w) = None
figures_value (Fraction w) = millionths w
figures_value (Suffixed w n) = Some n

-- a place, where the text is in range
abbrev pub held_to : ℕ → List ℕ → Figures → Option Figures
held_to most w f = if is_at_most most (millionths w) then Some f else None

-- the place behind a suffix, where the product is in range
abbrev pub scaled : ℕ → List ℕ → Option ℕ → Option ℕ → Option Figures
scaled most w None f = None
scaled most w (Some n) None = None
scaled most w (Some n) (Some f) = if nat_le (n * f) most then Some (Suffixed w (n * f)) else None

-- the place behind the first byte of a number
abbrev pub first_figure : ℕ → ℕ → Option Figures
first_figure most b = if is_digit b then held_to most (b ∷ []) (Integral (b ∷ [])) else None

-- the place behind one byte more
abbrev pub figure : ℕ → Figures → ℕ → Option Figures
figure most (Integral w) b =
    if is_digit b then held_to most (w ++ b ∷ []) (Integral (w ++ b ∷ []))
    else if b == 46 then Some (Pointed (w ++ b ∷ []))
    else scaled most (w ++ b ∷ []) (millionths w) (number_factor b)
figure most (Pointed w) b = if is_digit b then held_to most (w ++ b ∷ []) (Fraction (w ++ b ∷ [])) else None
figure most (Fraction w) b =
    if is_digit b then held_to most (w ++ b ∷ []) (Fraction (w ++ b ∷ []))
    else scaled most (w ++ b ∷ []) (millionths w) (number_factor b)
figure most (Suffixed w n) b = None
