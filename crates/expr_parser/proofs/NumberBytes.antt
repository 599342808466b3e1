-- The texts of numbers have neither quotes nor backslashes, and are ASCII.
use Rattle.std.proofs.Common.{◌≡◌, ℕ, zero, suc, ◌<◌, List, [], ◌∷◌, refl, sym, subst, Bool, true, false, ◌==◌, arith, if◌then◌else◌}
use Rattle.std.specs.Str.{IsAscii, IsUtf8}
use Rattle.std.proofs.lemmas.Str.{IsUtf8-from_ascii}
use Rattle.std.proofs.lemmas.Bool.Decides.{nat_tests}
use Rattle.expr_parser.specs.declared.figures.Figures.{Figures}
use Rattle.expr_parser.specs.Figures.{is_figure}
use Rattle.expr_parser.specs.Numbers.{IsNumber}
use Rattle.expr_parser.proofs.NumberPaths.{Path, here, there, NumberRun, number_path}
use Rattle.expr_parser.proofs.PartPaths.{figure_not_quote}

-- neither a quote nor a backslash
abbrev pub is_plain : List ℕ → Bool
is_plain [] = true
is_plain (b ∷ bs) = if b == 34 then false else if b == 92 then false else is_plain bs

figure_not_slash : (b : ℕ) → is_figure b ≡ true → (b == 92) ≡ false
figure_not_slash b h = grind (arith, nat_tests)

figures_plain : (most : ℕ) {f g : Figures} {bs : List ℕ} → Path most f bs g → is_plain bs ≡ true
figures_plain most (here {f}) = refl
figures_plain most (there {f} {g} {h} b {bs} i k p) = rw (figure_not_quote b i, figure_not_slash b i) (figures_plain most p)

run_plain : (most : ℕ) (t : List ℕ) (n : ℕ) → NumberRun most t n → is_plain t ≡ true
run_plain most t n r =
    let d : is_figure r.first ≡ true = rw r.digit refl in
    rw r.is (rw (figure_not_quote r.first d, figure_not_slash r.first d) (figures_plain most r.path))

pub number_plain : (most : ℕ) (t : List ℕ) (n : ℕ) → IsNumber most t n → is_plain t ≡ true
number_plain most t n h = run_plain most t n (number_path h)

figure_low : (b : ℕ) → is_figure b ≡ true → b < 128
figure_low b h = grind (arith, nat_tests)

figures_ascii : (most : ℕ) {f g : Figures} {bs : List ℕ} → Path most f bs g → IsAscii bs
figures_ascii most (here {f}) i = omega arith
figures_ascii most (there {f} {g} {h} b {bs} d k p) zero = figure_low b d
figures_ascii most (there {f} {g} {h} b {bs} d k p) (suc i) = figures_ascii most p i

run_ascii : (most : ℕ) (t : List ℕ) (n : ℕ) → NumberRun most t n → IsAscii t
run_ascii most t n r =
    let d : is_figure r.first ≡ true = rw r.digit refl in
    subst IsAscii (sym r.is) (first r.first r.more (figure_low r.first d) (figures_ascii most r.path))
  where
    first : (b : ℕ) (bs : List ℕ) → b < 128 → IsAscii bs → IsAscii (b ∷ bs)
    first b bs low rest zero = low
    first b bs low rest (suc i) = rest i

pub number_utf8 : (most : ℕ) (t : List ℕ) (n : ℕ) → IsNumber most t n → IsUtf8 t
number_utf8 most t n h = IsUtf8-from_ascii t (run_ascii most t n (number_path h))
