-- Runs over whole arguments, and what ends them.
use Rattle.std.proofs.Common.{◌≡◌, ℕ, zero, suc, List, [], ◌∷◌, ◌++◌, refl, sym, true, false, nat_le, ◌==◌, arith, Option, Some, None, inl, inr, subst}
use Rattle.std.proofs.lemmas.Bool.Decides.{nat_tests}
use Rattle.std.specs.Str.{IsUtf8}
use Rattle.zbx_types.specs.declared.calls.Range.{Range}
use Rattle.zbx_types.specs.declared.calls.Range.TheVariants.{Count}
use Rattle.byte_grammar.specs.Bytes.{is_digit}
use Rattle.byte_grammar.specs.declared.characters.Character.TheVariants.{Whole}
use Rattle.zbx_types.specs.Limits.{longest_range}
use Rattle.expr_parser.specs.declared.figures.Figures.{Figures}
use Rattle.expr_parser.specs.declared.slots.Words.{Words}
use Rattle.expr_parser.specs.declared.slots.Slot.{Slot}
use Rattle.expr_parser.specs.declared.slots.Slot.TheVariants.{Newest, Span, MaybeSpan, Silence, Word, Percent, Free}
use Rattle.expr_parser.specs.declared.parts.Value.{Value}
use Rattle.expr_parser.specs.declared.parts.Value.TheVariants.{Ranged, Said}
use Rattle.expr_parser.specs.declared.parts.Ahead.TheVariants.{Now, Ow, W, Dash, Digits as Figured}
use Rattle.expr_parser.specs.declared.parts.Part.{Part}
use Rattle.expr_parser.specs.declared.parts.Part.TheVariants.{Before, Latest, Seconds, Spanned, Back, Shift, Shifted, Letters, Number, Opened, Quoted, Text, Closed}
use Rattle.expr_parser.specs.declared.figures.Figures.TheVariants.{Integral, Pointed, Fraction, Suffixed}
use Rattle.expr_parser.specs.Numbers.{period_factor, number_factor, millionths, IsPeriod}
use Rattle.expr_parser.specs.Functions.{takes_count, least_period, word_list}
use Rattle.expr_parser.specs.Calls.{absent_value, number_limit, is_one_of, greatest_percent, IsQuoted, IsPart, absent, ranged, shifted, word, number, quoted_number, quoted}
use Rattle.byte_grammar.specs.Utf8.{follow}
use Rattle.byte_grammar.specs.Runs.{run}
use Rattle.expr_parser.specs.Figures.{scaled, figure, first_figure, is_figure}
use Rattle.expr_parser.specs.Machine.{is_delimiter}
use Rattle.expr_parser.specs.Parts.{colon, second, first_part, more_number, part, part_value}
use Rattle.expr_parser.proofs.Lists.{way, lt_test, eq_true}
use Rattle.expr_parser.proofs.NumberPaths.{Path, here, there, NumberRun, number_path}
use Rattle.byte_grammar.proofs.Utf8Texts.{text_taken, taken_text}
use Rattle.expr_parser.proofs.PartPaths.{Steps, steps_append, one, more, none, range_run, shift_run, figure_not_quote, number_steps, quoted_steps, begin_number, no_quote, words_plain, word_plain, plain_first, letter_steps, RangeRun}
use Rattle.expr_parser.proofs.TextPaths.{text_steps}

-- ---- arguments

-- a run over an argument
pub record PartRun (s : Slot) (t : List ℕ) (v : Value) : Type 0 where
  pub place : Part
  pub steps : Steps s Before t place
  pub value : part_value s place ≡ Some v

shifted_run : (s : Slot) (u w : List ℕ) (r : Range) (n : ℕ) → RangeRun s u r → takes_count s ≡ true → IsPeriod 0 longest_range w n → PartRun s (u ++ (58 ∷ 110 ∷ 111 ∷ 119 ∷ 45 ∷ w)) (Ranged r n)
shifted_run s u w r n g c p =
    let q = shift_run s r n p in
    record {
      place = q.0;
      steps = steps_append s u (58 ∷ 110 ∷ 111 ∷ 119 ∷ 45 ∷ w) Before g.place q.0 g.steps
          (more s 58 (110 ∷ 111 ∷ 119 ∷ 45 ∷ w) g.place (Back Now r) q.0 (g.on c)
          (more s 110 (111 ∷ 119 ∷ 45 ∷ w) (Back Now r) (Back Ow r) q.0 refl
          (more s 111 (119 ∷ 45 ∷ w) (Back Ow r) (Back W r) q.0 refl
          (more s 119 (45 ∷ w) (Back W r) (Back Dash r) q.0 refl
          (more s 45 w (Back Dash r) (Back Figured r) q.0 refl q.1)))));
      value = q.2;
    }

number_run : (s : Slot) (most : ℕ) (t : List ℕ) (n : ℕ) → number_limit s ≡ Some most → NumberRun most t n → PartRun s t (Said t)
number_run s most t n e r = record {
  place = Number r.place;
  steps = subst (λ (z : List ℕ). Steps s Before z (Number r.place)) (sym r.is) (more s r.first r.more Before (Number r.begin) (Number r.place) (begin_number s most r.first r.begin e r.digit r.starts) (number_steps s most e r.path));
  value = rw (r.value, r.whole_text) refl;
}

quoted_run : (t : List ℕ) (n : ℕ) → NumberRun greatest_percent t n → PartRun Percent (34 ∷ (t ++ 34 ∷ [])) (Said t)
quoted_run t n r = record {
  place = Closed t;
  steps = more Percent 34 (t ++ 34 ∷ []) Before Opened (Closed t) refl
      (steps_append Percent t (34 ∷ []) Opened (Quoted r.place) (Closed t)
      (subst (λ (z : List ℕ). Steps Percent Opened z (Quoted r.place)) (sym r.is) (more Percent r.first r.more Opened (Quoted r.begin) (Quoted r.place) (rw r.starts refl) (quoted_steps r.path)))
      (one Percent 34 (Quoted r.place) (Closed t) (rw (r.value, r.whole_text) refl)));
  value = refl;
}

word_run : (ws : Words) (w : List ℕ) → is_one_of (word_list ws) w ≡ true → PartRun (Word ws) (34 ∷ (w ++ 34 ∷ [])) (Said w)
word_run ws w h = record {
  place = Closed w;
  steps = more (Word ws) 34 (w ++ 34 ∷ []) Before (Letters []) (Closed w) refl
      (steps_append (Word ws) w (34 ∷ []) (Letters []) (Letters w) (Closed w) (letter_steps ws w [] (word_plain (word_list ws) w (words_plain ws) h) h) (one (Word ws) 34 (Letters w) (Closed w) (rw h refl)));
  value = refl;
}

text_run : (u v : List ℕ) → IsQuoted u v → IsUtf8 v → PartRun Free (34 ∷ (u ++ 34 ∷ [])) (Said v)
text_run u v q h =
    let c = text_steps q in
    record {
      place = Closed v;
      steps = more Free 34 (u ++ 34 ∷ []) Before (Text [] Whole) (Closed v) refl
          (steps_append Free u (34 ∷ []) (Text [] Whole) (Text v Whole) (Closed v) (c.0 [] Whole Whole (text_taken v h)) (one Free 34 (Text v Whole) (Closed v) refl));
      value = refl;
    }

pub part_run : {s : Slot} {t : List ℕ} {v : Value} → IsPart s t v → PartRun s t v
part_run (absent {s} {v} e) = record { place = Before; steps = none s Before; value = e }
part_run (ranged {s} {t} {r} g) = let q = range_run g in record { place = q.place; steps = q.steps; value = q.value }
part_run (shifted {s} {t} {r} {n} u w g c p e) = subst (λ (z : List ℕ). PartRun s z (Ranged r n)) (sym e) (shifted_run s u w r n (range_run g) c p)
part_run (word {t} {ws} w h e) = subst (λ (z : List ℕ). PartRun (Word ws) z (Said w)) (sym e) (word_run ws w h)
part_run (number {s} {t} most n e h) = number_run s most t n e (number_path h)
part_run (quoted_number {t} u n h e) = subst (λ (z : List ℕ). PartRun Percent z (Said u)) (sym e) (quoted_run u n (number_path h))
part_run (quoted {t} u v q h e) = subst (λ (z : List ℕ). PartRun Free z (Said v)) (sym e) (text_run u v q h)

-- ---- what an argument says is characters

low_runs : (bs : List ℕ) → no_quote bs ≡ true → run follow (Some Whole) bs ≡ Some Whole
unfolding run
low_runs [] h = refl
low_runs (b ∷ bs) h = let k = plain_first b bs h in let l = k.1 in rw (lt_test b 128 (omega arith)) (low_runs bs k.2)

figure_low : (b : ℕ) → is_figure b ≡ true → nat_le b 127 ≡ true
figure_low b h = grind (arith, nat_tests)

figures_plain : (most : ℕ) {f g : Figures} {bs : List ℕ} → Path most f bs g → no_quote bs ≡ true
figures_plain most (here {f}) = refl
figures_plain most (there {f} {g} {h} b {bs} i k p) = rw (figure_not_quote b i, figure_low b i) (figures_plain most p)

number_plain : (most : ℕ) (t : List ℕ) (n : ℕ) → NumberRun most t n → no_quote t ≡ true
number_plain most t n r = let d : is_figure r.first ≡ true = rw r.digit refl in rw r.is (rw (figure_not_quote r.first d, figure_low r.first d) (figures_plain most r.path))

absent_text : (s : Slot) (v : List ℕ) → absent_value s ≡ Some (Said v) → v ≡ []
absent_text Newest v h = absurd cc
absent_text Span v h = absurd cc
absent_text MaybeSpan v h = absurd cc
absent_text Silence v h = absurd cc
absent_text (Word ws) v h = cc
absent_text Percent v h = absurd cc
absent_text Free v h = cc

abbrev SaysUtf8 : Value → Type 0
SaysUtf8 (Said v) = IsUtf8 v
SaysUtf8 (Ranged r n) = Unit {0}

absent_says : (s : Slot) (v : Value) → absent_value s ≡ Some v → SaysUtf8 v
absent_says s (Ranged r n) h = tt
absent_says s (Said v) h = taken_text v (rw (absent_text s v h) (low_runs [] refl))

part_says : {s : Slot} {t : List ℕ} {v : Value} → IsPart s t v → SaysUtf8 v
part_says (absent {s} {v} e) = absent_says s v e
part_says (ranged g) = tt
part_says (shifted u w g c p e) = tt
part_says (word {t} {ws} w h e) = taken_text w (low_runs w (word_plain (word_list ws) w (words_plain ws) h))
part_says (number {s} {t} most n e h) = taken_text t (low_runs t (number_plain most t n (number_path h)))
part_says (quoted_number {t} u n h e) = taken_text u (low_runs u (number_plain greatest_percent u n (number_path h)))
part_says (quoted u v q h e) = h

pub part_utf8 : {s : Slot} {t : List ℕ} (v : List ℕ) → IsPart s t (Said v) → IsUtf8 v
part_utf8 {s} {t} v p = part_says p

-- a byte that ends arguments
pub record Ends (b : ℕ) : Type 0 where
  pub digit : is_digit b ≡ false
  pub colon : (b == 58) ≡ false
  pub point : (b == 46) ≡ false
  pub hash : (b == 35) ≡ false
  pub quote : (b == 34) ≡ false
  pub unit : period_factor b ≡ None
  pub suffix : number_factor b ≡ None

comma_ends : Ends 44
comma_ends = record { digit = refl; colon = refl; point = refl; hash = refl; quote = refl; unit = refl; suffix = refl }

parenthesis_ends : Ends 41
parenthesis_ends = record { digit = refl; colon = refl; point = refl; hash = refl; quote = refl; unit = refl; suffix = refl }

pub ends_of : (b : ℕ) → is_delimiter b ≡ true → Ends b
ends_of b h = elim (way (b == 44) true (b == 41) true h) [
  | inl z ↦ rw (eq_true b 44 z.0) comma_ends
  | inr z ↦ rw (eq_true b 41 z.1) parenthesis_ends
]

no_scale : (most : ℕ) (w : List ℕ) (o : Option ℕ) → scaled most w o None ≡ None
no_scale most w None = refl
no_scale most w (Some n) = refl

no_figure : (most : ℕ) (f : Figures) (b : ℕ) → Ends b → figure most f b ≡ None
no_figure most (Integral w) b e = rw (e.digit, e.point, e.suffix) (no_scale most (w ++ b ∷ []) (millionths w))
no_figure most (Pointed w) b e = rw e.digit refl
no_figure most (Fraction w) b e = rw (e.digit, e.suffix) (no_scale most (w ++ b ∷ []) (millionths w))
no_figure most (Suffixed w n) b e = refl

no_first : (most b : ℕ) → Ends b → first_figure most b ≡ None
no_first most b e = rw e.digit refl

no_colon : (s : Slot) (r : Range) (b : ℕ) → Ends b → colon s r b ≡ None
no_colon s r b e = rw e.colon refl

no_latest : (s : Slot) (v b : ℕ) → Ends b → part s (Latest v) b ≡ None
no_latest s zero b e = rw e.digit refl
no_latest s (suc v) b e = rw e.digit (no_colon s (Count (suc v)) b e)

no_second : (s : Slot) (v b : ℕ) (o : Option ℕ) → Ends b → second s v o b ≡ None
no_second s v b None e = refl
no_second s v b (Some m) e = rw (e.digit, e.colon, e.unit) refl

no_begin : (s : Slot) (b : ℕ) → Ends b → first_part s b ≡ None
no_begin Newest b e = rw e.hash refl
no_begin Span b e = rw (e.hash, e.digit) refl
no_begin MaybeSpan b e = rw (e.hash, e.digit) refl
no_begin Silence b e = rw (e.hash, e.digit) refl
no_begin (Word ws) b e = rw e.quote refl
no_begin Percent b e = rw (e.quote, e.digit) refl
no_begin Free b e = rw (e.quote, e.digit) refl

no_number : (s : Slot) (f : Figures) (b : ℕ) (o : Option ℕ) → Ends b → more_number o f b ≡ None
no_number s f b None e = refl
no_number s f b (Some most) e = rw (no_figure most f b e) refl

-- with it no argument goes on that may end there
pub no_early : (s : Slot) (p : Part) (b : ℕ) (v : Value) → Ends b → part_value s p ≡ Some v → part s p b ≡ None
no_early s Before b v e f = no_begin s b e
no_early s (Latest n) b v e f = no_latest s n b e
no_early s (Seconds n) b v e f = no_second s n b (least_period s) e
no_early s (Spanned r) b v e f = no_colon s r b e
no_early s (Shift r n) b v e f = rw (e.digit, e.unit) refl
no_early s (Shifted r n) b v e f = refl
no_early s (Number g) b v e f = no_number s g b (number_limit s) e
no_early s (Closed w) b v e f = refl
no_early _ _ b v e f = absurd cc
