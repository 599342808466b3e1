-- Runs over arguments.
use Rattle.std.proofs.Common.{◌≡◌, ℕ, zero, suc, ◌+◌, ◌-◌, ◌*◌, ◌≤◌, ◌<◌, List, [], ◌∷◌, ◌++◌, refl, ap, sym, ◌∙◌, Bool, true, false, nat_le, ◌==◌, arith, Option, Some, inl, inr, if◌then◌else◌, subst, option_map, le-mul_of_pos_right, append-nil}
use Rattle.std.proofs.lemmas.Bool.Decides.{nat_tests}
use Rattle.zbx_types.specs.declared.calls.Range.{Range}
use Rattle.zbx_types.specs.declared.calls.Range.TheVariants.{Count, Period}
use Rattle.zbx_types.specs.Limits.{longest_range}
use Rattle.byte_grammar.specs.Bytes.{is_digit}
use Rattle.expr_parser.specs.declared.figures.Figures.{Figures}
use Rattle.expr_parser.specs.declared.slots.Words.{Words}
use Rattle.expr_parser.specs.declared.slots.Words.TheVariants.{Operators, Directions, Strengths}
use Rattle.expr_parser.specs.declared.slots.Slot.{Slot}
use Rattle.expr_parser.specs.declared.slots.Slot.TheVariants.{Newest, Span, MaybeSpan, Silence, Word, Percent, Free}
use Rattle.expr_parser.specs.declared.parts.Value.TheVariants.{Ranged}
use Rattle.expr_parser.specs.declared.parts.Ahead.TheVariants.{Now, Digits as Figured}
use Rattle.expr_parser.specs.declared.parts.Part.{Part}
use Rattle.expr_parser.specs.declared.parts.Part.TheVariants.{Before, Hash, Latest, Seconds, Spanned, Back, Shift, Shifted, Letters, Number, Quoted}
use Rattle.expr_parser.specs.Bytes.{Digits}
use Rattle.expr_parser.specs.Numbers.{period_factor, IsPeriod, seconds, suffixed_period}
use Rattle.expr_parser.specs.Functions.{takes_count, least_period, word_list}
use Rattle.expr_parser.specs.Calls.{number_limit, is_one_of, is_same, greatest_percent, greatest_number, IsRange, latest, span}
use Rattle.expr_parser.specs.Figures.{first_figure, is_figure}
use Rattle.expr_parser.specs.Parts.{is_front, begins_one, grown, lasting, part, part_value, latest_range}
use Rattle.expr_parser.proofs.Lists.{snoc, way, some_is, none_some, le_test, le_true, digit_bounds, digits_le, eq_true}
use Rattle.expr_parser.proofs.NumberPaths.{Path, here, there}

-- the bytes lead from one place to another
unfoldable pub Steps : Slot → Part → List ℕ → Part → Type 0
Steps s p [] q = p ≡ q
Steps s p (b ∷ bs) q = (r : Part) × (part s p b ≡ Some r) × Steps s r bs q

pub steps_append : (s : Slot) (a b : List ℕ) (p q r : Part) → Steps s p a q → Steps s q b r → Steps s p (a ++ b) r
unfolding Steps
steps_append s [] b p q r h g = subst (λ (v : Part). Steps s v b r) (sym h) g
steps_append s (x ∷ a) b p q r h g = (h.0, h.1, steps_append s a b h.0 q r h.2 g)

pub one : (s : Slot) (b : ℕ) (p q : Part) → part s p b ≡ Some q → Steps s p (b ∷ []) q
unfolding Steps
one s b p q e = (q, e, refl)

pub more : (s : Slot) (b : ℕ) (bs : List ℕ) (p q r : Part) → part s p b ≡ Some q → Steps s q bs r → Steps s p (b ∷ bs) r
unfolding Steps
more s b bs p q r e h = (q, e, h)

pub none : (s : Slot) (p : Part) → Steps s p [] p
unfolding Steps
none s p = refl

-- ---- digits

pub grown_is : (most v b : ℕ) → v * 10 + (b - 48) ≤ most → grown most v b ≡ Some (v * 10 + (b - 48))
grown_is most v b h = rw (le_test (v * 10 + (b - 48)) most h) refl

abbrev pub OnDigits : Slot → (ℕ → Part) → ℕ → Type 0
OnDigits s m most = (v b : ℕ) → is_digit b ≡ true → part s (m v) b ≡ option_map m (grown most v b)

pub digit_steps : (s : Slot) (m : ℕ → Part) (most : ℕ) → OnDigits s m most → (bs : List ℕ) (v n : ℕ) → Digits v bs n → n ≤ most → Steps s (m v) bs (m n)
unfolding Steps Digits
digit_steps s m most on [] v n d h = ap m d
digit_steps s m most on (b ∷ bs) v n d h =
    let le = digits_le bs (v * 10 + (b - 48)) n d.1 in
    (m (v * 10 + (b - 48)), on v b d.0 ∙ ap (λ (o : Option ℕ). option_map m o) (grown_is most v b (omega arith)), digit_steps s m most on bs (v * 10 + (b - 48)) n d.1 h)

pub latest_on : (s : Slot) → OnDigits s Latest 10000
latest_on s v b h = rw h refl

pub shift_on : (s : Slot) (r : Range) → OnDigits s (Shift r) longest_range
shift_on s r v b h = rw h refl

pub seconds_on : (s : Slot) (m : ℕ) → least_period s ≡ Some m → OnDigits s Seconds longest_range
seconds_on s m e v b h = rw (e, h) refl

pub digit_not_hash : (b : ℕ) → is_digit b ≡ true → (b == 35) ≡ false
digit_not_hash b h = let r = digit_bounds b h in grind (arith, nat_tests)

pub digit_not_quote : (b : ℕ) → is_digit b ≡ true → (b == 34) ≡ false
digit_not_quote b h = let r = digit_bounds b h in grind (arith, nat_tests)

pub begin_seconds : (s : Slot) (m b : ℕ) → least_period s ≡ Some m → is_digit b ≡ true → part s Before b ≡ option_map Seconds (grown longest_range 0 b)
begin_seconds Newest m b e h = none_some m e
begin_seconds Span m b e h = rw (digit_not_hash b h, h) refl
begin_seconds MaybeSpan m b e h = rw (digit_not_hash b h, h) refl
begin_seconds Silence m b e h = rw (digit_not_hash b h, h) refl
begin_seconds (Word ws) m b e h = none_some m e
begin_seconds Percent m b e h = none_some m e
begin_seconds Free m b e h = none_some m e

pub begin_hash : (s : Slot) → takes_count s ≡ true → part s Before 35 ≡ Some Hash
begin_hash Newest e = refl
begin_hash Span e = refl
begin_hash MaybeSpan e = refl
begin_hash _ e = absurd cc

pub factor_bounds : (c f : ℕ) → period_factor c ≡ Some f → (is_digit c ≡ false) × ((c == 58) ≡ false)
factor_bounds c f h = (grind (arith, nat_tests), grind (arith, nat_tests))

-- ---- ranges

-- a run over a range
pub record RangeRun (s : Slot) (t : List ℕ) (r : Range) : Type 0 where
  pub place : Part
  pub steps : Steps s Before t place
  pub value : part_value s place ≡ Some (Ranged r 0)
  pub on : takes_count s ≡ true → part s place 58 ≡ Some (Back Now r)

pub first_digit : (b : ℕ) (bs : List ℕ) (n : ℕ) → Digits 0 (b ∷ bs) n → is_digit b ≡ true
unfolding Digits
first_digit b bs n d = d.0

pub rest_digits : (b : ℕ) (bs : List ℕ) (n : ℕ) → Digits 0 (b ∷ bs) n → Digits (0 * 10 + (b - 48)) bs n
unfolding Digits
rest_digits b bs n d = d.1

-- digits from a place where a first one may stand
pub digits_from : (s : Slot) (p : Part) (m : ℕ → Part) (most : ℕ) → OnDigits s m most → ((b : ℕ) → is_digit b ≡ true → part s p b ≡ option_map m (grown most 0 b)) → (b : ℕ) (bs : List ℕ) (n : ℕ) → Digits 0 (b ∷ bs) n → n ≤ most → Steps s p (b ∷ bs) (m n)
digits_from s p m most on begin b bs n d h =
    let le = digits_le bs (0 * 10 + (b - 48)) n (rest_digits b bs n d) in
    more s b bs p (m (0 * 10 + (b - 48))) (m n) (begin b (first_digit b bs n d) ∙ ap (λ (o : Option ℕ). option_map m o) (grown_is most 0 b (omega arith))) (digit_steps s m most on bs (0 * 10 + (b - 48)) n (rest_digits b bs n d) h)

pub latest_some : (n : ℕ) → 0 < n → latest_range n ≡ Some (Count n)
latest_some zero h = absurd (omega arith)
latest_some (suc n) h = refl

pub latest_run : (s : Slot) (b : ℕ) (bs : List ℕ) (n : ℕ) → takes_count s ≡ true → Digits 0 (b ∷ bs) n → 0 < n → n ≤ 10000 → RangeRun s (35 ∷ b ∷ bs) (Count n)
latest_run s b bs n e d h g = record {
  place = Latest n;
  steps = more s 35 (b ∷ bs) Before Hash (Latest n) (begin_hash s e) (digits_from s Hash Latest 10000 (latest_on s) (λ c k. rw k refl) b bs n d g);
  value = rw (latest_some n h) refl;
  on = λ c. rw (latest_some n h, c) refl;
}

pub seconds_run : (s : Slot) (m b : ℕ) (bs : List ℕ) (n : ℕ) → least_period s ≡ Some m → Digits 0 (b ∷ bs) n → m ≤ n → n ≤ longest_range → RangeRun s (b ∷ bs) (Period n)
seconds_run s m b bs n e d h g = record {
  place = Seconds n;
  steps = digits_from s Before Seconds longest_range (seconds_on s m e) (λ c k. begin_seconds s m c e k) b bs n d g;
  value = rw (e, le_test m n h) refl;
  on = λ c. rw (e, le_test m n h, c) refl;
}

pub factor_pos : (c f : ℕ) → period_factor c ≡ Some f → 0 < f
factor_pos c f h = grind (arith, nat_tests)

pub factor_le : (m f c : ℕ) → period_factor c ≡ Some f → m ≤ m * f
factor_le m f c h = let p = factor_pos c f h in le-mul_of_pos_right m p

pub unit_is : (least v f n : ℕ) → n ≡ v * f → least ≤ n → n ≤ longest_range → lasting least v (Some f) ≡ Some n
unit_is least v f n e h g = rw (le_test least (v * f) (omega (arith, e)), le_test (v * f) longest_range (omega (arith, e))) (ap (λ (z : ℕ). Some z) (sym e))

pub period_run : (s : Slot) (m : ℕ) {t : List ℕ} (n : ℕ) → least_period s ≡ Some m → IsPeriod m longest_range t n → RangeRun s t (Period n)
period_run s m n e (seconds b bs d h g) = seconds_run s m b bs n e d h g
period_run s m n e (suffixed_period {t} b bs c v f d k p h g q) =
    let w = factor_bounds c f k in
    let le = factor_le v f c k in
    record {
      place = Spanned (Period n);
      steps = subst (λ (z : List ℕ). Steps s Before z (Spanned (Period n))) (sym q)
          (steps_append s (b ∷ bs) (c ∷ []) Before (Seconds v) (Spanned (Period n)) (digits_from s Before Seconds longest_range (seconds_on s m e) (λ a z. begin_seconds s m a e z) b bs v d (omega (arith, p)))
          (one s c (Seconds v) (Spanned (Period n)) (rw (e, w.0, w.1, k) (ap (λ (o : Option ℕ). option_map (λ z. Spanned (Period z)) o) (unit_is m v f n p h g)))));
      value = refl;
      on = λ z. rw z refl;
    }

pub range_run : {s : Slot} {t : List ℕ} {r : Range} → IsRange s t r → RangeRun s t r
range_run (latest {s} {t} {n} b bs e d h g q) = subst (λ (z : List ℕ). RangeRun s z (Count n)) (sym q) (latest_run s b bs n e d h g)
range_run (span {s} {t} {n} m e p) = period_run s m n e p

-- ---- shifts

-- a run over a period behind `now-`
pub shift_run : (s : Slot) (r : Range) {t : List ℕ} (n : ℕ) → IsPeriod 0 longest_range t n → (q : Part) × Steps s (Back Figured r) t q × (part_value s q ≡ Some (Ranged r n))
shift_run s r n (seconds b bs d h g) = (Shift r n, digits_from s (Back Figured r) (Shift r) longest_range (shift_on s r) (λ c k. rw k refl) b bs n d g, refl)
shift_run s r n (suffixed_period {t} b bs c v f d k p h g q) =
    let w = factor_bounds c f k in
    let le = factor_le v f c k in (
      Shifted r n,
      subst (λ (z : List ℕ). Steps s (Back Figured r) z (Shifted r n)) (sym q)
          (steps_append s (b ∷ bs) (c ∷ []) (Back Figured r) (Shift r v) (Shifted r n) (digits_from s (Back Figured r) (Shift r) longest_range (shift_on s r) (λ a z. rw z refl) b bs v d (omega (arith, p)))
          (one s c (Shift r v) (Shifted r n) (rw (w.0, k) (ap (λ (o : Option ℕ). option_map (Shifted r) o) (unit_is 0 v f n p h g))))),
      refl,
    )

-- ---- numbers

pub figure_not_quote : (b : ℕ) → is_figure b ≡ true → (b == 34) ≡ false
figure_not_quote b h = grind (arith, nat_tests)

pub number_steps : (s : Slot) (most : ℕ) {f g : Figures} {bs : List ℕ} → number_limit s ≡ Some most → Path most f bs g → Steps s (Number f) bs (Number g)
number_steps s most e (here {f}) = none s (Number f)
number_steps s most e (there {f} {g} {h} b {bs} i k p) = more s b bs (Number f) (Number g) (Number h) (rw (e, k) refl) (number_steps s most e p)

pub quoted_steps : {f g : Figures} {bs : List ℕ} → Path greatest_percent f bs g → Steps Percent (Quoted f) bs (Quoted g)
quoted_steps (here {f}) = none Percent (Quoted f)
quoted_steps (there {f} {g} {h} b {bs} i k p) = more Percent b bs (Quoted f) (Quoted g) (Quoted h) (rw (figure_not_quote b i, k) refl) (quoted_steps p)

pub begin_number : (s : Slot) (most b : ℕ) (f : Figures) → number_limit s ≡ Some most → is_digit b ≡ true → first_figure most b ≡ Some f → part s Before b ≡ Some (Number f)
begin_number Percent most b f e d h = let m : greatest_percent ≡ most = some_is greatest_percent most e in rw (digit_not_quote b d) (rw m (rw h refl))
begin_number Free most b f e d h = let m : greatest_number ≡ most = some_is greatest_number most e in rw (digit_not_quote b d) (rw m (rw h refl))
begin_number _ most b f e d h = absurd cc

-- ---- words

pub front_append : (a b : List ℕ) → is_front a (a ++ b) ≡ true
front_append [] b = refl
front_append (x ∷ a) b = rw (same_byte x) (front_append a b)
  where
    same_byte : (x : ℕ) → (x == x) ≡ true
    same_byte x = grind (arith, nat_tests)

pub same_is : (a b : List ℕ) → is_same a b ≡ true → a ≡ b
same_is [] [] h = refl
same_is [] (c ∷ b) h = absurd cc
same_is (x ∷ a) [] h = absurd cc
same_is (x ∷ a) (c ∷ b) h = elim (way (x == c) (is_same a b) false true h) [
  | inl z ↦ let e : x ≡ c = eq_true x c z.0 in let f : a ≡ b = same_is a b z.1 in cc
  | inr z ↦ absurd (let g = z.1 in cc)
]

pub begins_front : (ws : List (List ℕ)) (a b : List ℕ) → is_one_of ws (a ++ b) ≡ true → begins_one ws a ≡ true
begins_front [] a b h = absurd cc
begins_front (w ∷ ws) a b h = elim (way (is_same (a ++ b) w) true (is_one_of ws (a ++ b)) true h) [
  | inl z ↦ let e : a ++ b ≡ w = same_is (a ++ b) w z.0 in rw (subst (λ (v : List ℕ). is_front a v ≡ true) e (front_append a b)) refl
  | inr z ↦ at (is_front a w) (begins_front ws a b z.1)
]
  where
    at : (c : Bool) → begins_one ws a ≡ true → (if c then true else begins_one ws a) ≡ true
    at true h = refl
    at false h = h

-- no word has a quote in it
abbrev pub no_quote : List ℕ → Bool
no_quote [] = true
no_quote (b ∷ bs) = if b == 34 then false else if nat_le b 127 then no_quote bs else false

abbrev pub no_quotes : List (List ℕ) → Bool
no_quotes [] = true
no_quotes (w ∷ ws) = if no_quote w then no_quotes ws else false

pub words_plain : (ws : Words) → no_quotes (word_list ws) ≡ true
words_plain Operators = refl
words_plain Directions = refl
words_plain Strengths = refl

pub word_plain : (ws : List (List ℕ)) (w : List ℕ) → no_quotes ws ≡ true → is_one_of ws w ≡ true → no_quote w ≡ true
word_plain [] w h g = absurd cc
word_plain (x ∷ ws) w h g = elim (way (no_quote x) (no_quotes ws) false true h) [
  | inr z ↦ absurd (let k = z.1 in cc)
  | inl z ↦ elim (way (is_same w x) true (is_one_of ws w) true g) [
    | inl y ↦ subst (λ (v : List ℕ). no_quote v ≡ true) (sym (same_is w x y.0)) z.0
    | inr y ↦ word_plain ws w z.1 y.1
  ]
]

pub plain_first : (b : ℕ) (bs : List ℕ) → no_quote (b ∷ bs) ≡ true → ((b == 34) ≡ false) × (b ≤ 127) × (no_quote bs ≡ true)
plain_first b bs h = elim (way (b == 34) false (if nat_le b 127 then no_quote bs else false) true h) [
  | inl z ↦ absurd (let k = z.1 in cc)
  | inr z ↦ elim (way (nat_le b 127) (no_quote bs) false true z.1) [ inl y ↦ (z.0, le_true b 127 y.0, y.1) | inr y ↦ absurd (let k = y.1 in cc) ]
]

pub letter_steps : (ws : Words) (bs w : List ℕ) → no_quote bs ≡ true → is_one_of (word_list ws) (w ++ bs) ≡ true → Steps (Word ws) (Letters w) bs (Letters (w ++ bs))
letter_steps ws [] w h g = subst (λ (v : List ℕ). Steps (Word ws) (Letters w) [] (Letters v)) (sym (append-nil w)) (none (Word ws) (Letters w))
letter_steps ws (b ∷ bs) w h g =
    let k = plain_first b bs h in
    let e = snoc w b bs in
    let i : is_one_of (word_list ws) ((w ++ b ∷ []) ++ bs) ≡ true = subst (λ (v : List ℕ). is_one_of (word_list ws) v ≡ true) e g in
    more (Word ws) b bs (Letters w) (Letters (w ++ b ∷ [])) (Letters (w ++ b ∷ bs)) (rw (k.0, begins_front (word_list ws) (w ++ b ∷ []) bs i) refl)
    (subst (λ (v : List ℕ). Steps (Word ws) (Letters (w ++ b ∷ [])) bs (Letters v)) (sym e) (letter_steps ws bs (w ++ b ∷ []) k.2 i))
