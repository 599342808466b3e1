-- Runs over numbers.
use Rattle.std.proofs.Common.{◌≡◌, ℕ, ◌*◌, ◌≤◌, List, [], ◌∷◌, ◌++◌, refl, ap, sym, ◌∙◌, Bool, true, false, ◌==◌, arith, Some, if◌then◌else◌, subst, append_assoc, append-nil}
use Rattle.std.proofs.lemmas.Bool.Decides.{nat_tests}
use Rattle.byte_grammar.specs.Bytes.{is_digit}
use Rattle.expr_parser.specs.declared.figures.Figures.{Figures}
use Rattle.expr_parser.specs.declared.figures.Figures.TheVariants.{Integral, Fraction, Suffixed}
use Rattle.expr_parser.specs.Bytes.{AreDigits}
use Rattle.expr_parser.specs.Numbers.{millionths, IsDecimal, whole, pointed, IsNumber, decimal, suffixed, number_factor}
use Rattle.expr_parser.specs.Figures.{figures_text, figures_value, held_to, scaled, first_figure, figure, is_figure}
use Rattle.expr_parser.proofs.Lists.{snoc, le_test, are_snoc, are_one}
use Rattle.expr_parser.proofs.Amounts.{Bounded, bounded_test, bounded_front, bounded_point, bounded_whole}

-- the bytes lead from one place to another
pub data Path (most : ℕ) : Figures → List ℕ → Figures → Type 0 where
  here : {f : Figures} → Path most f [] f
  there : {f g h : Figures} (b : ℕ) {bs : List ℕ} → is_figure b ≡ true → figure most f b ≡ Some g → Path most g bs h → Path most f (b ∷ bs) h

pub path_append : {most : ℕ} {f g h : Figures} {a b : List ℕ} → Path most f a g → Path most g b h → Path most f (a ++ b) h
path_append here p = p
path_append (there b d e q) p = there b d e (path_append q p)

digit_figure : (b : ℕ) → is_digit b ≡ true → is_figure b ≡ true
digit_figure b h = rw h refl

held : (most : ℕ) (w : List ℕ) (f : Figures) → Bounded most (millionths w) → held_to most w f ≡ Some f
held most w f r = rw (bounded_test most (millionths w) r) refl

-- digits in front of the point
whole_path : (most b : ℕ) (bs cs : List ℕ) → AreDigits (b ∷ bs) → AreDigits cs → Bounded most (millionths (b ∷ (bs ++ cs))) → Bounded most (millionths (b ∷ bs)) × Path most (Integral (b ∷ bs)) cs (Integral (b ∷ (bs ++ cs)))
unfolding AreDigits
whole_path most b bs [] h g r = let e = append-nil bs in (subst (λ (v : List ℕ). Bounded most (millionths (b ∷ v))) e r, subst (λ (v : List ℕ). Path most (Integral (b ∷ bs)) [] (Integral (b ∷ v))) (sym e) here)
whole_path most b bs (c ∷ cs) h g r =
    let e = snoc bs c cs in
    let q = whole_path most b (bs ++ c ∷ []) cs (are_snoc (b ∷ bs) c h g.0) g.1 (subst (λ (v : List ℕ). Bounded most (millionths (b ∷ v))) e r) in (
      bounded_front most b bs c h g.0 q.0,
      there c (digit_figure c g.0) (rw g.0 (held most (b ∷ (bs ++ c ∷ [])) (Integral (b ∷ (bs ++ c ∷ []))) q.0)) (subst (λ (v : List ℕ). Path most (Integral (b ∷ (bs ++ c ∷ []))) cs (Integral (b ∷ v))) (sym e) q.1),
    )

regroup : (b : ℕ) (bs ds : List ℕ) (c : ℕ) → ((b ∷ bs) ++ 46 ∷ ds) ++ c ∷ [] ≡ (b ∷ bs) ++ 46 ∷ (ds ++ c ∷ [])
regroup b bs ds c = append_assoc (b ∷ bs) (46 ∷ ds) (c ∷ [])

-- digits behind it
point_path : (most b : ℕ) (bs ds cs : List ℕ) → AreDigits (b ∷ bs) → AreDigits ds → AreDigits cs → Bounded most (millionths ((b ∷ bs) ++ 46 ∷ (ds ++ cs)))
    → Bounded most (millionths ((b ∷ bs) ++ 46 ∷ ds)) × Path most (Fraction ((b ∷ bs) ++ 46 ∷ ds)) cs (Fraction ((b ∷ bs) ++ 46 ∷ (ds ++ cs)))
unfolding AreDigits
point_path most b bs ds [] h k g r = let e = append-nil ds in
    (subst (λ (v : List ℕ). Bounded most (millionths ((b ∷ bs) ++ 46 ∷ v))) e r, subst (λ (v : List ℕ). Path most (Fraction ((b ∷ bs) ++ 46 ∷ ds)) [] (Fraction ((b ∷ bs) ++ 46 ∷ v))) (sym e) here)
point_path most b bs ds (c ∷ cs) h k g r =
    let e = snoc ds c cs in
    let q = point_path most b bs (ds ++ c ∷ []) cs h (are_snoc ds c k g.0) g.1 (subst (λ (v : List ℕ). Bounded most (millionths ((b ∷ bs) ++ 46 ∷ v))) e r) in (
      bounded_point most b bs ds c h k g.0 q.0,
      there c (digit_figure c g.0)
          (rw (g.0, regroup b bs ds c) (held most ((b ∷ bs) ++ 46 ∷ (ds ++ c ∷ [])) (Fraction ((b ∷ bs) ++ 46 ∷ (ds ++ c ∷ []))) q.0))
          (subst (λ (v : List ℕ). Path most (Fraction ((b ∷ bs) ++ 46 ∷ (ds ++ c ∷ []))) cs (Fraction ((b ∷ bs) ++ 46 ∷ v))) (sym e) q.1),
    )

-- a run from before a number
pub record Run (most : ℕ) (text : List ℕ) (n : ℕ) : Type 0 where
  pub first : ℕ
  pub more : List ℕ
  pub place : Figures
  pub begin : Figures
  pub is : text ≡ first ∷ more
  pub digit : is_digit first ≡ true
  pub starts : first_figure most first ≡ Some begin
  pub path : Path most begin more place
  pub value : figures_value place ≡ Some n
  pub whole_text : figures_text place ≡ text
  pub open_to : (b : ℕ) → is_digit b ≡ false → (b == 46) ≡ false → figure most place b ≡ scaled most (text ++ b ∷ []) (Some n) (number_factor b)

whole_run : (most b : ℕ) (bs : List ℕ) (n : ℕ) → AreDigits (b ∷ bs) → millionths (b ∷ bs) ≡ Some n → n ≤ most → Run most (b ∷ bs) n
unfolding AreDigits
whole_run most b bs n h e s =
    let q = whole_path most b [] bs (are_one b h.0) h.1 (record { n = n; is = e; small = s }) in
    record {
      first = b;
      more = bs;
      place = Integral (b ∷ bs);
      begin = Integral (b ∷ []);
      is = refl;
      digit = h.0;
      starts = rw h.0 (held most (b ∷ []) (Integral (b ∷ [])) q.0);
      path = q.1;
      value = e;
      whole_text = refl;
      open_to = λ c d p. rw (d, p, e) refl;
    }

point_run : (most b c : ℕ) (bs cs : List ℕ) (n : ℕ) → AreDigits (b ∷ bs) → AreDigits (c ∷ cs) → millionths ((b ∷ bs) ++ 46 ∷ c ∷ cs) ≡ Some n → n ≤ most → Run most ((b ∷ bs) ++ 46 ∷ c ∷ cs) n
unfolding AreDigits
point_run most b c bs cs n h g e s =
    let p = point_path most b bs (c ∷ []) cs h (are_one c g.0) g.1 (record { n = n; is = e; small = s }) in
    let z = bounded_point most b bs [] c h tt g.0 p.0 in
    let q = whole_path most b [] bs (are_one b h.0) h.1 (bounded_whole most b bs h z) in
    record {
      first = b;
      more = bs ++ 46 ∷ c ∷ cs;
      place = Fraction ((b ∷ bs) ++ 46 ∷ c ∷ cs);
      begin = Integral (b ∷ []);
      is = refl;
      digit = h.0;
      starts = rw h.0 (held most (b ∷ []) (Integral (b ∷ [])) q.0);
      path = path_append q.1 (there 46 refl refl (there c (digit_figure c g.0) (rw (g.0, regroup b bs [] c) (held most ((b ∷ bs) ++ 46 ∷ c ∷ []) (Fraction ((b ∷ bs) ++ 46 ∷ c ∷ [])) p.0)) p.1));
      value = e;
      whole_text = refl;
      open_to = λ d i p. rw (i, e) refl;
    }

decimal_run : (most : ℕ) {t : List ℕ} (n : ℕ) → IsDecimal t → millionths t ≡ Some n → n ≤ most → Run most t n
decimal_run most n (whole b bs h) e s = whole_run most b bs n h e s
decimal_run most n (pointed {t} b c bs cs h g q) e s = subst (λ (v : List ℕ). Run most v n) (sym q) (point_run most b c bs cs n h g (subst (λ (v : List ℕ). millionths v ≡ Some n) q e) s)

factor_figure : (b f : ℕ) → number_factor b ≡ Some f → (is_digit b ≡ false) × ((b == 46) ≡ false) × (is_figure b ≡ true)
factor_figure b f h = (grind (arith, nat_tests), grind (arith, nat_tests), figure_is)
  where
    figure_is : is_figure b ≡ true
    figure_is = rw h (at (is_digit b) (b == 46))
      where
        at : (c d : Bool) → (if c then true else if d then true else true) ≡ true
        at true d = refl
        at false true = refl
        at false false = refl

-- what is a number: the run over it, and its value
pub record NumberRun (most : ℕ) (text : List ℕ) (n : ℕ) : Type 0 where
  pub first : ℕ
  pub more : List ℕ
  pub place : Figures
  pub begin : Figures
  pub is : text ≡ first ∷ more
  pub digit : is_digit first ≡ true
  pub starts : first_figure most first ≡ Some begin
  pub path : Path most begin more place
  pub value : figures_value place ≡ Some n
  pub whole_text : figures_text place ≡ text

pub number_path : {most : ℕ} {text : List ℕ} {n : ℕ} → IsNumber most text n → NumberRun most text n
number_path {most} {text} {n} (decimal d e s) = let r = decimal_run most n d e s in
    record { first = r.first; more = r.more; place = r.place; begin = r.begin; is = r.is; digit = r.digit; starts = r.starts; path = r.path; value = r.value; whole_text = r.whole_text }
number_path {most} {text} {n} (suffixed u b m f d e s k p q t) =
    let r = decimal_run most m d e s in
    let c = factor_figure b f k in
    record {
      first = r.first;
      more = r.more ++ b ∷ [];
      place = Suffixed (u ++ b ∷ []) (m * f);
      begin = r.begin;
      is = t ∙ ap (λ (v : List ℕ). v ++ b ∷ []) r.is;
      digit = r.digit;
      starts = r.starts;
      path = path_append r.path (there b c.2 (r.open_to b c.0 c.1 ∙ rw (k, le_test (m * f) most (let z = q in omega (arith, p))) refl) here);
      value = ap (λ (z : ℕ). Some z) (sym p);
      whole_text = sym t;
    }
