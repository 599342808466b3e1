-- The machine takes the names, quoted texts, integers and numbers of the grammar.
use Rattle.std.proofs.Common.{◌≡◌, ℕ, ◌+◌, ◌-◌, ◌*◌, ◌≤◌, List, [], ◌∷◌, ◌++◌, refl, ap, ◌∙◌, Option, Some, None, Bool, true, false, ◌==◌, nat_le, if◌then◌else◌, arith, append_assoc, append-nil, subst}
use Rattle.std.proofs.lemmas.Bool.Decides.{nat_tests}
use Rattle.byte_grammar.specs.declared.characters.Character.{Character}
use Rattle.byte_grammar.specs.declared.characters.Character.TheVariants.{Whole}
use Rattle.json_path.specs.declared.tokens.Spelling.{Spelling}
use Rattle.json_path.specs.declared.tokens.Quotation.{Quotation}
use Rattle.json_path.specs.declared.tokens.Quoting.{Quoting}
use Rattle.json_path.specs.declared.tokens.Quoting.TheVariants.{Open, Closed, Wrong}
use Rattle.json_path.specs.declared.integers.Digits.{Digits}
use Rattle.json_path.specs.declared.numbers.Part.{Part}
use Rattle.json_path.specs.declared.numbers.Part.TheVariants.{Minus, Zero, Integer, Point, Fraction, Letter, Sign, Exponent}
use Rattle.json_path.specs.declared.numbers.Numeral.{Numeral}
use Rattle.byte_grammar.specs.Bytes.{Each, is_digit, is_nonzero_digit, is_e}
use Rattle.json_path.specs.Grammar.{mark, Escapes, nothing, plain, escaped, AreDigits, one, more, SomeDigits, IsMinus, absent, present, IsSign, no_sign, plus_sign, minus_sign, IsWhole, zero_part, whole_part, IsDecimal, no_fraction, fraction, IsNumber, no_exponent, exponent}
use Rattle.byte_grammar.specs.Utf8.{follow}
use Rattle.json_path.specs.Tokens.{spell, spell_to, quotation, quote, farthest, digit, part, begin_part, may_end}
use Rattle.byte_grammar.specs.Runs.{run}
use Rattle.byte_grammar.proofs.Runs.{run_none, run_end, one_on, joined, grown, before}

-- a spelling of these bytes
abbrev pub spelling : List ℕ → Character → Spelling
spelling bytes c = record { bytes = bytes; character = c }

spelt_on : (s : Spelling) (b : ℕ) (c : Character) → follow s.character b ≡ Some c → spell s b ≡ Some (spelling (s.bytes ++ b ∷ []) c)
spelt_on s b c e = ap (λ o. spell_to s b o) e

-- bytes that may be the beginning of a text in UTF-8 are spelt
pub spelt : (bs : List ℕ) (s : Spelling) (c : Character) → run follow (Some s.character) bs ≡ Some c → run spell (Some s) bs ≡ Some (spelling (s.bytes ++ bs) c)
unfolding run
spelt [] s c e = let g : s.character ≡ c = cc in rw (append-nil, ← g) refl
spelt (b ∷ bs) s c e = at (follow s.character b) refl e (λ d g. spelt bs (spelling (s.bytes ++ b ∷ []) d) c g)
  where
    at : (o : Option Character) → follow s.character b ≡ o → run follow o bs ≡ Some c
        → ((d : Character) → run follow (Some d) bs ≡ Some c → run spell (Some (spelling (s.bytes ++ b ∷ []) d)) bs ≡ Some (spelling ((s.bytes ++ b ∷ []) ++ bs) c))
        → run spell (spell s b) bs ≡ Some (spelling (s.bytes ++ b ∷ bs) c)
    at None p q k = absurd (let n = run_none follow bs in cc)
    at (Some d) p q k = ap (λ o. run spell o bs) (spelt_on s b d p) ∙ k d q ∙ ap (λ w. Some (spelling w c)) (append_assoc s.bytes (b ∷ []) bs)

-- a quoted text that isn't over
abbrev pub open_quote : Quoting → Option Quotation
open_quote (Open q) = Some q
open_quote (Closed w) = None
open_quote Wrong = None

abbrev pub quote_step : Quotation → ℕ → Option Quotation
quote_step q b = open_quote (quote q b)

-- a quotation of these bytes
abbrev pub quoted_so : Bool → Bool → List ℕ → Character → Quotation
quoted_so double behind bytes c = record { double = double; escaped = behind; spelling = spelling bytes c }

plain_on : (d : Bool) (w : List ℕ) (c r : Character) (b : ℕ) → (b == mark d) ≡ false → (b == 92) ≡ false → follow c b ≡ Some r → quote_step (quoted_so d false w c) b ≡ Some (quoted_so d false (w ++ b ∷ []) r)
plain_on d w c r b h k e = rw (h, k, e) refl

backslash_on : (d : Bool) (w : List ℕ) (c : Character) → quote_step (quoted_so d false w c) 92 ≡ Some (quoted_so d true w c)
backslash_on true w c = refl
backslash_on false w c = refl

escaped_on : (d : Bool) (w : List ℕ) (c r : Character) (b : ℕ) → follow c b ≡ Some r → quote_step (quoted_so d true w c) b ≡ Some (quoted_so d false (w ++ b ∷ []) r)
escaped_on d w c r b e = rw e refl

-- what stands between quotes is taken
pub escapes_run : (d : Bool) {t w : List ℕ} → Escapes (mark d) t w → (c : Character) → run follow (Some Whole) w ≡ Some c → run quote_step (Some (quotation d)) t ≡ Some (quoted_so d false w c)
escapes_run d nothing c e = let g : Whole ≡ c = at c e in rw (← g) (run_end quote_step (Some (quotation d)))
  where
    at : (c : Character) → run follow (Some Whole) [] ≡ Some c → Whole ≡ c
    at c e = let f = run_end follow (Some Whole) in cc
escapes_run d (plain t w b s h k e g) c r =
    let z = before follow (Some Whole) w b c (subst (λ (v : List ℕ). run follow (Some Whole) v ≡ Some c) g r) in
    rw (e, g) (grown quote_step (Some (quotation d)) (quoted_so d false w z.state) t b (escapes_run d s z.state z.is) ∙ plain_on d w z.state c b h k z.last)
escapes_run d (escaped t w b s e g) c r =
    let z = before follow (Some Whole) w b c (subst (λ (v : List ℕ). run follow (Some Whole) v ≡ Some c) g r) in
    rw (e, g) (joined quote_step (Some (quotation d)) (Some (quoted_so d false w z.state)) t (92 ∷ b ∷ []) (escapes_run d s z.state z.is)
    ∙ one_on quote_step (quoted_so d false w z.state) 92 (b ∷ []) ∙ ap (λ o. run quote_step o (b ∷ [])) (backslash_on d w z.state)
    ∙ one_on quote_step (quoted_so d true w z.state) b [] ∙ ap (λ o. run quote_step o []) (escaped_on d w z.state c b z.last)
    ∙ run_end quote_step (Some (quoted_so d false (w ++ b ∷ []) c)))

-- digits so far
abbrev pub digits_so : Bool → ℕ → Digits
digits_so minus value = record { minus = minus; any = true; value = value }

pub fits : (n : Digits) (b : ℕ) → n.value * 10 + (b - 48) ≤ farthest n.minus → digit n b ≡ Some (digits_so n.minus (n.value * 10 + (b - 48)))
fits n b h = chosen (nat_le (n.value * 10 + (b - 48)) (farthest n.minus)) (grind (arith, nat_tests))
  where
    chosen : (c : Bool) → c ≡ true → (if c then Some (digits_so n.minus (n.value * 10 + (b - 48))) else None) ≡ Some (digits_so n.minus (n.value * 10 + (b - 48)))
    chosen true h = refl
    chosen false h = absurd cc

-- a place where an integer of this sign may begin, and how it goes on
pub record Counts {S : Type 0} (outer : S → ℕ → Option S) (minus : Bool) (s : S) (f : Digits → S) : Type 0 where
  pub begins : (d : ℕ) → is_digit d ≡ true → d - 48 ≤ farthest minus → outer s d ≡ Some (f (digits_so minus (d - 48)))
  pub goes : (n d : ℕ) → is_digit d ≡ true → n * 10 + (d - 48) ≤ farthest minus → outer (f (digits_so minus n)) d ≡ Some (f (digits_so minus (n * 10 + (d - 48))))

-- digits are taken
pub digits_run : {S : Type 0} (outer : S → ℕ → Option S) (minus : Bool) (s : S) (f : Digits → S) → Counts outer minus s f → {t : List ℕ} {n : ℕ} → AreDigits t n → n ≤ farthest minus → run outer (Some s) t ≡ Some (f (digits_so minus n))
digits_run outer minus s f k (one d h e g) b = rw (e, g) (one_on outer s d [] ∙ ap (λ o. run outer o []) (k.begins d h (rw (← g) b)) ∙ run_end outer (Some (f (digits_so minus (d - 48)))))
digits_run outer minus s f k (more t n d a h e g) b =
    let m : n * 10 + (d - 48) ≤ farthest minus = rw (← g) b in
    rw (e, g) (grown outer (Some s) (f (digits_so minus n)) t d (digits_run outer minus s f k a (omega arith)) ∙ k.goes n d h m)

-- a number so far
abbrev pub numeral_so : Part → List ℕ → Numeral
numeral_so p bytes = record { part = p; bytes = bytes }

-- a place where a number may begin, and how it goes on
pub record Numbers {S : Type 0} (outer : S → ℕ → Option S) (s : S) (f : Numeral → S) : Type 0 where
  pub begins : (b : ℕ) (p : Part) → begin_part b ≡ Some p → outer s b ≡ Some (f (numeral_so p (b ∷ [])))
  pub goes : (p : Part) (bytes : List ℕ) (b : ℕ) (q : Part) → part p b ≡ Some q → outer (f (numeral_so p bytes)) b ≡ Some (f (numeral_so q (bytes ++ b ∷ [])))

-- what the run of an integer part or a decimal comes to
pub record Parted {S : Type 0} (outer : S → ℕ → Option S) (s : S) (f : Numeral → S) (text : List ℕ) : Type 0 where
  pub now : Part
  pub is : run outer (Some s) text ≡ Some (f (numeral_so now text))
  pub ends : may_end now ≡ true
  pub letter : (e : ℕ) → is_e e ≡ true → part now e ≡ Some Letter

module _ {S : Type 0} (outer : S → ℕ → Option S) (s : S) (f : Numeral → S) (k : Numbers outer s f) where
  number_on : (p q : Part) (t : List ℕ) (b : ℕ) → run outer (Some s) t ≡ Some (f (numeral_so p t)) → part p b ≡ Some q → run outer (Some s) (t ++ b ∷ []) ≡ Some (f (numeral_so q (t ++ b ∷ [])))
  number_on p q t b r e = grown outer (Some s) (f (numeral_so p t)) t b r ∙ k.goes p t b q e

  number_begins : (b : ℕ) (p : Part) → begin_part b ≡ Some p → run outer (Some s) (b ∷ []) ≡ Some (f (numeral_so p (b ∷ [])))
  number_begins b p e = one_on outer s b [] ∙ ap (λ o. run outer o []) (k.begins b p e) ∙ run_end outer (Some (f (numeral_so p (b ∷ []))))

  digits_on : (p : Part) → ((b : ℕ) → is_digit b ≡ true → part p b ≡ Some p) → (ds t : List ℕ) → Each is_digit ds → run outer (Some s) t ≡ Some (f (numeral_so p t)) → run outer (Some s) (t ++ ds) ≡ Some (f (numeral_so p (t ++ ds)))
  unfolding Each
  digits_on p h [] t e r = rw append-nil r
  digits_on p h (b ∷ ds) t e r =
      subst (λ (v : List ℕ). run outer (Some s) v ≡ Some (f (numeral_so p v))) (append_assoc t (b ∷ []) ds) (digits_on p h ds (t ++ b ∷ []) e.1 (number_on p p t b r (h b e.0)))

  some_digits_on : (p q : Part) → ((b : ℕ) → is_digit b ≡ true → part p b ≡ Some q) → ((b : ℕ) → is_digit b ≡ true → part q b ≡ Some q) → (ds t : List ℕ) → SomeDigits ds → run outer (Some s) t ≡ Some (f (numeral_so p t)) → run outer (Some s) (t ++ ds) ≡ Some (f (numeral_so q (t ++ ds)))
  unfolding Each
  some_digits_on p q h i [] t e r = absurd (let n = e.0 in omega arith)
  some_digits_on p q h i (b ∷ ds) t e r =
      subst (λ (v : List ℕ). run outer (Some s) v ≡ Some (f (numeral_so q v))) (append_assoc t (b ∷ []) ds) (digits_on q i ds (t ++ b ∷ []) e.1.1 (number_on p q t b r (h b e.1.0)))

  whole_digit : (b : ℕ) → is_digit b ≡ true → part Integer b ≡ Some Integer
  whole_digit b h = rw h refl

  first_part : (d : ℕ) → is_nonzero_digit d ≡ true → begin_part d ≡ Some Integer
  first_part d h = grind (arith, nat_tests)

  behind_minus : (d : ℕ) → is_nonzero_digit d ≡ true → part Minus d ≡ Some Integer
  behind_minus d h = grind (arith, nat_tests)

  zero_run : {m : List ℕ} → IsMinus m → run outer (Some s) (m ++ 48 ∷ []) ≡ Some (f (numeral_so Zero (m ++ 48 ∷ [])))
  zero_run absent = number_begins 48 Zero refl
  zero_run present = number_on Minus Zero (45 ∷ []) 48 (number_begins 45 Minus refl) refl

  first_run : (d : ℕ) → is_nonzero_digit d ≡ true → {m : List ℕ} → IsMinus m → run outer (Some s) (m ++ d ∷ []) ≡ Some (f (numeral_so Integer (m ++ d ∷ [])))
  first_run d h absent = number_begins d Integer (first_part d h)
  first_run d h present = number_on Minus Integer (45 ∷ []) d (number_begins 45 Minus refl) (behind_minus d h)

  letter_of : (e : ℕ) → is_e e ≡ true → (is_digit e ≡ false) × ((e == 46) ≡ false)
  letter_of e h = (grind (arith, nat_tests), grind (arith, nat_tests))

  zero_letter : (e : ℕ) → is_e e ≡ true → part Zero e ≡ Some Letter
  zero_letter e h = let l = letter_of e h in rw (l.1, h) refl

  integer_letter : (e : ℕ) → is_e e ≡ true → part Integer e ≡ Some Letter
  integer_letter e h = let l = letter_of e h in rw (l.0, l.1, h) refl

  fraction_letter : (e : ℕ) → is_e e ≡ true → part Fraction e ≡ Some Letter
  fraction_letter e h = let l = letter_of e h in rw (l.0, h) refl

  whole_run : {t : List ℕ} → IsWhole t → (r : Parted outer s f t) × (part r.now 46 ≡ Some Point)
  whole_run (zero_part m h e) = (record { now = Zero; is = rw e (zero_run h); ends = refl; letter = zero_letter }, refl)
  whole_run (whole_part m d ds h i j e) =
      (record { now = Integer; is = rw e (subst (λ (v : List ℕ). run outer (Some s) v ≡ Some (f (numeral_so Integer v))) (append_assoc m (d ∷ []) ds) (digits_on Integer whole_digit ds (m ++ d ∷ []) j (first_run d i h))); ends = refl; letter = integer_letter }, refl)

  point_digit : (b : ℕ) → is_digit b ≡ true → part Point b ≡ Some Fraction
  point_digit b h = rw h refl

  fraction_digit : (b : ℕ) → is_digit b ≡ true → part Fraction b ≡ Some Fraction
  fraction_digit b h = rw h refl

  decimal_run : {t : List ℕ} → IsDecimal t → Parted outer s f t
  decimal_run (no_fraction w) = (whole_run w).0
  decimal_run (fraction w ds h i e) =
      let r = whole_run h in record {
        now = Fraction;
        is = rw e (subst (λ (v : List ℕ). run outer (Some s) v ≡ Some (f (numeral_so Fraction v))) (append_assoc w (46 ∷ []) ds) (some_digits_on Point Fraction point_digit fraction_digit ds (w ++ 46 ∷ []) i (number_on r.0.now Point w 46 r.0.is r.1)));
        ends = refl;
        letter = fraction_letter;
      }

  letter_digit : (b : ℕ) → is_digit b ≡ true → part Letter b ≡ Some Exponent
  letter_digit b h = rw h refl

  sign_digit : (b : ℕ) → is_digit b ≡ true → part Sign b ≡ Some Exponent
  sign_digit b h = rw h refl

  exponent_digit : (b : ℕ) → is_digit b ≡ true → part Exponent b ≡ Some Exponent
  exponent_digit b h = rw h refl

  exponent_run : (t ds : List ℕ) {g : List ℕ} → run outer (Some s) t ≡ Some (f (numeral_so Letter t)) → IsSign g → SomeDigits ds → run outer (Some s) (t ++ (g ++ ds)) ≡ Some (f (numeral_so Exponent (t ++ (g ++ ds))))
  exponent_run t ds r no_sign h = some_digits_on Letter Exponent letter_digit exponent_digit ds t h r
  exponent_run t ds r plus_sign h = subst (λ (v : List ℕ). run outer (Some s) v ≡ Some (f (numeral_so Exponent v))) (append_assoc t (43 ∷ []) ds) (some_digits_on Sign Exponent sign_digit exponent_digit ds (t ++ 43 ∷ []) h (number_on Letter Sign t 43 r refl))
  exponent_run t ds r minus_sign h = subst (λ (v : List ℕ). run outer (Some s) v ≡ Some (f (numeral_so Exponent v))) (append_assoc t (45 ∷ []) ds) (some_digits_on Sign Exponent sign_digit exponent_digit ds (t ++ 45 ∷ []) h (number_on Letter Sign t 45 r refl))

  -- a number is taken, up to a part in which it may end
  pub number_run : {t : List ℕ} → IsNumber t → (p : Part) × (run outer (Some s) t ≡ Some (f (numeral_so p t))) × (may_end p ≡ true)
  number_run (no_exponent d) = let r = decimal_run d in (r.now, r.is, r.ends)
  number_run (exponent t g ds e d h i j q) =
      let r = decimal_run d in
      (Exponent, rw q (subst (λ (v : List ℕ). run outer (Some s) v ≡ Some (f (numeral_so Exponent v))) (append_assoc t (e ∷ []) (g ++ ds)) (exponent_run (t ++ e ∷ []) ds (number_on r.now Letter t e r.is (r.letter e h)) i j)), refl)
