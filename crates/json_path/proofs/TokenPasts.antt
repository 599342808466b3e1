-- What has come of a name, a quoted text, an integer or a number, in the words of the grammar.
use Rattle.std.proofs.Common.{◌≡◌, ℕ, ◌+◌, ◌-◌, ◌*◌, ◌^◌, ◌<◌, ◌≤◌, List, [], ◌∷◌, ◌++◌, length, refl, ap, sym, ◌∙◌, Option, Some, None, Bool, true, false, ◌==◌, nat_le, if◌then◌else◌, IsUtf8, arith, append_assoc, subst, length-append}
use Rattle.std.proofs.lemmas.Bool.Decides.{nat_tests}
use Rattle.byte_grammar.specs.declared.characters.Character.{Character}
use Rattle.byte_grammar.specs.declared.characters.Character.TheVariants.{Whole}
use Rattle.json_path.specs.declared.tokens.Spelling.{Spelling}
use Rattle.json_path.specs.declared.tokens.Quotation.{Quotation}
use Rattle.json_path.specs.declared.tokens.Quoting.{Quoting}
use Rattle.json_path.specs.declared.tokens.Quoting.TheVariants.{Open, Closed, Wrong}
use Rattle.json_path.specs.declared.integers.Digits.{Digits}
use Rattle.json_path.specs.declared.numbers.Part.{Part}
use Rattle.json_path.specs.declared.numbers.Part.TheVariants.{Minus, Zero, Integer, Point, Fraction, Letter, Sign, Exponent}
use Rattle.byte_grammar.specs.Bytes.{Each, is_digit, is_nonzero_digit, is_e}
use Rattle.json_path.specs.Grammar.{is_name_byte, mark, IsName, name, Escapes, nothing, plain, escaped, AreDigits, one, more, IsInteger, plus, minus, SomeDigits, IsMinus, absent, present, IsSign, no_sign, plus_sign, minus_sign, IsWhole, zero_part, whole_part, IsDecimal, no_fraction, fraction, IsNumber, no_exponent, exponent}
use Rattle.byte_grammar.specs.Utf8.{follow}
use Rattle.json_path.specs.Tokens.{spell, spell_to, unspelt, checked, quotation, quoting, quote, closing, farthest, digit, begin_integer, integer, part, begin_part, may_end}
use Rattle.byte_grammar.proofs.Bytes.{each_none, each_one, each_snoc}
use Rattle.json_path.proofs.Checked.{checked_is}
use Rattle.byte_grammar.specs.Runs.{run}
use Rattle.byte_grammar.proofs.Runs.{run_end, grown}
use Rattle.json_path.proofs.TokenRuns.{spelling, digits_so}
use Rattle.json_path.proofs.SelectorRuns.{plus_is, minus_is}

-- what holds of both answers of a choice
pub either : {A : Type 0} (P : A → Type 0) (c : Bool) (x y : A) → (c ≡ true → P x) → (c ≡ false → P y) → P (if c then x else y)
either P true x y h k = h refl
either P false x y h k = k refl

pub eq_true : (a b : ℕ) → (a == b) ≡ true → a ≡ b
eq_true a b h = grind (arith, nat_tests)

-- the bytes may be the beginning of a text in UTF-8, and ask this of the next one
abbrev pub IsSpelt : Spelling → Type 0
IsSpelt s = run follow (Some Whole) s.bytes ≡ Some s.character

-- a spelling with one byte more
pub record Spells (s : Spelling) (b : ℕ) (r : Spelling) : Type 0 where
  pub bytes : r.bytes ≡ s.bytes ++ b ∷ []
  pub spelt : IsSpelt r

pub spells : (s : Spelling) (b : ℕ) (r : Spelling) → IsSpelt s → spell s b ≡ Some r → Spells s b r
spells s b r h e = at (follow s.character b) refl e
  where
    at : (o : Option Character) → follow s.character b ≡ o → spell_to s b o ≡ Some r → Spells s b r
    at None p e = absurd cc
    at (Some c) p e =
        let g : spelling (s.bytes ++ b ∷ []) c ≡ r = cc in
        subst (λ (z : Spelling). Spells s b z) g (record { bytes = refl; spelt = grown follow (Some Whole) s.character s.bytes b h ∙ p })

pub unspelt_spelt : IsSpelt unspelt
unspelt_spelt = run_end follow (Some Whole)

-- a name so far
pub record NamePast (s : Spelling) : Type 0 where
  pub spelt : IsSpelt s
  pub some : 0 < length s.bytes
  pub each : Each is_name_byte s.bytes

pub name_more : (s : Spelling) (b : ℕ) (r : Spelling) → Each is_name_byte s.bytes → is_name_byte b ≡ true → Spells s b r → NamePast r
name_more s b r e h k = record {
  spelt = k.spelt;
  some = rw k.bytes (omega (arith, length-append s.bytes (b ∷ [])));
  each = rw k.bytes (each_snoc is_name_byte s.bytes b e h);
}

pub name_whole : (s : Spelling) (w : List ℕ) → NamePast s → checked s.bytes ≡ Some w → IsName s.bytes w
name_whole s w k e = let p = checked_is s.bytes w e in subst (λ (v : List ℕ). IsName s.bytes v) p.1 (name k.some k.each p.0)

-- what stands behind the quote so far
abbrev pub Written : Bool → Bool → List ℕ → List ℕ → Type 0
Written false d t w = Escapes (mark d) t w
Written true d t w = (u : List ℕ) × (t ≡ u ++ 92 ∷ []) × Escapes (mark d) u w

pub record QuotePast (d : Bool) (q : Quotation) (t : List ℕ) : Type 0 where
  pub same : q.double ≡ d
  pub spelt : IsSpelt q.spelling
  pub written : Written q.escaped d t q.spelling.bytes

-- what a byte makes of it
pub data QuoteBehind (d : Bool) (t : List ℕ) (b : ℕ) : Quoting → Type 0 where
  goes : (r : Quotation) → QuotePast d r (t ++ b ∷ []) → QuoteBehind d t b (Open r)
  ends : (w : List ℕ) → b ≡ mark d → Escapes (mark d) t w → IsUtf8 w → QuoteBehind d t b (Closed w)
  wrong : QuoteBehind d t b Wrong

pub quote_starts : (d : Bool) → QuotePast d (quotation d) []
quote_starts d = record { same = refl; spelt = unspelt_spelt; written = nothing }

taken_by : (d e : Bool) (s : Spelling) (t : List ℕ) (b : ℕ) → e ≡ d → IsSpelt s → ((r : Spelling) → Spells s b r → Escapes (mark d) (t ++ b ∷ []) r.bytes) → QuoteBehind d t b (quoting e (spell s b))
taken_by d e s t b i h k = at (spell s b) refl
  where
    at : (o : Option Spelling) → spell s b ≡ o → QuoteBehind d t b (quoting e o)
    at None p = wrong
    at (Some r) p = let z = spells s b r h p in goes (record { double = e; escaped = false; spelling = r }) (record { same = i; spelt = z.spelt; written = k r z })

ended_by : (d : Bool) (t bytes : List ℕ) (b : ℕ) → b ≡ mark d → Escapes (mark d) t bytes → QuoteBehind d t b (closing (checked bytes))
ended_by d t bytes b h k = at (checked bytes) refl
  where
    at : (o : Option (List ℕ)) → checked bytes ≡ o → QuoteBehind d t b (closing o)
    at None p = wrong
    at (Some w) p = let z = checked_is bytes w p in ends w h (subst (λ (v : List ℕ). Escapes (mark d) t v) z.1 k) (subst (λ (v : List ℕ). IsUtf8 v) z.1 z.0)

quote_at : (d c : Bool) (s : Spelling) (t : List ℕ) (b : ℕ) → c ≡ d → IsSpelt s → (e : Bool) → Written e d t s.bytes → QuoteBehind d t b (quote (record { double = c; escaped = e; spelling = s }) b)
quote_at d c s t b i h true k = taken_by d c s t b i h (λ r z. escaped k.0 s.bytes b k.2 (rw k.1 (append_assoc k.0 (92 ∷ []) (b ∷ []))) z.bytes)
quote_at d c s t b i h false k = either (QuoteBehind d t b) (b == mark c) _ _
    (λ e. ended_by d t s.bytes b (eq_true b (mark c) e ∙ ap mark i) k)
    (λ n. either (QuoteBehind d t b) (b == 92) _ _
    (λ e. goes (record { double = c; escaped = true; spelling = s }) (record { same = i; spelt = h; written = (t, ap (λ (v : ℕ). t ++ v ∷ []) (eq_true b 92 e), k) }))
    (λ m. taken_by d c s t b i h (λ r z. plain t s.bytes b k (subst (λ (v : Bool). (b == mark v) ≡ false) i n) m refl z.bytes)))

pub quote_behind : (d : Bool) (q : Quotation) (t : List ℕ) (b : ℕ) → QuotePast d q t → QuoteBehind d t b (quote q b)
quote_behind d q t b p = quote_at d q.double q.spelling t b p.same p.spelt q.escaped p.written

-- the sign of an integer
abbrev pub sign_of : Bool → List ℕ
sign_of m = if m then 45 ∷ [] else []

-- an integer so far
abbrev pub DigitsSo : Bool → Bool → ℕ → List ℕ → Type 0
DigitsSo true m v t = (u : List ℕ) × (t ≡ sign_of m ++ u) × AreDigits u v × (v ≤ farthest m)
DigitsSo false m v t = (m ≡ true) × (v ≡ 0) × (t ≡ 45 ∷ [])

abbrev pub DigitsPast : Digits → List ℕ → Type 0
DigitsPast n t = DigitsSo n.any n.minus n.value t

digit_small : (d : ℕ) → is_digit d ≡ true → d - 48 ≤ 9
digit_small d h = grind (arith, nat_tests)

pub digits_start : (b : ℕ) (n : Digits) → begin_integer b ≡ Some n → DigitsPast n (b ∷ [])
digits_start b n e = either (λ (o : Option Digits). o ≡ Some n → DigitsPast n (b ∷ [])) (b == 45) _ _
    (λ h e. let g : record { minus = true; any = false; value = 0 } ≡ n = cc in subst (λ (z : Digits). DigitsPast z (b ∷ [])) g (refl, refl, ap (λ (v : ℕ). v ∷ []) (eq_true b 45 h)))
    (λ k. either (λ (o : Option Digits). o ≡ Some n → DigitsPast n (b ∷ [])) (is_digit b) _ _
    (λ h e. let g : record { minus = false; any = true; value = b - 48 } ≡ n = cc in subst (λ (z : Digits). DigitsPast z (b ∷ [])) g (b ∷ [], refl, one b h refl refl, let s = digit_small b h in omega arith))
    (λ h e. absurd cc)) e

fitting : (m : Bool) (v : ℕ) (r : Digits) → (if nat_le v (farthest m) then Some (digits_so m v) else None) ≡ Some r → (v ≤ farthest m) × (digits_so m v ≡ r)
fitting m v r e = either (λ (o : Option Digits). o ≡ Some r → (v ≤ farthest m) × (digits_so m v ≡ r)) (nat_le v (farthest m)) _ _ (λ h e. (le_of v (farthest m) h, cc)) (λ h e. absurd cc) e
  where
    le_of : (a b : ℕ) → nat_le a b ≡ true → a ≤ b
    le_of a b h = grind (arith, nat_tests)

digits_more : (a m : Bool) (v : ℕ) (t : List ℕ) (b : ℕ) → DigitsSo a m v t → is_digit b ≡ true → v * 10 + (b - 48) ≤ farthest m → DigitsSo true m (v * 10 + (b - 48)) (t ++ b ∷ [])
digits_more true m v t b k h l = (k.0 ++ b ∷ [], rw k.1 (append_assoc (sign_of m) k.0 (b ∷ [])), more k.0 v b k.2 h refl refl, l)
digits_more false m v t b k h l =
    (b ∷ [], rw (k.0, k.2) refl, one b h refl (let z = k.1 in rw z (omega arith)), l)

pub digits_go : (n : Digits) (t : List ℕ) (b : ℕ) (r : Digits) → DigitsPast n t → is_digit b ≡ true → digit n b ≡ Some r → DigitsPast r (t ++ b ∷ [])
digits_go n t b r k h e =
    let f = fitting n.minus (n.value * 10 + (b - 48)) r e in
    subst (λ (z : Digits). DigitsPast z (t ++ b ∷ [])) f.1 (digits_more n.any n.minus n.value t b k h f.0)

pub digits_whole : (n : Digits) (t : List ℕ) → DigitsPast n t → n.any ≡ true → IsInteger t (integer n)
digits_whole n t k h = at n.any n.minus n.value k h
  where
    at : (a m : Bool) (v : ℕ) → DigitsSo a m v t → a ≡ true → IsInteger t (integer (digits_so m v))
    at true false v k h = let l = k.3 in let s : v < 2 ^ 63 = omega arith in plus v (subst (λ (w : List ℕ). AreDigits w v) (sym k.1) k.2) s (plus_is v s)
    at true true v k h = minus k.0 v k.2 k.3 k.1 (minus_is v k.3)
    at false m v k h = absurd cc

-- a number so far, by the part that its last byte belongs to
abbrev pub NumberPast : Part → List ℕ → Type 0
NumberPast Minus t = t ≡ 45 ∷ []
NumberPast Zero t = (m : List ℕ) × IsMinus m × (t ≡ m ++ 48 ∷ [])
NumberPast Integer t = (m : List ℕ) × (d : ℕ) × (ds : List ℕ) × IsMinus m × (is_nonzero_digit d ≡ true) × Each is_digit ds × (t ≡ m ++ d ∷ ds)
NumberPast Point t = (w : List ℕ) × IsWhole w × (t ≡ w ++ 46 ∷ [])
NumberPast Fraction t = (w : List ℕ) × (ds : List ℕ) × IsWhole w × SomeDigits ds × (t ≡ w ++ 46 ∷ ds)
NumberPast Letter t = (u : List ℕ) × (e : ℕ) × IsDecimal u × (is_e e ≡ true) × (t ≡ u ++ e ∷ [])
NumberPast Sign t = (u : List ℕ) × (e : ℕ) × (g : List ℕ) × IsDecimal u × (is_e e ≡ true) × IsSign g × (t ≡ u ++ e ∷ g)
NumberPast Exponent t = (u : List ℕ) × (e : ℕ) × (g : List ℕ) × (ds : List ℕ) × IsDecimal u × (is_e e ≡ true) × IsSign g × SomeDigits ds × (t ≡ u ++ e ∷ (g ++ ds))

-- what a byte makes of it
pub data PartBehind (t : List ℕ) (b : ℕ) : Option Part → Type 0 where
  in_part : (q : Part) → NumberPast q (t ++ b ∷ []) → PartBehind t b (Some q)
  no_part : PartBehind t b None

one_digit : (b : ℕ) → is_digit b ≡ true → SomeDigits (b ∷ [])
one_digit b h = (omega arith, each_one is_digit b h)

more_digits : (ds : List ℕ) (b : ℕ) → SomeDigits ds → is_digit b ≡ true → SomeDigits (ds ++ b ∷ [])
more_digits ds b k h = let l = k.0 in (omega (arith, length-append ds (b ∷ [])), each_snoc is_digit ds b k.1 h)

at_letter : (t : List ℕ) (b : ℕ) → IsDecimal t → is_e b ≡ true → NumberPast Letter (t ++ b ∷ [])
at_letter t b d h = (t, b, d, h, refl)

at_point : (t : List ℕ) (b : ℕ) → IsWhole t → (b == 46) ≡ true → NumberPast Point (t ++ b ∷ [])
at_point t b w h = (t, w, ap (λ (v : ℕ). t ++ v ∷ []) (eq_true b 46 h))

-- behind an integer part, a point or a letter
behind_whole : (t : List ℕ) (b : ℕ) → IsWhole t → PartBehind t b (if b == 46 then Some Point else if is_e b then Some Letter else None)
behind_whole t b w = either (PartBehind t b) (b == 46) _ _ (λ h. in_part Point (at_point t b w h))
    (λ n. either (PartBehind t b) (is_e b) _ _ (λ h. in_part Letter (at_letter t b (no_fraction w) h)) (λ m. no_part))

pub part_behind : (p : Part) (t : List ℕ) (b : ℕ) → NumberPast p t → PartBehind t b (part p b)
part_behind Minus t b k = either (PartBehind t b) (b == 48) _ _ (λ h. in_part Zero (45 ∷ [], present, rw (k, eq_true b 48 h) refl))
    (λ n. either (PartBehind t b) (is_nonzero_digit b) _ _ (λ h. in_part Integer (45 ∷ [], b, [], present, h, each_none is_digit, rw k refl)) (λ m. no_part))
part_behind Zero t b k = behind_whole t b (zero_part k.0 k.1 k.2)
part_behind Integer t b k = either (PartBehind t b) (is_digit b) _ _
    (λ h. in_part Integer (k.0, k.1, k.2 ++ b ∷ [], k.3, k.4, each_snoc is_digit k.2 b k.5 h, rw k.6 (append_assoc k.0 (k.1 ∷ k.2) (b ∷ []))))
    (λ n. behind_whole t b (whole_part k.0 k.1 k.2 k.3 k.4 k.5 k.6))
part_behind Point t b k = either (PartBehind t b) (is_digit b) _ _ (λ h. in_part Fraction (k.0, b ∷ [], k.1, one_digit b h, rw k.2 (append_assoc k.0 (46 ∷ []) (b ∷ [])))) (λ n. no_part)
part_behind Fraction t b k = either (PartBehind t b) (is_digit b) _ _
    (λ h. in_part Fraction (k.0, k.1 ++ b ∷ [], k.2, more_digits k.1 b k.3 h, rw k.4 (append_assoc k.0 (46 ∷ k.1) (b ∷ []))))
    (λ n. either (PartBehind t b) (is_e b) _ _ (λ h. in_part Letter (at_letter t b (fraction k.0 k.1 k.2 k.3 k.4) h)) (λ m. no_part))
part_behind Letter t b k = either (PartBehind t b) (is_digit b) _ _
    (λ h. in_part Exponent (k.0, k.1, [], b ∷ [], k.2, k.3, no_sign, one_digit b h, rw k.4 (append_assoc k.0 (k.1 ∷ []) (b ∷ []))))
    (λ n. either (PartBehind t b) (b == 43) _ _ (λ h. in_part Sign (k.0, k.1, 43 ∷ [], k.2, k.3, plus_sign, rw (k.4, eq_true b 43 h) (append_assoc k.0 (k.1 ∷ []) (43 ∷ []))))
    (λ m. either (PartBehind t b) (b == 45) _ _ (λ h. in_part Sign (k.0, k.1, 45 ∷ [], k.2, k.3, minus_sign, rw (k.4, eq_true b 45 h) (append_assoc k.0 (k.1 ∷ []) (45 ∷ [])))) (λ l. no_part)))
part_behind Sign t b k = either (PartBehind t b) (is_digit b) _ _
    (λ h. in_part Exponent (k.0, k.1, k.2, b ∷ [], k.3, k.4, k.5, one_digit b h, rw k.6 (append_assoc k.0 (k.1 ∷ k.2) (b ∷ [])))) (λ n. no_part)
part_behind Exponent t b k = either (PartBehind t b) (is_digit b) _ _
    (λ h. in_part Exponent (k.0, k.1, k.2, k.3 ++ b ∷ [], k.4, k.5, k.6, more_digits k.3 b k.7 h, rw k.8 (simp append_assoc))) (λ n. no_part)

pub number_start : (b : ℕ) → PartBehind [] b (begin_part b)
number_start b = either (PartBehind [] b) (b == 45) _ _ (λ h. in_part Minus (ap (λ (v : ℕ). v ∷ []) (eq_true b 45 h)))
    (λ n. either (PartBehind [] b) (b == 48) _ _ (λ h. in_part Zero ([], absent, ap (λ (v : ℕ). v ∷ []) (eq_true b 48 h)))
    (λ m. either (PartBehind [] b) (is_nonzero_digit b) _ _ (λ h. in_part Integer ([], b, [], absent, h, each_none is_digit, refl)) (λ l. no_part)))

pub number_whole : (p : Part) (t : List ℕ) → NumberPast p t → may_end p ≡ true → IsNumber t
number_whole Zero t k e = no_exponent (no_fraction (zero_part k.0 k.1 k.2))
number_whole Integer t k e = no_exponent (no_fraction (whole_part k.0 k.1 k.2 k.3 k.4 k.5 k.6))
number_whole Fraction t k e = no_exponent (fraction k.0 k.1 k.2 k.3 k.4)
number_whole Exponent t k e = exponent k.0 k.2 k.3 k.1 k.4 k.5 k.6 k.7 k.8
number_whole Minus t k e = absurd cc
number_whole Point t k e = absurd cc
number_whole Letter t k e = absurd cc
number_whole Sign t k e = absurd cc
