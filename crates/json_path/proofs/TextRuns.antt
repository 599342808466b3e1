-- The machine takes the names and the quoted texts of the grammar, wherever they stand.
use Rattle.std.proofs.Common.{◌≡◌, ℕ, ◌<◌, List, [], ◌∷◌, ◌++◌, length, refl, ap, ◌∙◌, Option, Some, None, Bool, true, false, ◌==◌, if◌then◌else◌, IsUtf8, arith}
use Rattle.std.proofs.lemmas.Bool.Decides.{nat_tests}
use Rattle.std.proofs.lemmas.Str.{IsUtf8-append, IsUtf8-nil}
use Rattle.byte_grammar.specs.declared.characters.Character.TheVariants.{Whole}
use Rattle.json_path.specs.declared.tokens.Spelling.{Spelling}
use Rattle.json_path.specs.declared.tokens.Quotation.{Quotation}
use Rattle.json_path.specs.declared.tokens.Quoting.{Quoting}
use Rattle.json_path.specs.declared.tokens.Quoting.TheVariants.{Open, Closed, Wrong}
use Rattle.byte_grammar.specs.Bytes.{Each, is_space, is_digit, is_nonzero_digit}
use Rattle.json_path.specs.Grammar.{is_name_byte, mark, IsName, name, IsQuoted, quoted, Spaced, behind_spaces, with_space, IsMinus, absent, present, IsSign, no_sign, plus_sign, minus_sign, IsWhole, zero_part, whole_part, IsDecimal, no_fraction, fraction, IsNumber, no_exponent, exponent}
use Rattle.json_path.specs.Tokens.{spell, unspelt, quotation, quote, checked}
use Rattle.json_path.proofs.Checked.{utf8_checked}
use Rattle.byte_grammar.proofs.Utf8Texts.{text_taken, one_byte}
use Rattle.byte_grammar.specs.Runs.{run}
use Rattle.byte_grammar.proofs.Runs.{run_none, joined, grown, lifted, lifted_all, stays, byte_on, byte_end}
use Rattle.json_path.proofs.TokenRuns.{spelling, spelt, open_quote, quote_step, quoted_so, escapes_run}

-- a space changes nothing here
abbrev pub Skips : {S : Type 0} → (S → ℕ → Option S) → S → Type 0
Skips step s = (b : ℕ) → is_space b ≡ true → step s b ≡ Some s

-- a place where a name may begin, and how it goes on
pub record Names {S : Type 0} (outer : S → ℕ → Option S) (s : S) (f : Spelling → S) : Type 0 where
  pub begins : (b : ℕ) (r : Spelling) → is_name_byte b ≡ true → spell unspelt b ≡ Some r → outer s b ≡ Some (f r)
  pub goes : (p r : Spelling) (b : ℕ) → is_name_byte b ≡ true → spell p b ≡ Some r → outer (f p) b ≡ Some (f r)

name_begun : {S : Type 0} (outer : S → ℕ → Option S) (s : S) (f : Spelling → S) → Names outer s f → (b : ℕ) (bs : List ℕ) (r : Spelling) → is_name_byte b ≡ true → Each is_name_byte bs
    → (o : Option Spelling) → spell unspelt b ≡ o → run spell o bs ≡ Some r → run outer (Some s) (b ∷ bs) ≡ Some (f r)
name_begun outer s f k b bs r h e None p q = absurd (let n = run_none spell bs in cc)
name_begun outer s f k b bs r h e (Some z) p q = byte_on outer s (f z) b bs (k.begins b z h p) ∙ lifted spell outer f is_name_byte k.goes z r bs e q

name_from : {S : Type 0} (outer : S → ℕ → Option S) (s : S) (f : Spelling → S) → Names outer s f → (t : List ℕ) → 0 < length t → Each is_name_byte t → IsUtf8 t → run outer (Some s) t ≡ Some (f (spelling t Whole))
unfolding Each run
name_from outer s f k [] h e u = absurd (omega arith)
name_from outer s f k (b ∷ bs) h e u = name_begun outer s f k b bs (spelling (b ∷ bs) Whole) e.0 e.1 (spell unspelt b) refl (spelt (b ∷ bs) unspelt Whole (text_taken (b ∷ bs) u))

-- a name is taken
pub name_run : {S : Type 0} (outer : S → ℕ → Option S) (s : S) (f : Spelling → S) → Names outer s f → {t n : List ℕ} → IsName t n → (run outer (Some s) t ≡ Some (f (spelling t Whole))) × (checked t ≡ Some n)
name_run outer s f k (name {t} h e u) = (name_from outer s f k t h e u, utf8_checked t u)

-- a place where a quoted text may begin, how it goes on, and what it ends in
pub record Quotes {S : Type 0} (outer : S → ℕ → Option S) (s : S) (f : Quotation → S) (done : List ℕ → S) : Type 0 where
  pub begins : (d : Bool) → outer s (mark d) ≡ Some (f (quotation d))
  pub goes : (q r : Quotation) (b : ℕ) → quote q b ≡ Open r → outer (f q) b ≡ Some (f r)
  pub ends : (q : Quotation) (w : List ℕ) (b : ℕ) → quote q b ≡ Closed w → outer (f q) b ≡ Some (done w)

pub opened : (k : Quoting) (r : Quotation) → open_quote k ≡ Some r → k ≡ Open r
opened (Open q) r e = let c : q ≡ r = cc in ap (λ z. Open z) c
opened (Closed w) r e = absurd cc
opened Wrong r e = absurd cc

pub closed_by : (d : Bool) (w : List ℕ) → checked w ≡ Some w → quote (quoted_so d false w Whole) (mark d) ≡ Closed w
closed_by true w e = rw e refl
closed_by false w e = rw e refl

-- a quoted text is taken
pub quoted_run : {S : Type 0} (outer : S → ℕ → Option S) (s : S) (f : Quotation → S) (done : List ℕ → S) → Quotes outer s f done → {t w : List ℕ} → IsQuoted t w → run outer (Some s) t ≡ Some (done w)
quoted_run outer s f done k (quoted {text} {words} d t h u e) =
    rw e (byte_on outer s (f (quotation d)) (mark d) (t ++ mark d ∷ []) (k.begins d)
    ∙ joined outer (Some (f (quotation d))) (Some (f (quoted_so d false words Whole))) t (mark d ∷ [])
    (lifted_all quote_step outer f (λ p r b g. k.goes p r b (opened (quote p b) r g)) (quotation d) (quoted_so d false words Whole) t (escapes_run d h Whole (text_taken words u)))
    ∙ byte_end outer (f (quoted_so d false words Whole)) (done words) (mark d) (k.ends (quoted_so d false words Whole) words (mark d) (closed_by d words (utf8_checked words u))))

-- a quoted text with spaces around it is taken
pub quoted_spaced : {S : Type 0} (outer : S → ℕ → Option S) (s : S) (f : Quotation → S) (done : List ℕ → S) → Quotes outer s f done → Skips outer s → ((w : List ℕ) → Skips outer (done w)) → {t w : List ℕ} → Spaced IsQuoted t w → run outer (Some s) t ≡ Some (done w)
quoted_spaced outer s f done k h g (behind_spaces x t e q p) = rw p (joined outer (Some s) (Some s) x t (stays outer s is_space h x e) ∙ quoted_run outer s f done k q)
quoted_spaced outer s f done k h g (with_space {text} {value} t q p) = rw p (grown outer (Some s) (done value) t 32 (quoted_spaced outer s f done k h g q) ∙ g value 32 refl)

small_digits : (ds : List ℕ) → Each is_digit ds → IsUtf8 ds
unfolding Each
small_digits [] e = IsUtf8-nil
small_digits (b ∷ ds) e = IsUtf8-append (b ∷ []) ds (one_byte b (small b e.0)) (small_digits ds e.1)
  where
    small : (b : ℕ) → is_digit b ≡ true → b < 128
    small b h = grind (arith, nat_tests)

small_first : (b : ℕ) → is_nonzero_digit b ≡ true → b < 128
small_first b h = grind (arith, nat_tests)

small_letter : (b : ℕ) → (if b == 101 then true else b == 69) ≡ true → b < 128
small_letter b h = grind (arith, nat_tests)

small_minus : {m : List ℕ} → IsMinus m → IsUtf8 m
small_minus absent = IsUtf8-nil
small_minus present = one_byte 45 (omega arith)

small_sign : {m : List ℕ} → IsSign m → IsUtf8 m
small_sign no_sign = IsUtf8-nil
small_sign plus_sign = one_byte 43 (omega arith)
small_sign minus_sign = one_byte 45 (omega arith)

small_whole : {t : List ℕ} → IsWhole t → IsUtf8 t
small_whole (zero_part m h e) = rw e (IsUtf8-append m (48 ∷ []) (small_minus h) (one_byte 48 (omega arith)))
small_whole (whole_part m d ds h i j e) = rw e (IsUtf8-append m (d ∷ ds) (small_minus h) (IsUtf8-append (d ∷ []) ds (one_byte d (small_first d i)) (small_digits ds j)))

small_decimal : {t : List ℕ} → IsDecimal t → IsUtf8 t
small_decimal (no_fraction w) = small_whole w
small_decimal (fraction w ds h i e) = rw e (IsUtf8-append w (46 ∷ ds) (small_whole h) (IsUtf8-append (46 ∷ []) ds (one_byte 46 (omega arith)) (small_digits ds i.1)))

-- a number is UTF-8
pub ascii_number : {t : List ℕ} → IsNumber t → IsUtf8 t
ascii_number (no_exponent d) = small_decimal d
ascii_number (exponent t s ds e d h i j q) = rw q (IsUtf8-append t (e ∷ (s ++ ds)) (small_decimal d) (IsUtf8-append (e ∷ []) (s ++ ds) (one_byte e (small_letter e h)) (IsUtf8-append s ds (small_sign i) (small_digits ds j.1))))
