-- From whatever has come of a path, some bytes lead to its end.
use Rattle.std.proofs.Common.{◌≡◌, ℕ, ◌+◌, ◌-◌, ◌*◌, ◌≤◌, List, [], ◌∷◌, ◌++◌, refl, ap, ◌∙◌, Option, Some, None, Bool, true, false, ◌==◌, append_assoc, append-nil, subst, arith}
use Rattle.std.proofs.lemmas.Bool.Decides.{nat_tests}
use Rattle.byte_grammar.specs.declared.characters.Character.{Character}
use Rattle.byte_grammar.specs.declared.characters.Character.TheVariants.{Whole, One, Two, Three, BehindE0, BehindEd, BehindF0, BehindF4}
use Rattle.json_path.specs.declared.tokens.Spelling.{Spelling}
use Rattle.json_path.specs.declared.tokens.Quotation.{Quotation}
use Rattle.json_path.specs.declared.integers.Digits.{Digits}
use Rattle.json_path.specs.declared.numbers.Part.{Part}
use Rattle.json_path.specs.declared.numbers.Part.TheVariants.{Minus, Zero, Integer, Point, Fraction, Letter, Sign, Exponent}
use Rattle.json_path.specs.declared.numbers.Numeral.{Numeral}
use Rattle.byte_grammar.specs.Bytes.{Each, is_digit}
use Rattle.json_path.specs.Grammar.{is_name_byte, mark}
use Rattle.byte_grammar.specs.Utf8.{follow, rest_of}
use Rattle.json_path.specs.Tokens.{spell, quote, checked, part, may_end, digit, farthest}
use Rattle.json_path.proofs.Checked.{utf8_checked}
use Rattle.byte_grammar.proofs.Utf8Meaning.{rest_run, is_high, rest_high, whole_text}
use Rattle.byte_grammar.specs.Runs.{run}
use Rattle.byte_grammar.proofs.Runs.{run_none, run_end, joined, grown, lifted, lifted_all, byte_end}
use Rattle.json_path.proofs.TokenRuns.{spelling, spelt, quote_step, quoted_so, digits_so, fits, numeral_so, Numbers}
use Rattle.json_path.proofs.TextRuns.{Names, Quotes, opened, closed_by, ascii_number}
use Rattle.json_path.proofs.TokenPasts.{IsSpelt, DigitsPast, DigitsSo, NumberPast, number_whole, PartBehind, in_part, part_behind}

high_names : (bs : List ℕ) → Each is_high bs → Each is_name_byte bs
unfolding Each
high_names [] e = tt
high_names (b ∷ bs) e = (named b e.0, high_names bs e.1)
  where
    named : (b : ℕ) → is_high b ≡ true → is_name_byte b ≡ true
    named b h = grind (arith, nat_tests)

-- a name is made whole
pub name_done : {S : Type 0} (outer : S → ℕ → Option S) (s : S) (f : Spelling → S) → Names outer s f → (p : Spelling) → IsSpelt p → (run outer (Some (f p)) (rest_of p.character) ≡ Some (f (spelling (p.bytes ++ rest_of p.character) Whole))) × (checked (p.bytes ++ rest_of p.character) ≡ Some (p.bytes ++ rest_of p.character))
name_done outer s f k p h = (
  lifted spell outer f is_name_byte k.goes p (spelling (p.bytes ++ rest_of p.character) Whole) (rest_of p.character) (high_names (rest_of p.character) (rest_high p.character)) (spelt (rest_of p.character) p Whole (rest_run p.character)),
  utf8_checked (p.bytes ++ rest_of p.character) (whole_text p.bytes p.character h),
)

other_byte : (d : Bool) (b : ℕ) → is_high b ≡ true → ((b == mark d) ≡ false) × ((b == 92) ≡ false)
other_byte true b h = (grind (arith, nat_tests), grind (arith, nat_tests))
other_byte false b h = (grind (arith, nat_tests), grind (arith, nat_tests))

plain_byte : (d : Bool) (w : List ℕ) (c r : Character) (b : ℕ) → is_high b ≡ true → follow c b ≡ Some r → quote_step (quoted_so d false w c) b ≡ Some (quoted_so d false (w ++ b ∷ []) r)
plain_byte d w c r b h e = let o = other_byte d b h in rw (o.0, o.1, e) refl

high_quote : (d : Bool) (bs w : List ℕ) (c r : Character) → Each is_high bs → run follow (Some c) bs ≡ Some r → run quote_step (Some (quoted_so d false w c)) bs ≡ Some (quoted_so d false (w ++ bs) r)
unfolding run Each
high_quote d [] w c r h e = let g : c ≡ r = cc in rw (append-nil, g) refl
high_quote d (b ∷ bs) w c r h e = from (follow c b) refl e (λ z g. high_quote d bs (w ++ b ∷ []) z r h.1 g)
  where
    from : (o : Option Character) → follow c b ≡ o → run follow o bs ≡ Some r
        → ((z : Character) → run follow (Some z) bs ≡ Some r → run quote_step (Some (quoted_so d false (w ++ b ∷ []) z)) bs ≡ Some (quoted_so d false ((w ++ b ∷ []) ++ bs) r))
        → run quote_step (quote_step (quoted_so d false w c) b) bs ≡ Some (quoted_so d false (w ++ b ∷ bs) r)
    from None p q k = absurd (let n = run_none follow bs in cc)
    from (Some z) p q k = ap (λ o. run quote_step o bs) (plain_byte d w c z b h.0 p) ∙ k z q ∙ ap (λ v. Some (quoted_so d false v r)) (append_assoc w (b ∷ []) bs)

-- bytes that lead there
pub record Leads {S : Type 0} (outer : S → ℕ → Option S) (s : S) (P : S → Type 0) : Type 0 where
  pub more : List ℕ
  pub state : S
  pub is : run outer (Some s) more ≡ Some state
  pub fact : P state

pub here : {S : Type 0} (outer : S → ℕ → Option S) (s : S) (P : S → Type 0) → P s → Leads outer s P
here outer s P p = record { more = []; state = s; is = run_end outer (Some s); fact = p }

-- by way of another state
pub by_way : {S : Type 0} (outer : S → ℕ → Option S) (s r : S) (P : S → Type 0) (a : List ℕ) → run outer (Some s) a ≡ Some r → Leads outer r P → Leads outer s P
by_way outer s r P a e l = record { more = a ++ l.more; state = l.state; is = joined outer (Some s) (Some r) a l.more e ∙ l.is; fact = l.fact }

pub by_byte : {S : Type 0} (outer : S → ℕ → Option S) (s r : S) (P : S → Type 0) (b : ℕ) → outer s b ≡ Some r → Leads outer r P → Leads outer s P
by_byte outer s r P b e l = by_way outer s r P (b ∷ []) (byte_end outer s r b e) l

-- the byte behind a backslash
abbrev next_of : Character → ℕ
next_of Whole = 97
next_of One = 128
next_of Two = 128
next_of Three = 128
next_of BehindE0 = 160
next_of BehindEd = 128
next_of BehindF0 = 144
next_of BehindF4 = 128

abbrev behind_of : Character → Character
behind_of Whole = Whole
behind_of One = Whole
behind_of Two = One
behind_of Three = Two
behind_of BehindE0 = One
behind_of BehindEd = One
behind_of BehindF0 = Two
behind_of BehindF4 = Two

next_on : (c : Character) → follow c (next_of c) ≡ Some (behind_of c)
next_on Whole = refl
next_on One = refl
next_on Two = refl
next_on Three = refl
next_on BehindE0 = refl
next_on BehindEd = refl
next_on BehindF0 = refl
next_on BehindF4 = refl

escaped_byte : (d : Bool) (w : List ℕ) (c : Character) → quote_step (quoted_so d true w c) (next_of c) ≡ Some (quoted_so d false (w ++ next_of c ∷ []) (behind_of c))
escaped_byte d w c = rw (next_on c) refl

-- a quoted text is ended
module _ {S : Type 0} (outer : S → ℕ → Option S) (s : S) (f : Quotation → S) (done : List ℕ → S) (k : Quotes outer s f done) (P : S → Type 0) (finish : (w : List ℕ) → Leads outer (done w) P) where
  plain_done : (d : Bool) (w : List ℕ) (c : Character) → run follow (Some Whole) w ≡ Some c → Leads outer (f (quoted_so d false w c)) P
  plain_done d w c e =
      let v = w ++ rest_of c in
      by_way outer (f (quoted_so d false w c)) (f (quoted_so d false v Whole)) P (rest_of c)
      (lifted_all quote_step outer f (λ p r b g. k.goes p r b (opened (quote p b) r g)) (quoted_so d false w c) (quoted_so d false v Whole) (rest_of c) (high_quote d (rest_of c) w c Whole (rest_high c) (rest_run c)))
      (by_byte outer (f (quoted_so d false v Whole)) (done v) P (mark d) (k.ends (quoted_so d false v Whole) v (mark d) (closed_by d v (utf8_checked v (whole_text w c e)))) (finish v))

  pub quote_done : (d : Bool) (q : Quotation) → IsSpelt q.spelling → Leads outer (f q) P
  quote_done d q h = from q.double q.escaped q.spelling.bytes q.spelling.character h
    where
      from : (d e : Bool) (w : List ℕ) (c : Character) → run follow (Some Whole) w ≡ Some c → Leads outer (f (quoted_so d e w c)) P
      from d false w c h = plain_done d w c h
      from d true w c h =
          by_byte outer (f (quoted_so d true w c)) (f (quoted_so d false (w ++ next_of c ∷ []) (behind_of c))) P (next_of c)
          (k.goes (quoted_so d true w c) (quoted_so d false (w ++ next_of c ∷ []) (behind_of c)) (next_of c) (opened (quote (quoted_so d true w c) (next_of c)) (quoted_so d false (w ++ next_of c ∷ []) (behind_of c)) (escaped_byte d w c)))
          (plain_done d (w ++ next_of c ∷ []) (behind_of c) (grown follow (Some Whole) c w (next_of c) h ∙ next_on c))

-- an integer has a digit
pub digits_done : {S : Type 0} (outer : S → ℕ → Option S) (f : Digits → S) (P : S → Type 0) → ((n r : Digits) (b : ℕ) → is_digit b ≡ true → digit n b ≡ Some r → outer (f n) b ≡ Some (f r)) → ((n : Digits) → n.any ≡ true → Leads outer (f n) P) → (n : Digits) (t : List ℕ) → DigitsPast n t → Leads outer (f n) P
digits_done outer f P k finish n t h = from n.any n.minus n.value h
  where
    from : (a m : Bool) (v : ℕ) → DigitsSo a m v t → Leads outer (f (record { minus = m; any = a; value = v })) P
    from true m v h = finish (record { minus = m; any = true; value = v }) refl
    from false m v h =
        let z = h.1 in
        let l : v * 10 + (48 - 48) ≤ farthest m = rw (h.1, h.0) (omega arith) in
        by_byte outer (f (record { minus = m; any = false; value = v })) (f (digits_so m (v * 10 + (48 - 48)))) P 48
        (k (record { minus = m; any = false; value = v }) (digits_so m (v * 10 + (48 - 48))) 48 refl (fits (record { minus = m; any = false; value = v }) 48 l))
        (finish (digits_so m (v * 10 + (48 - 48))) refl)

-- what may end a number
abbrev last_part : Part → Part
last_part Minus = Zero
last_part Zero = Zero
last_part Integer = Integer
last_part Point = Fraction
last_part Fraction = Fraction
last_part Letter = Exponent
last_part Sign = Exponent
last_part Exponent = Exponent

more_number : (p : Part) (t : List ℕ) (q : Part) → NumberPast p t → part p 48 ≡ Some q → NumberPast q (t ++ 48 ∷ [])
more_number p t q k e = from (part p 48) e (part_behind p t 48 k)
  where
    from : (o : Option Part) → o ≡ Some q → PartBehind t 48 o → NumberPast q (t ++ 48 ∷ [])
    from _ e (in_part r h) = let g : r ≡ q = cc in subst (λ (z : Part). NumberPast z (t ++ 48 ∷ [])) g h
    from _ e PartBehind.no_part = absurd cc

-- a number is ended
pub number_done : {S : Type 0} (outer : S → ℕ → Option S) (s : S) (f : Numeral → S) (P : S → Type 0) → Numbers outer s f → ((p : Part) (t : List ℕ) → may_end p ≡ true → checked t ≡ Some t → Leads outer (f (numeral_so p t)) P) → (p : Part) (t : List ℕ) → NumberPast p t → Leads outer (f (numeral_so p t)) P
number_done outer s f P k finish p t h = from p h
  where
    whole : (p : Part) (t : List ℕ) → NumberPast p t → may_end p ≡ true → Leads outer (f (numeral_so p t)) P
    whole p t h e = finish p t e (utf8_checked t (ascii_number (number_whole p t h e)))

    one_more : (p q : Part) → NumberPast p t → part p 48 ≡ Some q → may_end q ≡ true → Leads outer (f (numeral_so p t)) P
    one_more p q h e m = by_byte outer (f (numeral_so p t)) (f (numeral_so q (t ++ 48 ∷ []))) P 48 (k.goes p t 48 q e) (whole q (t ++ 48 ∷ []) (more_number p t q h e) m)

    from : (p : Part) → NumberPast p t → Leads outer (f (numeral_so p t)) P
    from Minus h = one_more Minus Zero h refl refl
    from Zero h = whole Zero t h refl
    from Integer h = whole Integer t h refl
    from Point h = one_more Point Fraction h refl refl
    from Fraction h = whole Fraction t h refl
    from Letter h = one_more Letter Exponent h refl refl
    from Sign h = one_more Sign Exponent h refl refl
    from Exponent h = whole Exponent t h refl
