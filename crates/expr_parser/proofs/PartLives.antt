-- From each place in an argument some bytes complete it.
use Rattle.std.proofs.Common.{◌≡◌, ℕ, zero, suc, ◌*◌, ◌≤◌, List, [], ◌∷◌, ◌++◌, refl, ap, sym, ◌∙◌, Bool, true, false, ◌==◌, arith, Option, Some, inl, inr, if◌then◌else◌, subst, append_assoc, append-nil}
use Rattle.std.proofs.lemmas.Bool.Decides.{nat_tests}
use Rattle.std.proofs.lemmas.Bool.{cases_lt}
use Rattle.zbx_types.specs.declared.calls.Range.{Range}
use Rattle.zbx_types.specs.declared.calls.Range.TheVariants.{Count, Period}
use Rattle.byte_grammar.specs.declared.characters.Character.{Character}
use Rattle.byte_grammar.specs.declared.characters.Character.TheVariants.{Whole, One, Two, Three, BehindE0, BehindEd, BehindF0, BehindF4}
use Rattle.zbx_types.specs.Limits.{longest_range}
use Rattle.expr_parser.specs.declared.slots.Words.{Words}
use Rattle.expr_parser.specs.declared.slots.Slot.{Slot}
use Rattle.expr_parser.specs.declared.slots.Slot.TheVariants.{Newest, Span, MaybeSpan, Silence, Word, Percent, Free}
use Rattle.expr_parser.specs.declared.parts.Value.{Value}
use Rattle.expr_parser.specs.declared.parts.Value.TheVariants.{Ranged, Said}
use Rattle.expr_parser.specs.declared.parts.Ahead.{Ahead}
use Rattle.expr_parser.specs.declared.parts.Ahead.TheVariants.{Now, Ow, W, Dash, Digits as Figured}
use Rattle.expr_parser.specs.declared.parts.Part.{Part}
use Rattle.expr_parser.specs.declared.parts.Part.TheVariants.{Before, Hash, Latest, Seconds, Spanned, Back, Shift, Shifted, Letters, Number, Opened, Quoted, Text, Slash, Closed}
use Rattle.expr_parser.specs.Bytes.{Digits, AreDigits}
use Rattle.expr_parser.specs.Numbers.{IsNumber, decimal, whole, seconds, suffixed_period}
use Rattle.expr_parser.specs.Functions.{takes_count, least_period, word_list}
use Rattle.expr_parser.specs.Calls.{is_one_of, is_same, number_limit, greatest_percent, IsRange, latest, span, IsQuoted, nothing, plain, backslash, IsPart, absent, ranged, shifted, word, number, quoted_number, quoted}
use Rattle.expr_parser.specs.Figures.{figures_text}
use Rattle.expr_parser.specs.Parts.{is_front, begins_one}
use Rattle.expr_parser.proofs.Lists.{way, eq_true, digits_snoc}
use Rattle.expr_parser.proofs.Amounts.{whole_is}
use Rattle.byte_grammar.specs.Utf8.{follow, rest_of as tail}
use Rattle.byte_grammar.specs.Runs.{run}
use Rattle.byte_grammar.proofs.Utf8Meaning.{rest_run as tail_runs}
use Rattle.byte_grammar.proofs.Utf8Texts.{taken_text}
use Rattle.byte_grammar.proofs.Runs.{run_append}
use Rattle.expr_parser.proofs.NumberPasts.{NumberLives, number_lives}
use Rattle.expr_parser.proofs.PartPasts.{Past, gone, QuotedSo, SlashSo}

-- some bytes complete the argument
pub record PartLives (s : Slot) (t : List ℕ) : Type 0 where
  pub more : List ℕ
  pub value : Value
  pub is : IsPart s (t ++ more) value

now : (s : Slot) (t : List ℕ) (v : Value) → IsPart s t v → PartLives s t
now s t v h = record { more = []; value = v; is = subst (λ (x : List ℕ). IsPart s x v) (sym (append-nil t)) h }

-- ---- an argument of each kind

one_is : Digits 0 (49 ∷ []) 1
unfolding Digits
one_is = (refl, refl)

thirty_is : Digits 0 (51 ∷ 48 ∷ []) 30
unfolding Digits
thirty_is = (refl, (refl, refl))

zero_is : AreDigits (48 ∷ [])
unfolding AreDigits
zero_is = (refl, tt)

pub zero_number : (most : ℕ) → IsNumber most (48 ∷ []) 0
zero_number most = decimal (whole 48 [] zero_is) (whole_is 48 [] zero_is) (omega arith)

-- an argument that may stand there
pub record Sample (s : Slot) : Type 0 where
  pub text : List ℕ
  pub value : Value
  pub is : IsPart s text value

pub sample : (s : Slot) → Sample s
sample Newest = record { text = []; value = Ranged (Count 1) 0; is = absent refl }
sample Span = record { text = 35 ∷ 49 ∷ []; value = Ranged (Count 1) 0; is = ranged (latest 49 [] refl one_is (omega arith) (omega arith) refl) }
sample MaybeSpan = record { text = []; value = Ranged (Count 1) 0; is = absent refl }
sample Silence = record { text = 51 ∷ 48 ∷ []; value = Ranged (Period 30) 0; is = ranged (span 30 refl (seconds 51 (48 ∷ []) thirty_is (omega arith) (omega arith))) }
sample (Word ws) = record { text = []; value = Said []; is = absent refl }
sample Percent = record { text = 48 ∷ []; value = Said (48 ∷ []); is = number greatest_percent 0 refl (zero_number greatest_percent) }
sample Free = record { text = []; value = Said []; is = absent refl }

-- ---- words

front_rest : (a t : List ℕ) → is_front a t ≡ true → (r : List ℕ) × (a ++ r ≡ t)
front_rest [] t h = (t, refl)
front_rest (b ∷ a) [] h = absurd cc
front_rest (b ∷ a) (c ∷ t) h = elim (way (b == c) (is_front a t) false true h) [
  | inl z ↦ let r = front_rest a t z.1 in let e = eq_true b c z.0 in (r.0, ap (λ (v : ℕ). v ∷ (a ++ r.0)) e ∙ ap (λ (v : List ℕ). c ∷ v) r.1)
  | inr z ↦ absurd (let k = z.1 in cc)
]

same_self : (a : List ℕ) → is_same a a ≡ true
same_self [] = refl
same_self (b ∷ a) = rw (same_byte b) (same_self a)
  where
    same_byte : (x : ℕ) → (x == x) ≡ true
    same_byte x = grind (arith, nat_tests)

-- what begins a word goes on to one
pub word_rest : (ws : List (List ℕ)) (a : List ℕ) → begins_one ws a ≡ true → (r : List ℕ) × (is_one_of ws (a ++ r) ≡ true)
word_rest [] a h = absurd cc
word_rest (w ∷ ws) a h = elim (way (is_front a w) true (begins_one ws a) true h) [
  | inl z ↦ let r = front_rest a w z.0 in (r.0, rw r.1 (rw (same_self w) refl))
  | inr z ↦ let r = word_rest ws a z.1 in (r.0, at (is_same (a ++ r.0) w) r.1)
]
  where
    at : {x : Bool} (c : Bool) → x ≡ true → (if c then true else x) ≡ true
    at {x} true h = refl
    at {x} false h = h

-- ---- periods

least_small : (s : Slot) (m : ℕ) → least_period s ≡ Some m → m ≤ 30
least_small Newest m h = absurd cc
least_small Span m h = let e : 1 ≡ m = cc in omega arith
least_small MaybeSpan m h = let e : 1 ≡ m = cc in omega arith
least_small Silence m h = let e : 30 ≡ m = cc in omega arith
least_small (Word ws) m h = absurd cc
least_small Percent m h = absurd cc
least_small Free m h = absurd cc

thirty_more : (b : ℕ) (bs : List ℕ) → Digits 0 (b ∷ bs) 0 → Digits 0 (b ∷ (bs ++ 51 ∷ 48 ∷ [])) 30
thirty_more b bs d = subst (λ (v : List ℕ). Digits 0 (b ∷ v) 30) (append_assoc bs (51 ∷ []) (48 ∷ [])) (digits_snoc (b ∷ (bs ++ 51 ∷ [])) 48 0 3 (digits_snoc (b ∷ bs) 51 0 0 d refl) refl)

seconds_live : (s : Slot) (v b : ℕ) (bs : List ℕ) (m : ℕ) → Digits 0 (b ∷ bs) v → v ≤ longest_range → least_period s ≡ Some m → PartLives s (b ∷ bs)
seconds_live s zero b bs m d l e = let g = least_small s m e in
    record { more = 51 ∷ 48 ∷ []; value = Ranged (Period 30) 0; is = ranged (span m e (seconds b (bs ++ 51 ∷ 48 ∷ []) (thirty_more b bs d) g (omega arith))) }
seconds_live s (suc v) b bs m d l e = elim (cases_lt (suc v) m) [
  | inr h ↦ now s (b ∷ bs) (Ranged (Period (suc v)) 0) (ranged (span m e (seconds b bs d h l)))
  | inl h ↦ let g = least_small s m e in
      record { more = 109 ∷ []; value = Ranged (Period (suc v * 60)) 0; is = ranged (span m e (suffixed_period b bs 109 (suc v) 60 d refl refl (omega arith) (omega arith) refl)) }
]

latest_live : (s : Slot) (v b : ℕ) (bs : List ℕ) → Digits 0 (b ∷ bs) v → v ≤ 10000 → takes_count s ≡ true → PartLives s (35 ∷ b ∷ bs)
latest_live s zero b bs d l e = record { more = 49 ∷ []; value = Ranged (Count 1) 0; is = ranged (latest b (bs ++ 49 ∷ []) e (digits_snoc (b ∷ bs) 49 0 0 d refl) (omega arith) (omega arith) refl) }
latest_live s (suc v) b bs d l e = now s (35 ∷ b ∷ bs) (Ranged (Count (suc v)) 0) (ranged (latest b bs e d (omega arith) l refl))

-- ---- shifts

abbrev rest_of : Ahead → List ℕ
rest_of Now = 110 ∷ 111 ∷ 119 ∷ 45 ∷ 48 ∷ []
rest_of Ow = 111 ∷ 119 ∷ 45 ∷ 48 ∷ []
rest_of W = 119 ∷ 45 ∷ 48 ∷ []
rest_of Dash = 45 ∷ 48 ∷ []
rest_of Figured = 48 ∷ []

all_of : (a : Ahead) → gone a ++ rest_of a ≡ 58 ∷ 110 ∷ 111 ∷ 119 ∷ 45 ∷ 48 ∷ []
all_of Now = refl
all_of Ow = refl
all_of W = refl
all_of Dash = refl
all_of Figured = refl

nought_is : Digits 0 (48 ∷ []) 0
unfolding Digits
nought_is = (refl, refl)

back_live : (s : Slot) (a : Ahead) (r : Range) (t u : List ℕ) → t ≡ u ++ gone a → IsRange s u r → takes_count s ≡ true → PartLives s t
back_live s a r t u e i c = record {
  more = rest_of a;
  value = Ranged r 0;
  is = shifted u (48 ∷ []) i c (seconds 48 [] nought_is (omega arith) (omega arith)) (ap (λ (v : List ℕ). v ++ rest_of a) e ∙ append_assoc u (gone a) (rest_of a) ∙ ap (λ (v : List ℕ). u ++ v) (all_of a));
}

-- ---- texts

end_text : IsQuoted [] []
end_text = nothing refl refl

byte_text : (b : ℕ) (t : List ℕ) → (b == 34) ≡ false → (b == 92) ≡ false → IsQuoted t t → IsQuoted (b ∷ t) (b ∷ t)
byte_text b t h g i = plain b t t h g i refl refl

tail_text : (u : Character) → IsQuoted (tail u) (tail u)
tail_text Whole = end_text
tail_text One = byte_text 128 [] refl refl end_text
tail_text Two = byte_text 128 (128 ∷ []) refl refl (byte_text 128 [] refl refl end_text)
tail_text Three = byte_text 128 (128 ∷ 128 ∷ []) refl refl (byte_text 128 (128 ∷ []) refl refl (byte_text 128 [] refl refl end_text))
tail_text BehindE0 = byte_text 160 (128 ∷ []) refl refl (byte_text 128 [] refl refl end_text)
tail_text BehindEd = byte_text 128 (128 ∷ []) refl refl (byte_text 128 [] refl refl end_text)
tail_text BehindF0 = byte_text 144 (128 ∷ 128 ∷ []) refl refl (byte_text 128 (128 ∷ []) refl refl (byte_text 128 [] refl refl end_text))
tail_text BehindF4 = byte_text 128 (128 ∷ 128 ∷ []) refl refl (byte_text 128 (128 ∷ []) refl refl (byte_text 128 [] refl refl end_text))

text_live : (x v t : List ℕ) (u : Character) → t ≡ 34 ∷ x → QuotedSo x v → run follow (Some Whole) v ≡ Some u → PartLives Free t
text_live x v t u e g c = record {
  more = tail u ++ 34 ∷ [];
  value = Said (v ++ tail u);
  is = quoted (x ++ tail u) (v ++ tail u) (g (tail u) (tail u) (tail_text u)) (taken_text (v ++ tail u) (run_append follow (Some Whole) v (tail u) ∙ ap (λ (o : Option Character). run follow o (tail u)) c ∙ tail_runs u))
      (ap (λ (w : List ℕ). w ++ (tail u ++ 34 ∷ [])) e ∙ ap (λ (w : List ℕ). 34 ∷ w) (sym (append_assoc x (tail u) (34 ∷ []))));
}

slash_runs : run follow (Some Whole) (92 ∷ 97 ∷ []) ≡ Some Whole
unfolding run
slash_runs = refl

slash_live : (x v t : List ℕ) → t ≡ 34 ∷ (x ++ 92 ∷ []) → SlashSo x v → run follow (Some Whole) v ≡ Some Whole → PartLives Free t
slash_live x v t e g c = record {
  more = 97 ∷ 34 ∷ [];
  value = Said (v ++ 92 ∷ 97 ∷ []);
  is = quoted (x ++ 92 ∷ 97 ∷ []) (v ++ 92 ∷ 97 ∷ []) (g (97 ∷ []) (92 ∷ 97 ∷ []) (backslash 97 [] (97 ∷ []) refl (byte_text 97 [] refl refl end_text) refl refl))
      (taken_text (v ++ 92 ∷ 97 ∷ []) (run_append follow (Some Whole) v (92 ∷ 97 ∷ []) ∙ ap (λ (o : Option Character). run follow o (92 ∷ 97 ∷ [])) c ∙ slash_runs))
      (ap (λ (w : List ℕ). w ++ 97 ∷ 34 ∷ []) e ∙ ap (λ (w : List ℕ). 34 ∷ w) (append_assoc x (92 ∷ []) (97 ∷ 34 ∷ []) ∙ sym (append_assoc x (92 ∷ 97 ∷ []) (34 ∷ []))));
}

letters_live : (ws : Words) (w t : List ℕ) → t ≡ 34 ∷ w → begins_one (word_list ws) w ≡ true → PartLives (Word ws) t
letters_live ws w t e h = let r = word_rest (word_list ws) w h in
    record { more = r.0 ++ 34 ∷ []; value = Said (w ++ r.0); is = word (w ++ r.0) r.1 (ap (λ (v : List ℕ). v ++ (r.0 ++ 34 ∷ [])) e ∙ ap (λ (v : List ℕ). 34 ∷ v) (sym (append_assoc w r.0 (34 ∷ [])))) }

number_live : (s : Slot) (most : ℕ) (t u : List ℕ) → t ≡ u → number_limit s ≡ Some most → NumberLives most u → PartLives s t
number_live s most t u e h r = record { more = r.more; value = Said (t ++ r.more); is = number most r.n h (subst (λ (v : List ℕ). IsNumber most (v ++ r.more) r.n) (sym e) r.is) }

quoted_live : (t u : List ℕ) → t ≡ 34 ∷ u → NumberLives greatest_percent u → PartLives Percent t
quoted_live t u e r = record { more = r.more ++ 34 ∷ []; value = Said (u ++ r.more); is = quoted_number (u ++ r.more) r.n r.is (ap (λ (v : List ℕ). v ++ (r.more ++ 34 ∷ [])) e ∙ ap (λ (v : List ℕ). 34 ∷ v) (sym (append_assoc u r.more (34 ∷ [])))) }

at_slot : (s r : Slot) (t : List ℕ) → s ≡ r → PartLives r t → PartLives s t
at_slot s r t e h = subst (λ (v : Slot). PartLives v t) (sym e) h

at_text : (s : Slot) (t u : List ℕ) → t ≡ u → PartLives s u → PartLives s t
at_text s t u e h = subst (λ (v : List ℕ). PartLives s v) (sym e) h

pub part_lives : (s : Slot) (p : Part) (t : List ℕ) → Past s p t → PartLives s t
part_lives s Before t h = let m = sample s in at_text s t [] h (record { more = m.text; value = m.value; is = m.is })
part_lives s Hash t h = at_text s t (35 ∷ []) h.0 (record { more = 49 ∷ []; value = Ranged (Count 1) 0; is = ranged (latest 49 [] h.1 one_is (omega arith) (omega arith) refl) })
part_lives s (Latest v) t h = at_text s t (35 ∷ h.0 ∷ h.1) h.2 (latest_live s v h.0 h.1 h.3 h.4 h.5)
part_lives s (Seconds v) t h = at_text s t (h.0 ∷ h.1) h.3 (seconds_live s v h.0 h.1 h.2 h.4 h.5 h.6)
part_lives s (Spanned r) t h = now s t (Ranged r 0) (ranged h)
part_lives s (Back a r) t h = back_live s a r t h.0 h.1 h.2 h.3
part_lives s (Shift r v) t h = now s t (Ranged r v) (shifted h.0 (h.1 ∷ h.2) h.4 h.5 (seconds h.1 h.2 h.6 (omega arith) h.7) h.3)
part_lives s (Shifted r v) t h = now s t (Ranged r v) h
part_lives s (Letters w) t h = at_slot s (Word h.0) t h.1 (letters_live h.0 w t h.2 h.3)
part_lives s (Number f) t h = number_live s h.0 t (figures_text f) h.2 h.1 (number_lives h.0 f h.3)
part_lives s Opened t h = at_slot s Percent t h.0 (quoted_live t [] h.1 (record { more = 48 ∷ []; n = 0; is = zero_number greatest_percent }))
part_lives s (Quoted f) t h = at_slot s Percent t h.0 (quoted_live t (figures_text f) h.1 (number_lives greatest_percent f h.2))
part_lives s (Text v u) t h = at_slot s Free t h.1 (text_live h.0 v t u h.2 h.3 h.4)
part_lives s (Slash v) t h = at_slot s Free t h.1 (slash_live h.0 v t h.2 h.3 h.4)
part_lives s (Closed v) t h = now s t (Said v) h
