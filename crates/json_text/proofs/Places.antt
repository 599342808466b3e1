-- A text goes on exactly as far as the machine does.
use Rattle.std.proofs.Math.Seq.{take-add, take-length}
use Rattle.std.proofs.lemmas.List.{get_or-drop, take_all, length-drop}
use Rattle.std.proofs.lemmas.Str.{encode_ascii, IsUtf8-append, IsUtf8-encode, IsUtf8-nil}
use Rattle.std.proofs.lemmas.Bool.Decides.{nat_tests}
use Rattle.std.proofs.Common.{◌+◌, ◌-◌, ◌<◌, length, take, drop, get_or, arith, ◌≡◌, ℕ, List, [], ◌∷◌, ◌++◌, refl, ap, sym, ◌∙◌, Some, None, Bool, true, nat_lt, subst, IsUtf8}
use lib.Utf8.{low_scalar}
use Rattle.byte_grammar.specs.Bytes.{Each, is_digit, is_nonzero_digit, is_e}
use Rattle.json_text.specs.Bytes.{is_sign, AreDigits}
use Rattle.json_text.specs.Json.{Json}
use Rattle.byte_grammar.specs.Fault.{IsViable, IsFault, EachLength}
use Rattle.json_text.specs.Grammar.{IsMinus, no_minus, minus, IsWhole, only_zero, whole, IsFraction, no_fraction, fraction, IsExponent, no_exponent, unsigned, signed, IsJson, IsText}
use Rattle.json_text.specs.Machine.{after, start, step, ends, ends_at}
use Rattle.json_text.specs.Sane.{IsSane}
use Rattle.json_text.specs.declared.machine.State.{State}
use Rattle.json_text.specs.declared.place.Mode.{Mode}
use Rattle.json_text.specs.declared.place.Mode.TheVariants.{Value, FirstItem, FirstName, NextName, Named, Literal, Number, String, Done}
use Rattle.json_text.specs.declared.place.Use.TheVariants.{ForValue, ForName}
use Rattle.json_text.specs.declared.number.InNumber.{InNumber}
use Rattle.json_text.specs.declared.number.InNumber.TheVariants.{Minus, Zero, Whole, Point, Fraction, Exponent, Signed, Digits}
use Rattle.json_text.specs.declared.string.InString.{InString}
use Rattle.byte_grammar.proofs.Runs.{run_none}
use Rattle.byte_grammar.proofs.Faults as runs
use Rattle.byte_grammar.proofs.Faults.{Reached, Tells}
use Rattle.json_text.proofs.Runs.{joined}
use Rattle.json_text.proofs.Complete.{complete}
use Rattle.json_text.proofs.Finishing.{finish, finishes}
use Rattle.json_text.proofs.SoundStrings.{InChars}
use Rattle.json_text.proofs.SoundNumbers.{IsFront, Ended, ended}
use Rattle.json_text.proofs.Sound.{sound, stands_at}
use Rattle.json_text.proofs.Standing.{Within}
use Rattle.json_text.proofs.CharCodes.{chars_utf8}

pub viable : (p : List ℕ) (s : State) → after (Some start) p ≡ Some s → IsViable IsText p
viable p s h =
    let f = finishes s.mode s.stack in
    (finish s.mode s.stack, (f.0, sound (p ++ finish s.mode s.stack) f.0 (ap ends_at (joined (Some start) (Some s) p (finish s.mode s.stack) h) ∙ f.1)))

pub not_viable : (p : List ℕ) → after (Some start) p ≡ None → IsViable IsText p → ⊥
not_viable p h v =
    let a = complete (p ++ v.0) v.1.0 v.1.1 in
    let b = ap ends_at (joined (Some start) None p v.0 h ∙ run_none step v.0) in
    cc

-- the machine lives exactly where a text goes on
tells : Tells step start (IsViable IsText)
tells = record { lives = viable; stops = not_viable }

pub reached_start : (text : List ℕ) → Reached step start text 0 start
reached_start text = runs.reached_start step start text start refl

-- the state behind a whole text
pub reached_whole : (text : List ℕ) (i : ℕ) (s : State) → i ≡ length text → after (Some start) text ≡ Some s → Reached step start text i s
reached_whole text i s e r = record { is = rw (e, take-length text) r }

-- what is left behind the first i bytes
pub left : (text : List ℕ) (i : ℕ) → take (length text - i) (drop i text) ≡ drop i text
left text i = take_all (length text - i) (drop i text) (omega (arith, length-drop i text))

pub reached_on : (text : List ℕ) (i n : ℕ) (s t : State) → Reached step start text i s → after (Some s) (take n (drop i text)) ≡ Some t → Reached step start text (i + n) t
reached_on text i n s t r e = record { is = rw (take-add i n text) (joined (Some start) (Some s) (take i text) (take n (drop i text)) r.is ∙ e) }

-- no state behind the byte there
none_at : (text : List ℕ) (i : ℕ) (s : State) → step s (get_or (drop i text) 0 0) ≡ None → None ≡ step s (get_or text i 0)
none_at text i s e =
    let same : get_or text i 0 ≡ get_or (drop i text) 0 0 = ap (λ (j : ℕ). get_or text j 0) (omega arith) ∙ sym (get_or-drop i text 0 0) in
    rw same (sym e)

pub fault_stop : (text : List ℕ) (i : ℕ) (s : State) → i < length text → Reached step start text i s → step s (get_or (drop i text) 0 0) ≡ None → IsFault IsText text i
fault_stop text i s h r e = runs.fault_stop step start (IsViable IsText) EachLength tells text i s h tt r (none_at text i s e)

pub none_stop : (text : List ℕ) (i : ℕ) (s : State) → i < length text → Reached step start text i s → step s (get_or (drop i text) 0 0) ≡ None → IsText text → ⊥
none_stop text i s h r e t =
    let a = complete text t.0 t.1 in
    let b : ends_at (after (Some start) text) ≡ None = rw (runs.stopped_whole step start text i s h r (none_at text i s e)) refl in
    cc

pub fault_end : (text : List ℕ) (i : ℕ) (s : State) → i ≡ length text → Reached step start text i s → IsFault IsText text i
fault_end text i s e r = runs.fault_end step start (IsViable IsText) EachLength tells text i s e tt r

pub none_end : (text : List ℕ) (i : ℕ) (s : State) → i ≡ length text → Reached step start text i s → ends s ≡ None → IsText text → ⊥
none_end text i s e r h t =
    let a = complete text t.0 t.1 in
    let b : ends_at (after (Some start) text) ≡ None = rw (runs.whole_text step start text i s e r) h in
    cc

pub found_end : (text : List ℕ) (i : ℕ) (s : State) (j : Json) → i ≡ length text → Reached step start text i s → ends s ≡ Some j → IsJson text j
found_end text i s j e r h = sound text j (rw (runs.whole_text step start text i s e r) h)

-- ---- texts that are whole are UTF-8

abbrev is_small : ℕ → Bool
is_small b = nat_lt b 128

each_utf8 : (bs : List ℕ) → Each is_small bs → IsUtf8 bs
unfolding Each
each_utf8 [] a = IsUtf8-nil
each_utf8 (b ∷ bs) a =
    let h : b < 128 = small b a.0 in
    IsUtf8-append (b ∷ []) bs (subst IsUtf8 (encode_ascii b h) (IsUtf8-encode b (low_scalar b (omega arith)))) (each_utf8 bs a.1)
  where
    small : (b : ℕ) → nat_lt b 128 ≡ true → b < 128
    small b e = grind (arith, nat_tests)

small_digit : (b : ℕ) → is_digit b ≡ true → is_small b ≡ true
small_digit b h = grind (arith, nat_tests)

small_nonzero : (b : ℕ) → is_nonzero_digit b ≡ true → is_small b ≡ true
small_nonzero b h = grind (arith, nat_tests)

small_e : (b : ℕ) → is_e b ≡ true → is_small b ≡ true
small_e b h = grind (arith, nat_tests)

small_sign : (b : ℕ) → is_sign b ≡ true → is_small b ≡ true
small_sign b h = grind (arith, nat_tests)

small_digits : (bs : List ℕ) → AreDigits bs → Each is_small bs
unfolding Each
small_digits [] a = tt
small_digits (b ∷ bs) a = (small_digit b a.0, small_digits bs a.1)

minus_utf8 : (t : List ℕ) → IsMinus t → IsUtf8 t
unfolding Each
minus_utf8 t no_minus = IsUtf8-nil
minus_utf8 t minus = each_utf8 (45 ∷ []) (refl, tt)

whole_utf8 : (t : List ℕ) → IsWhole t → IsUtf8 t
unfolding Each
whole_utf8 t only_zero = each_utf8 (48 ∷ []) (refl, tt)
whole_utf8 t (whole b bs h a) = each_utf8 (b ∷ bs) (small_nonzero b h, small_digits bs a)

fraction_utf8 : (t : List ℕ) → IsFraction t → IsUtf8 t
unfolding Each
fraction_utf8 t no_fraction = IsUtf8-nil
fraction_utf8 t (fraction b bs h a) = each_utf8 (46 ∷ b ∷ bs) (refl, (small_digit b h, small_digits bs a))

exponent_utf8 : (t : List ℕ) → IsExponent t → IsUtf8 t
unfolding Each
exponent_utf8 t no_exponent = IsUtf8-nil
exponent_utf8 t (unsigned e b bs x h a) = each_utf8 (e ∷ b ∷ bs) (small_e e x, (small_digit b h, small_digits bs a))
exponent_utf8 t (signed e s b bs x y h a) = each_utf8 (e ∷ s ∷ b ∷ bs) (small_e e x, (small_sign s y, (small_digit b h, small_digits bs a)))

ended_utf8 : (X P : List ℕ → Type 0) → ((t : List ℕ) → X t → IsUtf8 t) → ((t : List ℕ) → P t → IsUtf8 t) → (t : List ℕ) → Ended X P t → IsUtf8 t
ended_utf8 X P f g t w = subst IsUtf8 (sym w.parts) (IsUtf8-append w.x w.r (f w.x w.before) (g w.r w.is))

to_whole_utf8 : (t : List ℕ) → Ended IsMinus IsWhole t → IsUtf8 t
to_whole_utf8 t w = ended_utf8 IsMinus IsWhole minus_utf8 whole_utf8 t w

to_fraction_utf8 : (t : List ℕ) → Ended (Ended IsMinus IsWhole) IsFraction t → IsUtf8 t
to_fraction_utf8 t w = ended_utf8 (Ended IsMinus IsWhole) IsFraction to_whole_utf8 fraction_utf8 t w

-- what came of a number is UTF-8
front_utf8 : (p : InNumber) (t : List ℕ) → IsFront p t → IsUtf8 t
unfolding Each
front_utf8 Minus t w = rw w (each_utf8 (45 ∷ []) (refl, tt))
front_utf8 Zero t w = to_whole_utf8 t w
front_utf8 Whole t w = to_whole_utf8 t (ended IsMinus IsWhole t w)
front_utf8 Point t w = ended_utf8 _ _ to_whole_utf8 (λ r e. rw e (each_utf8 (46 ∷ []) (refl, tt))) t w
front_utf8 Fraction t w = to_fraction_utf8 t (ended _ _ t w)
front_utf8 Exponent t w = ended_utf8 _ _ to_fraction_utf8 (λ r e. rw e.2 (each_utf8 (e.0 ∷ []) (small_e e.0 e.1, tt))) t w
front_utf8 Signed t w = ended_utf8 _ _ to_fraction_utf8 (λ r e. rw e.4 (each_utf8 (e.0 ∷ e.1 ∷ []) (small_e e.0 e.2, (small_sign e.1 e.3, tt)))) t w
front_utf8 Digits t w = ended_utf8 _ _ to_fraction_utf8 exponent_utf8 t (ended _ _ t w)

sane_within : (m : Mode) (d : ℕ) (r : List ℕ) → Within m d r → IsSane m
sane_within Value d r w = tt
sane_within FirstItem d r w = tt
sane_within FirstName d r w = tt
sane_within (NextName ms) d r w = tt
sane_within (Named ms name) d r w = tt
sane_within (Literal l) d r w = tt
sane_within (Number n t) d r w = front_utf8 n t w.0
sane_within (String ForValue at) d r w = λ e. chars_utf8 (subst (λ (z : InString). InChars z w.0 at.text) e w.1)
sane_within (String (ForName ms) at) d r w = λ e. chars_utf8 (subst (λ (z : InString). InChars z w.1 at.text) e w.3)
sane_within (Done j) d r w = tt

pub sane : (text : List ℕ) (i : ℕ) (s : State) → Reached step start text i s → IsSane s.mode
sane text i s r = let w = stands_at (take i text) s r.is in sane_within s.mode w.d w.r w.within
