-- Texts of characters of two bytes or more, as they stand in quotes.
use Rattle.std.proofs.Common.{◌≡◌, ℕ, ◌≤◌, ◌<◌, ◌⊎◌, Bool, true, false, List, [], ◌∷◌, ◌++◌, refl, sym, subst, inl, inr, arith, nat_le, append_assoc, append-nil, IsUtf8}
use Rattle.std.proofs.lemmas.Bool.{cases_lt, and_parts}
use Rattle.std.proofs.lemmas.Bool.Decides.{nat_tests}
use Rattle.std.proofs.lemmas.Str.{encode_ascii}
use lib.Utf8.{scalars, encode, encodes}
use Rattle.byte_grammar.specs.Bytes.{Each}
use Rattle.byte_grammar.proofs.Bytes.{each_front, each_back}
use Rattle.byte_grammar.proofs.Utf8Meaning.{is_high}
use Rattle.json_text.specs.Grammar.{plain, AreChars, more_chars}

pub decide : (b : Bool) → (b ≡ true) ⊎ (b ≡ false)
decide true = inl refl
decide false = inr refl

low : (c : ℕ) → c < 128 → nat_le 128 c ≡ true → ⊥
low c l h = grind (arith, nat_tests)

none : (c : ℕ) → c < 128 → Each is_high (c ∷ []) → ⊥
unfolding Each
none c l h = low c l h.0

-- a character whose bytes are no ASCII
wide : (c : ℕ) → Each is_high (encode c) → 128 ≤ c
wide c h = elim (cases_lt c 128) [ inl l ↦ absurd (none c l (subst (λ (w : List ℕ). Each is_high w) (encode_ascii c l) h)) | inr l ↦ l ]

wide_chars : (cs q s : List ℕ) → scalars cs ≡ true → Each is_high (encodes cs) → AreChars q s → AreChars (q ++ encodes cs) (s ++ encodes cs)
wide_chars [] q s ok h w = subst (λ (v : List ℕ). AreChars v (s ++ [])) (sym (append-nil q)) (subst (λ (v : List ℕ). AreChars q v) (sym (append-nil s)) w)
wide_chars (c ∷ cs) q s ok h w =
    let p = and_parts _ _ ok in
    let l = wide c (each_front is_high (encode c) (encodes cs) h) in
    let one : AreChars (q ++ encode c) (s ++ encode c) = more_chars q s (encode c) (encode c) w (plain c p.0 (omega arith) (λ f. omega (arith, l, f)) (λ f. omega (arith, l, f)) refl refl) refl refl in
    let all = wide_chars cs (q ++ encode c) (s ++ encode c) p.1 (each_back is_high (encode c) (encodes cs) h) one in
    subst (λ (v : List ℕ). AreChars v (s ++ (encode c ++ encodes cs))) (append_assoc q (encode c) (encodes cs))
    (subst (λ (v : List ℕ). AreChars ((q ++ encode c) ++ encodes cs) v) (append_assoc s (encode c) (encodes cs)) all)

-- a text of such characters stands in quotes as it is
pub wide_text : (p q s : List ℕ) → IsUtf8 p → Each is_high p → AreChars q s → AreChars (q ++ p) (s ++ p)
wide_text p q s u h w = subst (λ (v : List ℕ). AreChars (q ++ v) (s ++ v)) u.1.1 (wide_chars u.0 q s u.1.0 (subst (λ (v : List ℕ). Each is_high v) (sym u.1.1) h) w)
