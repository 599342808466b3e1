-- The machine of UTF-8 takes the texts that are UTF-8, and no others.
use lib.Utf8.{scalar, scalars, scalar_cases, encode, encodes, next}
use Rattle.std.proofs.Common.{◌≡◌, ℕ, ◌+◌, ◌-◌, ◌*◌, ◌/◌, ◌<◌, ◌≤◌, List, [], ◌∷◌, ◌++◌, refl, ap, sym, ◌∙◌, Option, Some, None, Bool, true, false, ◌==◌, if◌then◌else◌, nat_lt, IsUtf8, arith, inl, inr, ◌⊎◌, subst, append_assoc, append-nil}
use Rattle.std.proofs.lemmas.Bool.Decides.{nat_tests}
use Rattle.std.proofs.lemmas.Bool.{and_parts, cases_lt}
use Rattle.std.proofs.lemmas.Str.{IsUtf8-nil, IsUtf8-append, IsUtf8-encode}
use Rattle.byte_grammar.specs.declared.characters.Character.{Character}
use Rattle.byte_grammar.specs.declared.characters.Character.TheVariants.{Whole, One, Two, Three, BehindE0, BehindEd, BehindF0, BehindF4}
use Rattle.byte_grammar.specs.Runs.{run}
use Rattle.byte_grammar.specs.Utf8.{follow, between}
use Rattle.byte_grammar.proofs.Runs.{run_append, run_none}

-- a byte behind the first one of a character
abbrev pub Follows : ℕ → Type 0
Follows b = (128 ≤ b) × (b < 192)

below : {X : Type 0} (m n : ℕ) (a b : X) → m < n → (if nat_lt m n then a else b) ≡ a
below m n a b h = grind (arith, nat_tests)

above : {X : Type 0} (m n : ℕ) (a b : X) → n ≤ m → (if nat_lt m n then a else b) ≡ b
above m n a b h = grind (arith, nat_tests)

one : (c : ℕ) → c < 128 → encode c ≡ c ∷ []
unfolding encode
one c h = below c 128 _ _ h

pub two : (c : ℕ) → 128 ≤ c → c < 2048 → encode c ≡ (192 + c / 64) ∷ next c ∷ []
unfolding encode
two c l h = above c 128 _ _ l ∙ below c 2048 _ _ h

pub three : (c : ℕ) → 2048 ≤ c → c < 65536 → encode c ≡ (224 + c / 4096) ∷ next (c / 64) ∷ next c ∷ []
unfolding encode
three c l h = above c 128 _ _ (omega arith) ∙ above c 2048 _ _ l ∙ below c 65536 _ _ h

pub four : (c : ℕ) → 65536 ≤ c → encode c ≡ (240 + c / 262144) ∷ next (c / 4096) ∷ next (c / 64) ∷ next c ∷ []
unfolding encode
four c l = above c 128 _ _ (omega arith) ∙ above c 2048 _ _ (omega arith) ∙ above c 65536 _ _ l

low_scalar : (c : ℕ) → c < 55296 → scalar c ≡ true
low_scalar c h = grind (arith, nat_tests)

high_scalar : (c : ℕ) → 57344 ≤ c → c < 1114112 → scalar c ≡ true
high_scalar c h k = grind (arith, nat_tests)

of_char : (bs : List ℕ) (c : ℕ) → scalar c ≡ true → bs ≡ encode c → IsUtf8 bs
of_char bs c s e = subst (λ (w : List ℕ). IsUtf8 w) (sym e) (IsUtf8-encode c s)

tail_in : (low high b : ℕ) → low ≤ b → b ≤ high → between low high b ≡ true
tail_in low high b h k = grind (arith, nat_tests)

pub split : {A : Type 0} (c : Bool) (a b s : A) → (if c then a else b) ≡ s → ((c ≡ true) × (a ≡ s)) ⊎ ((c ≡ false) × (b ≡ s))
split true a b s h = inl (refl, h)
split false a b s h = inr (refl, h)

lead_one : (b : ℕ) → b < 128 → follow Whole b ≡ Some Whole
lead_one b h = grind (arith, nat_tests)

lead_two : (b : ℕ) → 194 ≤ b → b < 224 → follow Whole b ≡ Some One
lead_two b h k = grind (arith, nat_tests)

lead_three : (b : ℕ) → 225 ≤ b → b < 240 → (b ≡ 237 → ⊥) → follow Whole b ≡ Some Two
lead_three b h k n = grind (arith, nat_tests)

lead_four : (b : ℕ) → 241 ≤ b → b < 244 → follow Whole b ≡ Some Three
lead_four b h k = grind (arith, nat_tests)

tail_one : (b : ℕ) → Follows b → follow One b ≡ Some Whole
tail_one b h = let p = h.0 in let q = h.1 in rw (tail_in 128 191 b (omega arith) (omega arith)) refl

tail_two : (b : ℕ) → Follows b → follow Two b ≡ Some One
tail_two b h = let p = h.0 in let q = h.1 in rw (tail_in 128 191 b (omega arith) (omega arith)) refl

tail_three : (b : ℕ) → Follows b → follow Three b ≡ Some Two
tail_three b h = let p = h.0 in let q = h.1 in rw (tail_in 128 191 b (omega arith) (omega arith)) refl

steps : (s t : Character) (b : ℕ) (bs : List ℕ) → follow s b ≡ Some t → run follow (Some s) (b ∷ bs) ≡ run follow (Some t) bs
unfolding run
steps s t b bs e = ap (λ o. run follow o bs) e

next_follows : (x : ℕ) → Follows (next x)
next_follows x = (omega arith, omega arith)

done : (s : Character) → run follow (Some s) [] ≡ Some s
unfolding run
done s = refl

over_two : (a b : ℕ) → 194 ≤ a → a < 224 → Follows b → run follow (Some Whole) (a ∷ b ∷ []) ≡ Some Whole
over_two a b h k f = steps Whole One a (b ∷ []) (lead_two a h k) ∙ steps One Whole b [] (tail_one b f) ∙ done Whole

over_three : (a b d : ℕ) → 224 ≤ a → a < 240 → Follows b → Follows d → (a ≡ 224 → 160 ≤ b) → (a ≡ 237 → b ≤ 159) → run follow (Some Whole) (a ∷ b ∷ d ∷ []) ≡ Some Whole
over_three a b d h k f g low high = elim (cases3 a h k) [
  | inl e ↦ steps Whole BehindE0 a (b ∷ d ∷ []) (rw e refl) ∙ steps BehindE0 One b (d ∷ []) (let p = low e in let q = f.1 in rw (tail_in 160 191 b p (omega arith)) refl) ∙ steps One Whole d [] (tail_one d g) ∙ done Whole
  | inr z ↦ elim z [
    | inl e ↦ steps Whole BehindEd a (b ∷ d ∷ []) (rw e refl) ∙ steps BehindEd One b (d ∷ []) (let p = high e in let q = f.0 in rw (tail_in 128 159 b q p) refl) ∙ steps One Whole d [] (tail_one d g) ∙ done Whole
    | inr w ↦ steps Whole Two a (b ∷ d ∷ []) (lead_three a w.0 k w.1) ∙ steps Two One b (d ∷ []) (tail_two b f) ∙ steps One Whole d [] (tail_one d g) ∙ done Whole
  ]
]
  where
    cases3 : (a : ℕ) → 224 ≤ a → a < 240 → (a ≡ 224) ⊎ ((a ≡ 237) ⊎ ((225 ≤ a) × (a ≡ 237 → ⊥)))
    cases3 a h k = grind arith

over_four : (a b d e : ℕ) → 240 ≤ a → a ≤ 244 → Follows b → Follows d → Follows e → (a ≡ 240 → 144 ≤ b) → (a ≡ 244 → b ≤ 143) → run follow (Some Whole) (a ∷ b ∷ d ∷ e ∷ []) ≡ Some Whole
over_four a b d e h k f g j low high = elim (cases3 a h k) [
  | inl w ↦ steps Whole BehindF0 a (b ∷ d ∷ e ∷ []) (rw w refl) ∙ steps BehindF0 Two b (d ∷ e ∷ []) (let p = low w in let q = f.1 in rw (tail_in 144 191 b p (omega arith)) refl) ∙ steps Two One d (e ∷ []) (tail_two d g) ∙ steps One Whole e [] (tail_one e j) ∙ done Whole
  | inr z ↦ elim z [
    | inl w ↦ steps Whole BehindF4 a (b ∷ d ∷ e ∷ []) (rw w refl) ∙ steps BehindF4 Two b (d ∷ e ∷ []) (let p = high w in let q = f.0 in rw (tail_in 128 143 b q p) refl) ∙ steps Two One d (e ∷ []) (tail_two d g) ∙ steps One Whole e [] (tail_one e j) ∙ done Whole
    | inr w ↦ steps Whole Three a (b ∷ d ∷ e ∷ []) (lead_four a w.0 w.1) ∙ steps Three Two b (d ∷ e ∷ []) (tail_three b f) ∙ steps Two One d (e ∷ []) (tail_two d g) ∙ steps One Whole e [] (tail_one e j) ∙ done Whole
  ]
]
  where
    cases3 : (a : ℕ) → 240 ≤ a → a ≤ 244 → (a ≡ 240) ⊎ ((a ≡ 244) ⊎ ((241 ≤ a) × (a < 244)))
    cases3 a h k = grind arith

over_char : (c : ℕ) → (c < 55296) ⊎ ((57344 ≤ c) × (c < 1114112)) → run follow (Some Whole) (encode c) ≡ Some Whole
over_char c s = elim (cases_lt c 128) [
  | inl h ↦ rw (one c h) (steps Whole Whole c [] (lead_one c h) ∙ done Whole)
  | inr l ↦ elim (cases_lt c 2048) [
    | inl h ↦ rw (two c l h) (over_two (192 + c / 64) (next c) (omega arith) (omega arith) (next_follows c))
    | inr l2 ↦ elim (cases_lt c 65536) [
      | inl h ↦ rw (three c l2 h) (over_three (224 + c / 4096) (next (c / 64)) (next c) (omega arith) (omega arith) (next_follows (c / 64)) (next_follows c) (λ e. first_low c l2 e) (λ e. first_high c s h e))
      | inr l3 ↦ rw (four c l3) (over_four (240 + c / 262144) (next (c / 4096)) (next (c / 64)) (next c) (omega arith) (top c s) (next_follows (c / 4096)) (next_follows (c / 64)) (next_follows c) (λ e. second_low c l3 e) (λ e. second_high c s e))
    ]
  ]
]
  where
    first_low : (c : ℕ) → 2048 ≤ c → 224 + c / 4096 ≡ 224 → 160 ≤ next (c / 64)
    first_low c h e = omega arith

    first_high : (c : ℕ) → (c < 55296) ⊎ ((57344 ≤ c) × (c < 1114112)) → c < 65536 → 224 + c / 4096 ≡ 237 → next (c / 64) ≤ 159
    first_high c (inl s) h e = omega arith
    first_high c (inr s) h e = let p = s.0 in absurd (omega arith)

    top : (c : ℕ) → (c < 55296) ⊎ ((57344 ≤ c) × (c < 1114112)) → 240 + c / 262144 ≤ 244
    top c (inl s) = omega arith
    top c (inr s) = let p = s.1 in omega arith

    second_low : (c : ℕ) → 65536 ≤ c → 240 + c / 262144 ≡ 240 → 144 ≤ next (c / 4096)
    second_low c h e = omega arith

    second_high : (c : ℕ) → (c < 55296) ⊎ ((57344 ≤ c) × (c < 1114112)) → 240 + c / 262144 ≡ 244 → next (c / 4096) ≤ 143
    second_high c (inl s) e = absurd (omega arith)
    second_high c (inr s) e = let p = s.1 in omega arith

over_chars : (cs : List ℕ) → scalars cs ≡ true → run follow (Some Whole) (encodes cs) ≡ Some Whole
over_chars [] h = done Whole
over_chars (c ∷ cs) h =
    let p = and_parts _ _ h in
    run_append follow (Some Whole) (encode c) (encodes cs) ∙ ap (λ o. run follow o (encodes cs)) (over_char c (scalar_cases c p.0)) ∙ over_chars cs p.1

-- a text that is UTF-8 is taken
pub text_taken : (bs : List ℕ) → IsUtf8 bs → run follow (Some Whole) bs ≡ Some Whole
text_taken bs u = subst (λ (w : List ℕ). run follow (Some Whole) w ≡ Some Whole) u.1.1 (over_chars u.0 u.1.0)

-- what the bytes so far promise once the rest has come
abbrev pub Promise : Character → List ℕ → Type 0
Promise Whole q = IsUtf8 q
Promise One q = (c : ℕ) → Follows c → IsUtf8 (q ++ c ∷ [])
Promise Two q = (c d : ℕ) → Follows c → Follows d → IsUtf8 (q ++ c ∷ d ∷ [])
Promise Three q = (c d e : ℕ) → Follows c → Follows d → Follows e → IsUtf8 (q ++ c ∷ d ∷ e ∷ [])
Promise BehindE0 q = (c d : ℕ) → 160 ≤ c → c ≤ 191 → Follows d → IsUtf8 (q ++ c ∷ d ∷ [])
Promise BehindEd q = (c d : ℕ) → 128 ≤ c → c ≤ 159 → Follows d → IsUtf8 (q ++ c ∷ d ∷ [])
Promise BehindF0 q = (c d e : ℕ) → 144 ≤ c → c ≤ 191 → Follows d → Follows e → IsUtf8 (q ++ c ∷ d ∷ e ∷ [])
Promise BehindF4 q = (c d e : ℕ) → 128 ≤ c → c ≤ 143 → Follows d → Follows e → IsUtf8 (q ++ c ∷ d ∷ e ∷ [])

pub one_byte : (b : ℕ) → b < 128 → IsUtf8 (b ∷ [])
one_byte b h = of_char (b ∷ []) b (low_scalar b (omega arith)) (sym (one b h))

two_bytes : (a b : ℕ) → 194 ≤ a → a < 224 → Follows b → IsUtf8 (a ∷ b ∷ [])
two_bytes x y h k f =
    let f0 = f.0 in
    let f1 = f.1 in
    let c : ℕ = (x - 192) * 64 + (y - 128) in
    let p : x ≡ 192 + c / 64 = omega arith in
    let q : y ≡ next c = omega arith in
    of_char (x ∷ y ∷ []) c (low_scalar c (omega arith)) ((λ k. p k ∷ q k ∷ []) ∙ sym (two c (omega arith) (omega arith)))

three_bytes : (a b d : ℕ) → 224 ≤ a → a < 240 → Follows b → Follows d → (a ≡ 224 → 160 ≤ b) → (a ≡ 237 → b ≤ 159) → IsUtf8 (a ∷ b ∷ d ∷ [])
three_bytes x y z h k f g low high =
    let f0 = f.0 in
    let f1 = f.1 in
    let g0 = g.0 in
    let g1 = g.1 in
    let c : ℕ = (x - 224) * 4096 + (y - 128) * 64 + (z - 128) in
    let lo : 2048 ≤ c = least x y z h f.0 low in
    let p : x ≡ 224 + c / 4096 = omega arith in
    let q : y ≡ next (c / 64) = omega arith in
    let r : z ≡ next c = omega arith in
    of_char (x ∷ y ∷ z ∷ []) c (scalar_of c (halves x y z h k f.0 f.1 g.0 g.1 high) (omega arith)) ((λ k. p k ∷ q k ∷ r k ∷ []) ∙ sym (three c lo (omega arith)))
  where
    least : (a b d : ℕ) → 224 ≤ a → 128 ≤ b → (a ≡ 224 → 160 ≤ b) → 2048 ≤ (a - 224) * 4096 + (b - 128) * 64 + (d - 128)
    least a b d h f low = elim (cases_lt 224 a) [ inl l ↦ omega arith | inr l ↦ let e : a ≡ 224 = omega arith in let p = low e in omega arith ]

    halves : (a b d : ℕ) → 224 ≤ a → a < 240 → 128 ≤ b → b < 192 → 128 ≤ d → d < 192 → (a ≡ 237 → b ≤ 159) → ((a - 224) * 4096 + (b - 128) * 64 + (d - 128) < 55296) ⊎ (57344 ≤ (a - 224) * 4096 + (b - 128) * 64 + (d - 128))
    halves a b d h k f g i j high = elim (cases_lt a 238) [
      | inl l ↦ elim (cases_lt a 237) [ inl m ↦ inl (omega arith) | inr m ↦ let e : a ≡ 237 = omega arith in let p = high e in inl (omega arith) ]
      | inr l ↦ inr (omega arith)
    ]

    scalar_of : (c : ℕ) → (c < 55296) ⊎ (57344 ≤ c) → c < 1114112 → scalar c ≡ true
    scalar_of c (inl h) k = low_scalar c h
    scalar_of c (inr h) k = high_scalar c h k

four_bytes : (a b d e : ℕ) → 240 ≤ a → a ≤ 244 → Follows b → Follows d → Follows e → (a ≡ 240 → 144 ≤ b) → (a ≡ 244 → b ≤ 143) → IsUtf8 (a ∷ b ∷ d ∷ e ∷ [])
four_bytes x y z w h k f g j low high =
    let f0 = f.0 in
    let f1 = f.1 in
    let g0 = g.0 in
    let g1 = g.1 in
    let j0 = j.0 in
    let j1 = j.1 in
    let lo : 16 ≤ (x - 240) * 64 + (y - 128) = least x y h f.0 low in
    let hi : (x - 240) * 64 + (y - 128) < 272 = most x y h k f.0 f.1 high in
    let c : ℕ = (x - 240) * 262144 + (y - 128) * 4096 + (z - 128) * 64 + (w - 128) in
    let p : x ≡ 240 + c / 262144 = omega arith in
    let q : y ≡ next (c / 4096) = omega arith in
    let e : c / 64 ≡ (x - 240) * 4096 + (y - 128) * 64 + (z - 128) = omega arith in
    let r : z ≡ next (c / 64) = subst (λ (m : ℕ). z ≡ next m) (sym e) (omega arith) in
    let t : w ≡ next c = omega arith in
    of_char (x ∷ y ∷ z ∷ w ∷ []) c (high_scalar c (omega arith) (omega arith)) ((λ k. p k ∷ q k ∷ r k ∷ t k ∷ []) ∙ sym (four c (omega arith)))
  where
    least : (a b : ℕ) → 240 ≤ a → 128 ≤ b → (a ≡ 240 → 144 ≤ b) → 16 ≤ (a - 240) * 64 + (b - 128)
    least a b h f low = elim (cases_lt 240 a) [ inl l ↦ omega arith | inr l ↦ let e : a ≡ 240 = omega arith in let p = low e in omega arith ]

    most : (a b : ℕ) → 240 ≤ a → a ≤ 244 → 128 ≤ b → b < 192 → (a ≡ 244 → b ≤ 143) → (a - 240) * 64 + (b - 128) < 272
    most a b h k f g high = elim (cases_lt a 244) [ inl l ↦ omega arith | inr l ↦ let e : a ≡ 244 = omega arith in let p = high e in omega arith ]

-- the bytes behind a text, put together with it
more_of : (q : List ℕ) (b : ℕ) (r : List ℕ) → IsUtf8 q → IsUtf8 (b ∷ r) → IsUtf8 ((q ++ b ∷ []) ++ r)
more_of q b r u v = rw append_assoc (IsUtf8-append q (b ∷ r) u v)

shift : (q : List ℕ) (b : ℕ) (r : List ℕ) → IsUtf8 (q ++ b ∷ r) → IsUtf8 ((q ++ b ∷ []) ++ r)
shift q b r u = rw append_assoc u

tail_is : (b low high : ℕ) → between low high b ≡ true → (low ≤ b) × (b ≤ high)
tail_is b low high h = (grind (arith, nat_tests), grind (arith, nat_tests))

follows_of : (b : ℕ) → between 128 191 b ≡ true → Follows b
follows_of b h = let p = tail_is b 128 191 h in let q = p.0 in let r = p.1 in (omega arith, omega arith)

-- only one answer leaves a promise
become : (s t : Character) (q : List ℕ) → Promise s q → Some s ≡ Some t → Promise t q
become s t q p e = let c : s ≡ t = cc in subst (λ (z : Character). Promise z q) c p

begun : (q : List ℕ) (b : ℕ) (t : Character) → IsUtf8 q → follow Whole b ≡ Some t → Promise t (q ++ b ∷ [])
begun q b t u e = elim (split (nat_lt b 128) _ _ _ e) [
  | inl z ↦ let h = z.0 in become Whole t (q ++ b ∷ []) (IsUtf8-append q (b ∷ []) u (one_byte b (grind (arith, nat_tests)))) z.1
  | inr z ↦ elim (split (nat_lt b 194) _ _ _ z.1) [
    | inl y ↦ absurd (let g = y.1 in cc)
    | inr y ↦ elim (split (nat_lt b 224) _ _ _ y.1) [
      | inl x ↦ let low = y.0 in let high = x.0 in become One t (q ++ b ∷ []) (λ c f. more_of q b (c ∷ []) u (two_bytes b c (grind (arith, nat_tests)) (grind (arith, nat_tests)) f)) x.1
      | inr x ↦ elim (split (b == 224) _ _ _ x.1) [
        | inl w ↦ become BehindE0 t (q ++ b ∷ []) (λ c d l h f. let g = w.0 in let e : b ≡ 224 = grind (arith, nat_tests) in more_of q b (c ∷ d ∷ []) u (three_bytes b c d (omega arith) (omega arith) (omega arith, omega arith) f (λ i. l) (λ i. absurd (omega arith)))) w.1
        | inr w ↦ elim (split (b == 237) _ _ _ w.1) [
          | inl v ↦ become BehindEd t (q ++ b ∷ []) (λ c d l h f. let g = v.0 in let e : b ≡ 237 = grind (arith, nat_tests) in more_of q b (c ∷ d ∷ []) u (three_bytes b c d (omega arith) (omega arith) (omega arith, omega arith) f (λ i. absurd (omega arith)) (λ i. h))) v.1
          | inr v ↦ elim (split (nat_lt b 240) _ _ _ v.1) [
            | inl k ↦ become Two t (q ++ b ∷ []) (λ c d f g.
                let low = x.0 in let l : 224 ≤ b = grind (arith, nat_tests) in
                let high = k.0 in let h : b < 240 = grind (arith, nat_tests) in
                let ne = w.0 in let m : (b ≡ 224) → ⊥ = λ i. differ b 224 ne i in
                let nd = v.0 in let n : (b ≡ 237) → ⊥ = λ i. differ b 237 nd i in
                more_of q b (c ∷ d ∷ []) u (three_bytes b c d l h f g (λ i. absurd (m i)) (λ i. absurd (n i)))) k.1
            | inr k ↦ elim (split (b == 240) _ _ _ k.1) [
              | inl j ↦ become BehindF0 t (q ++ b ∷ []) (λ c d e l h f g. let w = j.0 in let i : b ≡ 240 = grind (arith, nat_tests) in more_of q b (c ∷ d ∷ e ∷ []) u (four_bytes b c d e (omega arith) (omega arith) (omega arith, omega arith) f g (λ z. l) (λ z. absurd (omega arith)))) j.1
              | inr j ↦ elim (split (nat_lt b 244) _ _ _ j.1) [
                | inl i ↦ become Three t (q ++ b ∷ []) (λ c d e f g r.
                    let low = k.0 in let l : 240 ≤ b = grind (arith, nat_tests) in
                    let high = i.0 in let h : b < 244 = grind (arith, nat_tests) in
                    let ne = j.0 in let m : (b ≡ 240) → ⊥ = λ o. differ b 240 ne o in
                    more_of q b (c ∷ d ∷ e ∷ []) u (four_bytes b c d e l (omega arith) f g r (λ o. absurd (m o)) (λ o. absurd (omega arith)))) i.1
                | inr i ↦ elim (split (b == 244) _ _ _ i.1) [
                  | inl o ↦ become BehindF4 t (q ++ b ∷ []) (λ c d e l h f g. let w = o.0 in let n : b ≡ 244 = grind (arith, nat_tests) in more_of q b (c ∷ d ∷ e ∷ []) u (four_bytes b c d e (omega arith) (omega arith) (omega arith, omega arith) f g (λ z. absurd (omega arith)) (λ z. h))) o.1
                  | inr o ↦ absurd (let g = o.1 in cc)
                ]
              ]
            ]
          ]
        ]
      ]
    ]
  ]
]
  where
    differ : (b n : ℕ) → (b == n) ≡ false → b ≡ n → ⊥
    differ b n h e = grind (arith, nat_tests)

goes_on : (s t : Character) (q : List ℕ) (b : ℕ) → Promise s q → follow s b ≡ Some t → Promise t (q ++ b ∷ [])
goes_on Whole t q b p e = begun q b t p e
goes_on One t q b p e = elim (split (between 128 191 b) _ _ _ e) [ inl z ↦ become Whole t (q ++ b ∷ []) (p b (follows_of b z.0)) z.1 | inr z ↦ absurd (let g = z.1 in cc) ]
goes_on Two t q b p e = elim (split (between 128 191 b) _ _ _ e) [ inl z ↦ become One t (q ++ b ∷ []) (λ c f. shift q b (c ∷ []) (p b c (follows_of b z.0) f)) z.1 | inr z ↦ absurd (let g = z.1 in cc) ]
goes_on Three t q b p e = elim (split (between 128 191 b) _ _ _ e) [ inl z ↦ become Two t (q ++ b ∷ []) (λ c d f g. shift q b (c ∷ d ∷ []) (p b c d (follows_of b z.0) f g)) z.1 | inr z ↦ absurd (let g = z.1 in cc) ]
goes_on BehindE0 t q b p e = elim (split (between 160 191 b) _ _ _ e) [ inl z ↦ let k = tail_is b 160 191 z.0 in become One t (q ++ b ∷ []) (λ c f. shift q b (c ∷ []) (p b c k.0 k.1 f)) z.1 | inr z ↦ absurd (let g = z.1 in cc) ]
goes_on BehindEd t q b p e = elim (split (between 128 159 b) _ _ _ e) [ inl z ↦ let k = tail_is b 128 159 z.0 in become One t (q ++ b ∷ []) (λ c f. shift q b (c ∷ []) (p b c k.0 k.1 f)) z.1 | inr z ↦ absurd (let g = z.1 in cc) ]
goes_on BehindF0 t q b p e = elim (split (between 144 191 b) _ _ _ e) [ inl z ↦ let k = tail_is b 144 191 z.0 in become Two t (q ++ b ∷ []) (λ c d f g. shift q b (c ∷ d ∷ []) (p b c d k.0 k.1 f g)) z.1 | inr z ↦ absurd (let g = z.1 in cc) ]
goes_on BehindF4 t q b p e = elim (split (between 128 143 b) _ _ _ e) [ inl z ↦ let k = tail_is b 128 143 z.0 in become Two t (q ++ b ∷ []) (λ c d f g. shift q b (c ∷ d ∷ []) (p b c d k.0 k.1 f g)) z.1 | inr z ↦ absurd (let g = z.1 in cc) ]

run_on : (bs q : List ℕ) (o : Option Character) → ((s : Character) → o ≡ Some s → Promise s q) → (t : Character) → run follow o bs ≡ Some t → Promise t (q ++ bs)
unfolding run
run_on [] q o h t e = subst (λ (w : List ℕ). Promise t w) (sym (append-nil q)) (h t e)
run_on (b ∷ bs) q None h t e = absurd (let n = run_none follow bs in cc)
run_on (b ∷ bs) q (Some s) h t e = subst (λ (w : List ℕ). Promise t w) (append_assoc q (b ∷ []) bs) (run_on bs (q ++ b ∷ []) (follow s b) (λ r g. goes_on s r q b (h s refl) g) t e)

-- what is taken is UTF-8
pub taken_text : (bs : List ℕ) → run follow (Some Whole) bs ≡ Some Whole → IsUtf8 bs
taken_text bs e = run_on bs [] (Some Whole) (λ s g. become Whole s [] IsUtf8-nil g) Whole e
