-- What bytes are, stage by stage of the header.
use Rattle.std.proofs.Common.{◌≡◌, ℕ, ◌+◌, ◌<◌, ◌≤◌, true, false, List, [], ◌∷◌, ◌++◌, length, take, drop, get_or, refl, subst, arith, ◌∙◌, inl, inr}
use Rattle.std.proofs.lemmas.Bool.{cases_lt, cases_eq, cases_Bool, and_parts, and_cases, and_left, and_right, and_from, eqb-true}
use Rattle.std.proofs.lemmas.Bool.Decides.{nat_tests}
use Rattle.std.specs.Int.{w32, from_le_bytes}
use Rattle.std.specs.Prelude.{◌==◌}
use Rattle.zbx_types.specs.Frames.{longest_data}
use Rattle.zbxd_frame.specs.Found.{short, whole, bad, found, found_magic, found_long, agrees, magic}
use Rattle.zbxd_frame.specs.declared.fault.Fault.TheVariants as faults

-- agreement with a start
pub agrees-unequal : (bytes more start : List ℕ) → agrees bytes start ≡ false → agrees (bytes ++ more) start ≡ false
agrees-unequal [] more start h = cc
agrees-unequal (b ∷ bs) more [] h = cc
agrees-unequal (b ∷ bs) more (s ∷ ss) h =
    elim (and_cases (b == s) (agrees bs ss) h) [
      | inl here ↦ and_left (b == s) (agrees (bs ++ more) ss) here
      | inr later ↦ and_right (b == s) (agrees (bs ++ more) ss) (agrees-unequal bs more ss later)
    ]

pub agrees-long : (bytes start : List ℕ) → agrees bytes start ≡ true → length start ≤ length bytes → bytes ≡ start ++ drop (length start) bytes
agrees-long bytes [] h le = refl
agrees-long [] (s ∷ ss) h le = absurd (omega arith)
agrees-long (b ∷ bs) (s ∷ ss) h le =
    let parts = and_parts (b == s) (agrees bs ss) h in
    let here : b ≡ s = eqb-true b s parts.0 in
    let later = agrees-long bs ss parts.1 (omega arith) in
    cc

pub agrees-more : (bytes more start : List ℕ) → agrees bytes start ≡ true → length start ≤ length bytes → agrees (bytes ++ more) start ≡ true
agrees-more [] [] [] h le = refl
agrees-more [] (m ∷ ms) [] h le = refl
agrees-more (b ∷ bs) more [] h le = refl
agrees-more [] more (s ∷ ss) h le = absurd (omega arith)
agrees-more (b ∷ bs) more (s ∷ ss) h le =
    let parts = and_parts (b == s) (agrees bs ss) h in
    and_from (b == s) (agrees (bs ++ more) ss) parts.0 (agrees-more bs more ss parts.1 (omega arith))

pub agrees-short : (bytes start : List ℕ) → agrees bytes start ≡ true → length bytes ≤ length start → bytes ++ drop (length bytes) start ≡ start
agrees-short [] start h le = refl
agrees-short (b ∷ bs) [] h le = absurd (omega arith)
agrees-short (b ∷ bs) (s ∷ ss) h le =
    let parts = and_parts (b == s) (agrees bs ss) h in
    let here : b ≡ s = eqb-true b s parts.0 in
    let later = agrees-short bs ss parts.1 (omega arith) in
    cc

-- the number in the length field
abbrev pub length_at : List ℕ → ℕ
length_at bytes = from_le_bytes w32 (take 4 (drop 5 bytes))

-- the header is right up to its length field, which is there
pub record IsHeaded (bytes : List ℕ) : Type 0 where
  pub magic_is : agrees bytes magic ≡ true
  pub flags_are : get_or bytes 4 0 ≡ 1
  pub long : 9 ≤ length bytes

pub data Stage (bytes : List ℕ) : Type 0 where
  no_magic : agrees bytes magic ≡ false → found bytes ≡ bad faults.Magic → Stage bytes
  in_magic : agrees bytes magic ≡ true → length bytes ≤ 4 → found bytes ≡ short → Stage bytes
  no_flags : agrees bytes magic ≡ true → 4 < length bytes → (get_or bytes 4 0 ≡ 1 → ⊥) → found bytes ≡ bad faults.Flags → Stage bytes
  in_length : agrees bytes magic ≡ true → 4 < length bytes → get_or bytes 4 0 ≡ 1 → length bytes < 9 → found bytes ≡ short → Stage bytes
  no_length : IsHeaded bytes → longest_data < length_at bytes → found bytes ≡ bad faults.Length → Stage bytes
  in_body : IsHeaded bytes → length_at bytes ≤ longest_data → length bytes < 13 + length_at bytes → found bytes ≡ short → Stage bytes
  at_end : IsHeaded bytes → length_at bytes ≤ longest_data → 13 + length_at bytes ≤ length bytes → found bytes ≡ whole (take (length_at bytes) (drop 13 bytes)) (drop (length_at bytes) (drop 13 bytes)) → Stage bytes

pub found-no_magic : (bytes : List ℕ) → agrees bytes magic ≡ false → found bytes ≡ bad faults.Magic
unfolding found
found-no_magic bytes h = rw h

pub found-magic : (bytes : List ℕ) → agrees bytes magic ≡ true → found bytes ≡ found_magic bytes
unfolding found
found-magic bytes h = rw h

found_magic-in : (bytes : List ℕ) → length bytes ≤ 4 → found_magic bytes ≡ short
unfolding found_magic
found_magic-in bytes h = grind (arith, nat_tests)

pub found_magic-flags : (bytes : List ℕ) → 4 < length bytes → (get_or bytes 4 0 ≡ 1 → ⊥) → found_magic bytes ≡ bad faults.Flags
unfolding found_magic
found_magic-flags bytes long h = grind (arith, nat_tests)

found_magic-length : (bytes : List ℕ) → 4 < length bytes → get_or bytes 4 0 ≡ 1 → length bytes < 9 → found_magic bytes ≡ short
unfolding found_magic
found_magic-length bytes long h below = grind (arith, nat_tests)

pub found_magic-long : (bytes : List ℕ) → get_or bytes 4 0 ≡ 1 → 9 ≤ length bytes → found_magic bytes ≡ found_long bytes
unfolding found_magic
found_magic-long bytes h above = grind (arith, nat_tests)

pub found_long-over : (bytes : List ℕ) → longest_data < length_at bytes → found_long bytes ≡ bad faults.Length
unfolding found_long
found_long-over bytes h = grind (arith, nat_tests)

found_long-in : (bytes : List ℕ) → length_at bytes ≤ longest_data → length bytes < 13 + length_at bytes → found_long bytes ≡ short
unfolding found_long
found_long-in bytes fits h = grind (arith, nat_tests)

found_long-whole : (bytes : List ℕ) → length_at bytes ≤ longest_data → 13 + length_at bytes ≤ length bytes → found_long bytes ≡ whole (take (length_at bytes) (drop 13 bytes)) (drop (length_at bytes) (drop 13 bytes))
unfolding found_long
found_long-whole bytes fits h = grind (arith, nat_tests)

stage_headed : (bytes : List ℕ) → IsHeaded bytes → Stage bytes
stage_headed bytes head =
    let is_long : found bytes ≡ found_long bytes = found-magic bytes head.magic_is ∙ found_magic-long bytes head.flags_are head.long in
    elim (cases_lt longest_data (length_at bytes)) [
      | inl over ↦ no_length head over (is_long ∙ found_long-over bytes over)
      | inr fits ↦ elim (cases_lt (length bytes) (13 + length_at bytes)) [
        | inl below ↦ in_body head fits below (is_long ∙ found_long-in bytes fits below)
        | inr above ↦ at_end head fits above (is_long ∙ found_long-whole bytes fits above)
      ]
    ]

stage_agreed : (bytes : List ℕ) → agrees bytes magic ≡ true → Stage bytes
stage_agreed bytes h =
    elim (cases_lt 4 (length bytes)) [
      | inr few ↦ in_magic h few (found-magic bytes h ∙ found_magic-in bytes few)
      | inl some ↦ elim (cases_eq (get_or bytes 4 0) 1) [
        | inr other ↦ no_flags h some other (found-magic bytes h ∙ found_magic-flags bytes some other)
        | inl one ↦ elim (cases_lt (length bytes) 9) [
          | inl below ↦ in_length h some one below (found-magic bytes h ∙ found_magic-length bytes some one below)
          | inr long ↦ stage_headed bytes (record { magic_is = h; flags_are = one; long = long })
        ]
      ]
    ]

pub stage : (bytes : List ℕ) → Stage bytes
stage bytes =
    elim (cases_Bool (agrees bytes magic)) [
      | inl h ↦ stage_agreed bytes h
      | inr h ↦ no_magic h (found-no_magic bytes h)
    ]

-- a whole frame whose parts are known
pub found-whole : (bytes : List ℕ) (n : ℕ) → IsHeaded bytes → length_at bytes ≡ n → n ≤ longest_data → 13 + n ≤ length bytes → found bytes ≡ whole (take n (drop 13 bytes)) (drop n (drop 13 bytes))
found-whole bytes n head is fits above =
    let same : found bytes ≡ found_long bytes = found-magic bytes head.magic_is ∙ found_magic-long bytes head.flags_are head.long in
    subst (λ m. found bytes ≡ whole (take m (drop 13 bytes)) (drop m (drop 13 bytes))) is (same ∙ found_long-whole bytes (omega (arith, is)) (omega (arith, is)))
