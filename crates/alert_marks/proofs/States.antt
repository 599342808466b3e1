-- States of a file of marks, bit by bit.
use Rattle.std.proofs.Common.{◌≡◌, ◌≢◌, ◌∙◌, inl, inr, ℕ, zero, suc, ◌+◌, ◌-◌, ◌*◌, ◌^◌, ◌<◌, ◌≤◌, ◌==◌, ◌||◌, max, Bool, true, false, List, [], ◌∷◌, ◌++◌, length, refl, sym, ap, subst, arith, eq-eqb, length-append}
use Rattle.std.specs.Int.{bit_at}
use Rattle.std.specs.Int.Bits.{bit_or}
use Rattle.std.specs.List.{list_any}
use Rattle.std.proofs.lemmas.Bool.{cases_eq, cases_lt, ne_eqb}
use Rattle.std.proofs.lemmas.List.Folds.{list_any-append}
use Rattle.std.proofs.lemmas.Nat.Bits.{bit_at_or, bit_at-lt, bit_at-zero, bit_at-pow_same, bit_at-pow_other, bit_at_mask_inside, bit_at_mask_above, bit_at_mask_below}
use Rattle.std.proofs.Math.Nat.{pow-suc}
use Rattle.alert_queue.specs.declared.types.NoteMark.{NoteMark}
use Rattle.alert_marks.specs.Marks.{is_switched, is_marked, has_mark, IsCoded}

same_bit : (s k : ℕ) → bit_at (bit_or s (2 ^ k)) k ≡ 1
same_bit s k =
    let low : bit_at s k < 2 = bit_at-lt s k in
    bit_at_or s (2 ^ k) k ∙ ap (λ (b : ℕ). max (bit_at s k) b) (bit_at-pow_same k) ∙ greater (bit_at s k) low
  where
    greater : (b : ℕ) → b < 2 → max b 1 ≡ 1
    greater b less = omega (arith, less)

other_bit : (s k n : ℕ) → n ≢ k → bit_at (bit_or s (2 ^ k)) n ≡ bit_at s n
other_bit s k n other = bit_at_or s (2 ^ k) n ∙ ap (λ (b : ℕ). max (bit_at s n) b) (bit_at-pow_other k n other) ∙ none (bit_at s n)
  where
    none : (b : ℕ) → max b 0 ≡ b
    none b = omega arith

-- one mark more
pub marked_push : (marks : List NoteMark) (m : NoteMark) (n : ℕ) → has_mark (marks ++ m ∷ []) n ≡ (has_mark marks n || (m.note == n))
marked_push marks m n = list_any-append (λ (x : NoteMark). x.note == n) marks (m ∷ []) ∙ ap (λ (b : Bool). has_mark marks n || b) (or_false (m.note == n))
  where
    or_false : (b : Bool) → (b || false) ≡ b
    or_false true = refl
    or_false false = refl

or_true : (b : Bool) → (b || true) ≡ true
or_true true = refl
or_true false = refl

or_none : (b : Bool) → (b || false) ≡ b
or_none true = refl
or_none false = refl

-- the switch
pub coded_switch : (s : ℕ) (marks : List NoteMark) → IsCoded s false marks → IsCoded (bit_or s (2 ^ 0)) true marks
coded_switch s marks c = record {
  switched_is = ap (λ (b : ℕ). b == 1) (same_bit s 0);
  each = λ n low. ap (λ (b : ℕ). b == 1) (other_bit s 0 n (λ (e : n ≡ 0). omega (arith, low, e))) ∙ c.each n low;
  plain = λ not. absurd (cc);
}

-- a numbered mark
pub coded_numbered : (s : ℕ) (marks : List NoteMark) (m : NoteMark) → 1 ≤ m.note → IsCoded s true marks → IsCoded (bit_or s (2 ^ m.note)) true (marks ++ m ∷ [])
coded_numbered s marks m some c = record {
  switched_is = ap (λ (b : ℕ). b == 1) (other_bit s m.note 0 (λ (e : 0 ≡ m.note). omega (arith, some, e))) ∙ c.switched_is;
  each = λ n low. elim (cases_eq n m.note) [
    | inl same ↦
        ap (λ (k : ℕ). bit_at (bit_or s (2 ^ m.note)) k == 1) same ∙ ap (λ (b : ℕ). b == 1) (same_bit s m.note)
        ∙ sym (marked_push marks m n ∙ ap (λ (b : Bool). has_mark marks n || b) (eq-eqb m.note n (sym same)) ∙ or_true (has_mark marks n))
    | inr other ↦
        ap (λ (b : ℕ). b == 1) (other_bit s m.note n other) ∙ c.each n low
        ∙ sym (marked_push marks m n ∙ ap (λ (b : Bool). has_mark marks n || b) (ne_eqb m.note n (λ (e : m.note ≡ n). other (sym e))) ∙ or_none (has_mark marks n))
  ];
  plain = λ not. absurd (cc);
}

-- so many plain marks
plain_bits : (k n : ℕ) → 1 ≤ n → n ≤ k → bit_at (2 ^ (k + 1) - 2 ^ 1) n ≡ 1
plain_bits k n low high = bit_at_mask_inside 1 (k + 1) n low (omega (arith, high))

plain_above : (k n : ℕ) → k < n → bit_at (2 ^ (k + 1) - 2 ^ 1) n ≡ 0
plain_above k n less = bit_at_mask_above 1 (k + 1) n (omega (arith, less))

positive : (k : ℕ) → 1 ≤ 2 ^ k
positive zero = omega arith
positive (suc k) = omega (arith, positive k, pow-suc 2 k)

twice : (k : ℕ) → 2 * (2 ^ (k + 1) - 2 ^ 1) + 2 ≡ 2 ^ (k + 1 + 1) - 2 ^ 1
twice k =
    let first : 2 ^ (k + 1) ≡ 2 ^ k * 2 = ap (λ (j : ℕ). 2 ^ j) (next k) ∙ pow-suc 2 k in
    let second : 2 ^ (k + 1 + 1) ≡ 2 ^ (k + 1) * 2 = ap (λ (j : ℕ). 2 ^ j) (next (k + 1)) ∙ pow-suc 2 (k + 1) in
    double (2 ^ (k + 1)) (2 ^ (k + 1 + 1)) second (omega (arith, first, positive k))
  where
    next : (j : ℕ) → j + 1 ≡ suc j
    next j = omega arith

    double : (a b : ℕ) → b ≡ a * 2 → 2 ≤ a → 2 * (a - 2) + 2 ≡ b - 2
    double a b is some = omega (arith, is, some)

pub coded_plain : (s : ℕ) (marks : List NoteMark) (m : NoteMark) → m.note ≡ length marks + 1 → IsCoded s false marks → IsCoded (2 * s + 2) false (marks ++ m ∷ [])
coded_plain s marks m is c =
    let k = length marks in
    let was : s ≡ 2 ^ (k + 1) - 2 ^ 1 = c.plain refl in
    let long : length (marks ++ m ∷ []) ≡ k + 1 = omega (arith, length-append marks (m ∷ [])) in
    let now : 2 * s + 2 ≡ 2 ^ (k + 1 + 1) - 2 ^ 1 = ap (λ (t : ℕ). 2 * t + 2) was ∙ twice k in record {
      switched_is = ap is_switched now ∙ ap (λ (b : ℕ). b == 1) (lowest (k + 1));
      each = λ n low. elim (cases_eq n (k + 1)) [
        | inl same ↦
            ap (λ (t : ℕ). is_marked t n) now ∙ ap (λ (b : ℕ). b == 1) (plain_bits (k + 1) n low (omega (arith, same)))
            ∙ sym (marked_push marks m n ∙ ap (λ (b : Bool). has_mark marks n || b) (eq-eqb m.note n (is ∙ sym same)) ∙ or_true (has_mark marks n))
        | inr other ↦
            ap (λ (t : ℕ). is_marked t n) now ∙ same_below n low other ∙ sym (ap (λ (t : ℕ). is_marked t n) was) ∙ c.each n low
            ∙ sym (marked_push marks m n ∙ ap (λ (b : Bool). has_mark marks n || b) (ne_eqb m.note n (λ (e : m.note ≡ n). other (sym e ∙ is))) ∙ or_none (has_mark marks n))
      ];
      plain = λ not. now ∙ ap (λ (j : ℕ). 2 ^ (j + 1) - 2 ^ 1) (sym long);
    }
  where
    lowest : (j : ℕ) → bit_at (2 ^ (j + 1) - 2 ^ 1) 0 ≡ 0
    lowest j = bit_at_mask_below 1 (j + 1) 0 (omega arith)

    same_below : (n : ℕ) → 1 ≤ n → n ≢ length marks + 1 → is_marked (2 ^ (length marks + 1 + 1) - 2 ^ 1) n ≡ is_marked (2 ^ (length marks + 1) - 2 ^ 1) n
    same_below n low other = elim (cases_lt (length marks) n) [
      | inl more ↦ ap (λ (b : ℕ). b == 1) (plain_above (length marks + 1) n (omega (arith, more, other)) ∙ sym (plain_above (length marks) n more))
      | inr less ↦ ap (λ (b : ℕ). b == 1) (plain_bits (length marks + 1) n low (omega (arith, less)) ∙ sym (plain_bits (length marks) n low (omega (arith, less))))
    ]

-- no marks
pub coded_none : IsCoded 0 false []
coded_none = record { switched_is = refl; each = λ n low. ap (λ (b : ℕ). b == 1) (bit_at-zero n); plain = λ not. refl }

-- before the switch the next note in order has no mark
pub plain_free : (s : ℕ) (marks : List NoteMark) → IsCoded s false marks → has_mark marks (length marks + 1) ≡ false
plain_free s marks c =
    let n = length marks + 1 in
    sym (c.each n (omega arith)) ∙ ap (λ (t : ℕ). is_marked t n) (c.plain refl) ∙ ap (λ (b : ℕ). b == 1) (plain_above (length marks) n (omega arith))
