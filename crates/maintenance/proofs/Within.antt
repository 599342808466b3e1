-- Seconds within the length after a start, for one sort of starts and another.
use Rattle.std.proofs.Common.{◌↔◌, ℕ, ◌≤◌, ℤ, List}
use Rattle.std.specs.Prelude.{Any}
use Rattle.maintenance.specs.Days.{IsOnDay}
use Rattle.maintenance.specs.Force.{IsWithinLength}

pub within_as : (Begins Also : ℕ → Type 0) (length now : ℕ) → ((s : ℕ) → Begins s → Also s) → IsWithinLength Begins length now → IsWithinLength Also length now
within_as Begins Also length now h w = (w.0, h w.0 w.1, w.2, w.3)

-- a test of the one sort is a test of the other, where they are the same seconds
pub tests_as : (Begins Also : ℕ → Type 0) (length now : ℕ) {test : Type 0} → ((s : ℕ) → Begins s ↔ Also s) → test ↔ IsWithinLength Begins length now → test ↔ IsWithinLength Also length now
tests_as Begins Also length now same h =
    (λ t. within_as Begins Also length now (λ s. (same s).0) (h.0 t), λ w. h.1 (within_as Also Begins length now (λ s. (same s).1) w))

-- the same for a time of day on the one days and on the other
pub days_as : (offset : ℤ) (Chosen Also : ℤ → Type 0) (at since : ℕ) → ((day : ℤ) → Chosen day ↔ Also day) → (s : ℕ) → ((since ≤ s) × IsOnDay offset Chosen at s) ↔ ((since ≤ s) × IsOnDay offset Also at s)
days_as offset Chosen Also at since same s =
    (λ h. (h.0, (h.1.0, (same h.1.0).0 h.1.1, h.1.2)), λ h. (h.0, (h.1.0, (same h.1.0).1 h.1.1, h.1.2)))

-- one of some sorts of starts, from `since` on
pub any_sort : {X : Type 0} (Sort : X → ℕ → Type 0) (xs : List X) (since length now : ℕ) → Any (λ x. IsWithinLength (λ s. (since ≤ s) × Sort x s) length now) xs → IsWithinLength (λ s. (since ≤ s) × Any (λ x. Sort x s) xs) length now
any_sort Sort xs since length now h =
    let w = h.4 in (w.0, (w.1.0, (h.0, h.1, h.2, h.3, w.1.1)), w.2, w.3)

pub sort_any : {X : Type 0} (Sort : X → ℕ → Type 0) (xs : List X) (since length now : ℕ) → IsWithinLength (λ s. (since ≤ s) × Any (λ x. Sort x s) xs) length now → Any (λ x. IsWithinLength (λ s. (since ≤ s) × Sort x s) length now) xs
sort_any Sort xs since length now w =
    let h = w.1.1 in (h.0, h.1, h.2, h.3, (w.0, (w.1.0, h.4), w.2, w.3))

pub sorts_test : {X test : Type 0} (Sort : X → ℕ → Type 0) (xs : List X) (since length now : ℕ) → test ↔ Any (λ x. IsWithinLength (λ s. (since ≤ s) × Sort x s) length now) xs → test ↔ IsWithinLength (λ s. (since ≤ s) × Any (λ x. Sort x s) xs) length now
sorts_test Sort xs since length now h =
    (λ t. any_sort Sort xs since length now (h.0 t), λ w. h.1 (sort_any Sort xs since length now w))
