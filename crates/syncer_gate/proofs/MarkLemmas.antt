-- Marks that are set, and marks that are compared.
use Rattle.std.proofs.Common.{◌≡◌, ◌<◌, ◌≤◌, ◌+◌, ◌-◌, ◌∙◌, ℕ, zero, suc, ◌==◌, Bool, true, false, cond, ◌&&◌, ◌||◌, List, [], ◌∷◌, length, get_or, set, map, drop, refl, sym, ap, arith, add-one, eqb-true, eq-eqb, ne_eqb}
use Rattle.std.proofs.Math.Seq.{drop-cons}
use Rattle.zbx_types.specs.Masters.{has_id}
use Rattle.syncer_gate.specs.declared.marks.Mark.{Mark}
use Rattle.syncer_gate.specs.declared.marks.Mark.TheVariants.{Pending, Applied, Taken}
use Rattle.syncer_gate.specs.Marks.{is_taken, ended, reopened}
use Rattle.syncer_gate.specs.Window.{AreDone, AreWaiting}
use Rattle.syncer_gate.specs.Gate.{with_taken, held_by, same_numbers}

-- with no numbers, or with one that lies before them all, the marks stay
pub taken_none : (id n : ℕ) (marks : List Mark) → with_taken id [] n marks ≡ marks
taken_none id n [] = refl
taken_none id n (m ∷ marks) = ap (λ ms. m ∷ ms) (taken_none id (n + 1) marks)

pub taken_before : (id x n : ℕ) (numbers : List ℕ) (marks : List Mark) → x < n → with_taken id (x ∷ numbers) n marks ≡ with_taken id numbers n marks
taken_before id x n numbers [] l = refl
taken_before id x n numbers (m ∷ marks) l =
    let o : (x == n) ≡ false = ne_eqb x n (λ q. absurd (omega arith)) in
    let r = taken_before id x (n + 1) numbers marks (omega arith) in
    rw (o, r) refl

-- one number more
pub taken_one : (id x n : ℕ) (numbers : List ℕ) (marks : List Mark) → n ≤ x → with_taken id numbers n (set marks (x - n) (Taken id)) ≡ with_taken id (x ∷ numbers) n marks
taken_one id x n numbers [] l = refl
taken_one id x n numbers (m ∷ marks) l = go (x == n) refl (λ h. taken_one id x (n + 1) numbers marks h)
  where
    go : (b : Bool) → (x == n) ≡ b → (n + 1 ≤ x → with_taken id numbers (n + 1) (set marks (x - (n + 1)) (Taken id)) ≡ with_taken id (x ∷ numbers) (n + 1) marks) → with_taken id numbers n (set (m ∷ marks) (x - n) (Taken id)) ≡ (cond (b || has_id numbers n) (Taken id) m ∷ with_taken id (x ∷ numbers) (n + 1) marks)
    go true e ih =
        let q = eqb-true x n e in
        let z : x - n ≡ 0 = omega arith in
        let r = taken_before id x (n + 1) numbers marks (omega arith) in
        rw (z, r) (ap (λ k. k ∷ with_taken id numbers (n + 1) marks) (same (has_id numbers n)))
      where
        same : (b : Bool) → cond b (Taken id) (Taken id) ≡ Taken id
        same true = refl
        same false = refl
    go false e ih =
        let o : (x ≡ n → ⊥) = (λ q. let t = eq-eqb x n q in cc) in
        let z : x - n ≡ suc (x - (n + 1)) = omega arith in
        let r = ih (omega arith) in
        rw (z, r) refl

-- the numbers that a batch holds: one more mark
held_step : (id n p : ℕ) (marks : List Mark) → p < length marks
    → held_by id n (drop p marks) ≡ cond (is_taken id (get_or marks p Pending)) (n ∷ held_by id (n + 1) (drop (p + 1) marks)) (held_by id (n + 1) (drop (p + 1) marks))
held_step id n p marks l =
    let a : drop p marks ≡ get_or marks p Pending ∷ drop (p + 1) marks = drop-cons marks p Pending l ∙ rw add-one refl in
    rw a refl

pub held_other : (id n p : ℕ) (marks : List Mark) → p < length marks → is_taken id (get_or marks p Pending) ≡ false → held_by id n (drop p marks) ≡ held_by id (n + 1) (drop (p + 1) marks)
held_other id n p marks l other = held_step id n p marks l ∙ rw other refl

pub held_one : (id n p : ℕ) (marks : List Mark) → p < length marks → is_taken id (get_or marks p Pending) ≡ true → held_by id n (drop p marks) ≡ n ∷ held_by id (n + 1) (drop (p + 1) marks)
held_one id n p marks l one = held_step id n p marks l ∙ rw one refl

pub held_done : (id n low : ℕ) (marks : List Mark) → AreDone low marks → held_by id (n + low) (drop low marks) ≡ held_by id n marks
held_done id n zero marks done = let z : n + 0 ≡ n = omega arith in rw z refl
held_done id n (suc low) [] done = let d : Pending ≡ Applied = done 0 (omega arith) in absurd (cc)
held_done id n (suc low) (m ∷ marks) done =
    let d : m ≡ Applied = done 0 (omega arith) in
    let z : n + suc low ≡ (n + 1) + low = omega arith in
    rw (z, d) (held_done id (n + 1) low marks (λ i l. done (suc i) (omega arith)))

held_waiting : (id n : ℕ) (marks : List Mark) → AreWaiting 0 marks → held_by id n marks ≡ []
held_waiting id n [] waiting = refl
held_waiting id n (m ∷ marks) waiting =
    let d : m ≡ Pending = waiting 0 (omega arith) in
    rw d (held_waiting id (n + 1) marks (λ i l. waiting (suc i) (omega arith)))

pub dropped_waiting : (high p : ℕ) (marks : List Mark) → AreWaiting high marks → high ≤ p → AreWaiting 0 (drop p marks)
dropped_waiting high zero marks waiting l = λ i h. waiting i (omega arith)
dropped_waiting high (suc p) [] waiting l = λ i h. refl
dropped_waiting zero (suc p) (m ∷ marks) waiting l = dropped_waiting zero p marks (λ i h. waiting (suc i) (omega arith)) (omega arith)
dropped_waiting (suc high) (suc p) (m ∷ marks) waiting l = dropped_waiting high p marks (λ i h. waiting (suc i) (omega arith)) (omega arith)

pub held_past : (id n high p : ℕ) (marks : List Mark) → AreWaiting high marks → high ≤ p → held_by id n (drop p marks) ≡ []
held_past id n high p marks waiting l = held_waiting id n (drop p marks) (dropped_waiting high p marks waiting l)

-- lists are compared from their ends on
pub same_none : (numbers : List ℕ) → same_numbers numbers [] ≡ (length numbers == 0)
same_none [] = refl
same_none (x ∷ xs) = sym (ne_eqb (suc (length xs)) 0 (λ q. absurd (omega arith)))

-- a batch whose marks are all others leaves them as they are
pub ended_none : (id : ℕ) (to : Mark) (marks : List Mark) → ((i : ℕ) → i < length marks → is_taken id (get_or marks i Pending) ≡ false) → map (ended id to) marks ≡ marks
ended_none id to [] none = refl
ended_none id to (m ∷ marks) none =
    let e : is_taken id m ≡ false = none 0 (omega arith) in
    let r = ended_none id to marks (λ i l. none (suc i) (omega arith)) in
    rw (e, r) refl

pub same_is : (xs ys : List ℕ) → same_numbers xs ys ≡ true → xs ≡ ys
same_is [] [] e = refl
same_is [] (y ∷ ys) e = cc
same_is (x ∷ xs) [] e = cc
same_is (x ∷ xs) (y ∷ ys) e = go (x == y) refl e (same_is xs ys)
  where
    go : (b : Bool) → (x == y) ≡ b → (b && same_numbers xs ys) ≡ true → (same_numbers xs ys ≡ true → xs ≡ ys) → (x ∷ xs) ≡ (y ∷ ys)
    go true q s ih = let a = eqb-true x y q in let r = ih s in cc
    go false q s ih = cc

pub is_same : (xs : List ℕ) → same_numbers xs xs ≡ true
is_same [] = refl
is_same (x ∷ xs) = let e : (x == x) ≡ true = eq-eqb x x refl in rw e (is_same xs)

-- a batch ends once
pub ended_twice : (id : ℕ) (to m : Mark) → is_taken id to ≡ false → ended id to (ended id to m) ≡ ended id to m
ended_twice id to m other = go (is_taken id m) refl
  where
    go : (b : Bool) → is_taken id m ≡ b → ended id to (cond b to m) ≡ cond b to m
    go true e = rw other refl
    go false e = rw e refl

pub ended_other : (id : ℕ) (to m : Mark) → is_taken id to ≡ false → is_taken id (ended id to m) ≡ false
ended_other id to m other = go (is_taken id m) refl
  where
    go : (b : Bool) → is_taken id m ≡ b → is_taken id (cond b to m) ≡ false
    go true e = other
    go false e = e

-- marks that stay where all batches end
abbrev pub AreReopened : ℕ → List Mark → Type 0
AreReopened low marks = (i : ℕ) → i < low → reopened (get_or marks i Pending) ≡ get_or marks i Pending

pub reopened_none : (marks : List Mark) → AreReopened (length marks) marks → map reopened marks ≡ marks
reopened_none [] none = refl
reopened_none (m ∷ marks) none =
    let e : reopened m ≡ m = none 0 (omega arith) in
    let r = reopened_none marks (λ i l. none (suc i) (omega arith)) in
    cc

pub reopened_twice : (m : Mark) → reopened (reopened m) ≡ reopened m
reopened_twice Pending = refl
reopened_twice Applied = refl
reopened_twice (Taken batch) = refl

pub done_reopened : (low : ℕ) (marks : List Mark) → AreDone low marks → AreReopened low marks
done_reopened low marks done i l = let d = done i l in ap reopened d ∙ sym d
