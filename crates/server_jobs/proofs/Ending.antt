-- As many notes as are marked once, each of them, are as many marks.
use Rattle.std.proofs.Common.{◌≡◌, ◌∙◌, inl, inr, ℕ, zero, suc, ◌+◌, ◌<◌, ◌≤◌, ◌==◌, ◌||◌, Bool, true, false, List, [], ◌∷◌, length, refl, sym, ap, arith, eq-eqb}
use Rattle.std.specs.Prelude.{if◌then◌else◌}
use Rattle.std.proofs.lemmas.Bool.{cases_eq, ne_eqb}
use Rattle.alert_queue.specs.declared.types.NoteMark.{NoteMark}
use Rattle.alert_marks.specs.Marks.{has_mark, AreOnce}
use Rattle.server_jobs.specs.Numbering.{AreWithin}
use Rattle.server_jobs.specs.Working.{AreMarked}

abbrev one_if : Bool → ℕ
one_if b = if b then 1 else 0

-- how many of the first so many notes have marks
abbrev count_to : List NoteMark → ℕ → ℕ
count_to marks zero = 0
count_to marks (suc k) = one_if (has_mark marks (suc k)) + count_to marks k

count_none : (k : ℕ) → count_to [] k ≡ 0
count_none zero = refl
count_none (suc k) = omega (arith, count_none k)

-- a mark of a note that isn't among them
count_above : (mark : NoteMark) (marks : List NoteMark) (k : ℕ) → k < mark.note → count_to (mark ∷ marks) k ≡ count_to marks k
count_above mark marks zero above = refl
count_above mark marks (suc k) above =
    let other : (mark.note == suc k) ≡ false = ne_eqb mark.note (suc k) (λ e. apart e) in
    let here : one_if (has_mark (mark ∷ marks) (suc k)) ≡ one_if (has_mark marks (suc k)) = ap (λ (b : Bool). one_if (b || has_mark marks (suc k))) other in
    omega (arith, here, count_above mark marks k (omega arith))
  where
    apart : mark.note ≡ suc k → ⊥
    apart e = omega (arith, e, above)

-- a mark of one that is
count_more : (mark : NoteMark) (marks : List NoteMark) (k : ℕ) → 1 ≤ mark.note → mark.note ≤ k → has_mark marks mark.note ≡ false → count_to (mark ∷ marks) k ≡ count_to marks k + 1
count_more mark marks zero low high free = absurd (omega arith)
count_more mark marks (suc k) low high free = elim (cases_eq mark.note (suc k)) [
  | inl same ↦
      let test : (mark.note == suc k) ≡ true = eq-eqb mark.note (suc k) same in
      let here : one_if (has_mark (mark ∷ marks) (suc k)) ≡ 1 = ap (λ (b : Bool). one_if (b || has_mark marks (suc k))) test in
      let before : one_if (has_mark marks (suc k)) ≡ 0 = ap one_if (ap (has_mark marks) (sym same) ∙ free) in
      omega (arith, here, before, count_above mark marks k (omega (arith, same)))
  | inr other ↦
      let test : (mark.note == suc k) ≡ false = ne_eqb mark.note (suc k) other in
      let here : one_if (has_mark (mark ∷ marks) (suc k)) ≡ one_if (has_mark marks (suc k)) = ap (λ (b : Bool). one_if (b || has_mark marks (suc k))) test in
      omega (arith, here, count_more mark marks k low (omega (arith, high, other)) free)
]

count_all : (marks : List NoteMark) (total : ℕ) → AreOnce marks → AreWithin total marks → count_to marks total ≡ length marks
count_all [] total once within = count_none total
count_all (mark ∷ marks) total once within = omega (arith, count_more mark marks total once.0 within.0 once.1, count_all marks total once.2 within.1)

count_full : (marks : List NoteMark) (k : ℕ) → ((n : ℕ) → 1 ≤ n → n ≤ k → has_mark marks n ≡ true) → count_to marks k ≡ k
count_full marks zero each = refl
count_full marks (suc k) each =
    let here : one_if (has_mark marks (suc k)) ≡ 1 = ap one_if (each (suc k) (omega arith) (omega arith)) in
    omega (arith, here, count_full marks k (λ n low high. each n low (omega (arith, high))))

pub marked_all : (marks : List NoteMark) (total : ℕ) → AreOnce marks → AreWithin total marks → ((n : ℕ) → 1 ≤ n → n ≤ total → has_mark marks n ≡ true) → AreMarked total marks
marked_all marks total once within each = record { count = sym (count_all marks total once within) ∙ count_full marks total each; each = each }
