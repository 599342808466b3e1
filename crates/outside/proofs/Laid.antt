-- Bytes that are stretched first and then overwritten.
use Rattle.std.proofs.Common.{◌≡◌, inl, inr, ℕ, ◌+◌, ◌-◌, List, ◌++◌, length, take, drop, refl, sym, ◌∙◌, ap, arith, append_assoc, append-nil, length-append}
use Rattle.std.specs.Prelude.{replicate}
use Rattle.std.proofs.lemmas.Bool.{cases_lt}
use Rattle.std.proofs.lemmas.List.{take-append-le, length-replicate, replicate-append-replicate, drop_all}
use Rattle.outside.specs.Disk.{overwritten}

-- bytes with so many zeros behind them
abbrev with_zeros : List ℕ → ℕ → List ℕ
with_zeros old n = old ++ replicate n 0

-- as many zeros as reach a place are enough for what stands before it
front : (old : List ℕ) (at more : ℕ) → take at (with_zeros old (at - length old + more)) ≡ take at (with_zeros old (at - length old))
front old at more =
    ap (λ (l : List ℕ). take at (old ++ l)) (sym (replicate-append-replicate (at - length old) more 0))
    ∙ ap (λ (l : List ℕ). take at l) (sym (append_assoc old (replicate (at - length old) 0) (replicate more 0)))
    ∙ take-append-le at (with_zeros old (at - length old)) (replicate more 0) (omega (arith, length-append old (replicate (at - length old) 0), length-replicate {A = ℕ} (at - length old) 0))

-- no zero stands behind the end to which they reach
back : (old : List ℕ) (end : ℕ) → drop end (with_zeros old (end - length old)) ≡ drop end old
back old end = elim (cases_lt (length old) end) [
  | inl less ↦
      drop_all end (with_zeros old (end - length old)) (omega (arith, less, length-append old (replicate (end - length old) 0), length-replicate {A = ℕ} (end - length old) 0))
      ∙ sym (drop_all end old (omega (arith, less)))
  | inr le ↦
      let none : end - length old ≡ 0 = omega (arith, le) in
      ap (λ (n : ℕ). drop end (with_zeros old n)) none ∙ ap (λ (l : List ℕ). drop end l) (append-nil old)
]

-- what was stretched up to the end of a piece, with the piece laid over it
pub laid : (old : List ℕ) (at end : ℕ) (piece : List ℕ) → end ≡ at + length piece
    → take at (with_zeros old (end - length old)) ++ piece ++ drop (at + length piece) (with_zeros old (end - length old)) ≡ overwritten old at piece
unfolding overwritten
laid old at end piece is =
    let apart : at + length piece - length old ≡ (at - length old) + ((at + length piece - length old) - (at - length old)) = omega arith in
    let before = ap (λ (n : ℕ). take at (with_zeros old n)) apart ∙ front old at ((at + length piece - length old) - (at - length old)) in
    rw (is, before, back old (at + length piece)) refl
