-- Bytes that are compared in blocks.
use Rattle.std.proofs.Common.{◌≡◌, inl, inr, ℕ, ◌+◌, ◌≤◌, ◌<◌, List, [], ◌∷◌, length, take, drop, Option, Some, None, IfSome, refl, sym, ap, ◌∙◌, arith}
use Rattle.std.specs.Prelude.{◌==◌, Bool, true, false, if◌then◌else◌}
use Rattle.std.proofs.lemmas.List.{drop-drop, take-take, length-take}
use Rattle.std.proofs.lemmas.Bool.{cases_lt, eqb-true}
use Rattle.outside.specs.Others.{first_other}
use Rattle.outside.proofs.OtherLemmas.{behind_same, none_behind, longer}
use Rattle.wire_mio.specs.Adapters.{counted}

-- the place is the first behind those that were looked at
abbrev pub Left : ℕ → List ℕ → ℕ → List ℕ → List ℕ → Type 0
Left at bytes place rest b = first_other at bytes (drop at b) ≡ first_other place rest (drop place b)

pub unread : (o : Option (List ℕ)) (P : List ℕ → Type 0) → o ≡ None → IfSome o P
unread None P is = tt
unread (Some b) P is = absurd cc

pub goes_on : (o : Option (List ℕ)) (at place m n : ℕ) (bytes rest : List ℕ) → n ≤ length (take m rest) → IfSome o (Left at bytes place rest) → IfSome o (λ b. first_other place (take n (take m rest)) (take n (drop place b)) ≡ None)
    → IfSome o (Left at bytes (place + n) (drop n rest))
goes_on None at place m n bytes rest le left same = tt
goes_on (Some b) at place m n bytes rest le left same =
    let fewer : take n (take m rest) ≡ take n rest = take-take n m rest (omega (arith, le, length-take m rest)) in
    left ∙ behind_same n place rest (drop place b) (ap (λ (l : List ℕ). first_other place l (take n (drop place b))) (sym fewer) ∙ same)
    ∙ ap (λ (l : List ℕ). first_other (place + n) (drop n rest) l) (drop-drop n place b)

pub found : (o : Option (List ℕ)) (at place m p : ℕ) (bytes rest : List ℕ) → IfSome o (Left at bytes place rest) → IfSome o (λ b. first_other place (take m rest) (drop place b) ≡ Some p)
    → IfSome o (λ b. Some p ≡ first_other at bytes (drop at b))
found None at place m p bytes rest left other = tt
found (Some b) at place m p bytes rest left other = sym (left ∙ longer m place rest (drop place b) p other)

pub ended : (o : Option (List ℕ)) (held at place : ℕ) (bytes rest : List ℕ) → (place < held → length rest ≡ 0) → IfSome o (Left at bytes place rest)
    → IfSome o (λ b. length b ≡ held → None ≡ first_other at bytes (drop at b))
ended None held at place bytes rest done left = tt
ended (Some b) held at place bytes rest done left = λ size. sym (left ∙ elim (cases_lt place held) [
  | inl less ↦ empty rest (done less)
  | inr behind ↦ none_behind place rest b (omega (arith, size, behind))
])
  where
    empty : (xs : List ℕ) → length xs ≡ 0 → first_other place xs (drop place b) ≡ None
    empty [] is = refl
    empty (x ∷ xs) is = absurd (omega (arith, is))

-- what is said of the bytes where there are as many as were counted
pub counted_told : (held : ℕ) (o : Option (List ℕ)) (P : List ℕ → Type 0) → IfSome o (λ b. length b ≡ held → P b) → IfSome (counted held o) P
counted_told held None P told = tt
counted_told held (Some b) P told = by (length b == held) refl
  where
    by : (same : Bool) → (length b == held) ≡ same → IfSome (if same then Some b else None) P
    by true is = told (eqb-true (length b) held is)
    by false is = tt
