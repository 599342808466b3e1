-- Runs that are made one after the other.
use Rattle.std.proofs.Common.{◌≡◌, ◌∙◌, ℕ, zero, suc, ◌+◌, ◌≤◌, false, List, [], ◌∷◌, ◌++◌, replicate, Option, Some, None, Result, Ok, Err, true≢false, refl, sym, ap, arith, append_assoc, append-nil}
use Rattle.std.specs.Prelude.{is_ok, OnErr}
use Rattle.outside.specs.Causes.{Rose}
use Rattle.outside.specs.Spawning.{AddsRun}
use Rattle.outside.specs.declared.spawner.Run.{Run}
use Rattle.server_jobs.specs.Tries.{AddsRuns, RisenBy}

pub adds_none : (o : Option (List Run)) → AddsRuns o o []
adds_none None = tt
adds_none (Some runs) = (runs, refl, sym (append-nil runs))

same_some : {a b : List Run} → Some a ≡ Some b → a ≡ b
same_some {a = a} e = ap (λ (o : Option (List Run)). or_else o) e
  where
    or_else : Option (List Run) → List Run
    or_else (Some x) = x
    or_else None = a

pub adds_both : (a b c : Option (List Run)) (xs ys : List Run) → AddsRuns a b xs → AddsRuns b c ys → AddsRuns a c (xs ++ ys)
adds_both a b None xs ys p q = tt
adds_both a b (Some now) xs ys p q = behind b q.1 p
  where
    behind : (o : Option (List Run)) → o ≡ Some q.0 → AddsRuns a o xs → AddsRuns a (Some now) (xs ++ ys)
    behind None e p = cc
    behind (Some mid) e p = (p.0, p.1, q.2 ∙ ap (λ (l : List Run). l ++ ys) (sym (same_some e) ∙ p.2) ∙ append_assoc p.0 xs ys)

pub adds_one : (a b : Option (List Run)) (run : Run) → AddsRun a b run → AddsRuns a b (run ∷ [])
adds_one a None run p = tt
adds_one a (Some now) run p = p

-- one more of the same
pub replicate_push : {A : Type 0} (n : ℕ) (x : A) → replicate n x ++ x ∷ [] ≡ replicate (n + 1) x
replicate_push zero x = refl
replicate_push {A} (suc n) x =
    let same : suc n + 1 ≡ suc (n + 1) = omega arith in
    ap (λ (l : List A). x ∷ l) (replicate_push n x) ∙ ap (λ (k : ℕ). replicate k x) (sym same)

-- what is said of an error
pub rose_of : {T E : Type 0} (r : Result T E) (P : Type 0) → is_ok r ≡ false → OnErr r P → P
rose_of (Ok x) P e p = absurd (true≢false e)
rose_of (Err x) P e p = p

pub risen_more : (n a b c : ℕ) → RisenBy n a b → Rose b c → RisenBy (n + 1) a c
risen_more n a b c p q = omega (arith, p, q)

pub risen_later : (n a b c : ℕ) → RisenBy n a b → b ≤ c → RisenBy n a c
risen_later n a b c p q = omega (arith, p, q)

pub risen_both : (n m a b c : ℕ) → RisenBy n a b → RisenBy m b c → RisenBy (n + m) a c
risen_both n m a b c p q = omega (arith, p, q)
