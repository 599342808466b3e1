-- Numbers of the entries of a whole log.
use Rattle.std.proofs.Common.{◌≡◌, ◌+◌, ℕ, suc, List, [], ◌∷◌, ◌++◌, length, map, reverse, refl, sym, ap, subst, ◌∙◌, arith, length-append}
use Rattle.std.proofs.lemmas.List.{reverse-append, reverse-reverse, length-reverse}
use mathlib.Core.List.{reverse-cons}
use Rattle.zbx_types.specs.Ids.{ids_from}
use Rattle.zbx_types.specs.declared.conf.Conf.{Conf}
use Rattle.zbx_types.specs.declared.entries.Numbered.{Numbered}
use Rattle.entry_step.specs.Each.{Each}
use Rattle.entry_laws.specs.InForce.{IsPlain, FitsLog, HasBegun, IsFull, behind_all}
use Rattle.entry_step.specs.Log.{log_of, Suits}
use Rattle.entry_step.specs.Start.{Start}
use Rattle.entry_laws.proofs.InForce.{plain_fits}
use Rattle.entry_step.proofs.Members.{each_append}
use Rattle.book.specs.Entries.{IsWholeLog}
use Rattle.book_opening.proofs.Numbers.{full_behind, number_left}

-- numbers that follow one another from this one on
abbrev From : ℕ → List Numbered → Type 0
From k xs = map (λ (e : Numbered). e.number) xs ≡ ids_from k xs

last_of : (k : ℕ) (xs : List Numbered) (e : Numbered) → From k (xs ++ e ∷ []) → e.number ≡ k + length xs
last_of k [] e off = let a : e.number ≡ k = cc in omega arith
last_of k (x ∷ xs) e off =
    let t : From (k + 1) (xs ++ e ∷ []) = cc in
    let r = last_of (k + 1) xs e t in omega arith

behind_from : (k : ℕ) (xs ys : List Numbered) → From k (xs ++ ys) → From (k + length xs) ys
behind_from k [] ys off = let z : k ≡ k + 0 = omega arith in subst (λ j. From j ys) z off
behind_from k (x ∷ xs) ys off =
    let t : From (k + 1) (xs ++ ys) = cc in
    let z : (k + 1) + length xs ≡ k + suc (length xs) = omega arith in
    subst (λ j. From j ys) z (behind_from (k + 1) xs ys t)

-- the number of an entry behind others
pub number_behind : (start : Start) (before : List Numbered) (e : Numbered) → IsWholeLog start (before ++ e ∷ []) → e.number ≡ start.number + length (before ++ e ∷ [])
number_behind start before e whole =
    let r = last_of (start.number + 1) before e whole.numbers in
    omega (arith, length-append before (e ∷ []))

-- one more came
pub came_whole : (start : Start) (before received entries next : List Numbered) (e : Numbered) → entries ≡ before → received ≡ before ++ e ∷ [] → next ≡ entries ++ e ∷ [] → IsWholeLog start received → IsWholeLog start next
came_whole start before received entries next e same came more whole =
    subst (IsWholeLog start) (came ∙ ap (λ es. es ++ e ∷ []) (sym same) ∙ sym more) whole

-- the numbers of a full log
from_behind : (k : ℕ) (xs : List Numbered) (x : Numbered) → From k xs → x.number ≡ k + length xs → From k (xs ++ x ∷ [])
from_behind k [] x off at = let q : x.number ≡ k = omega arith in rw q refl
from_behind k (y ∷ xs) x off at =
    let a : y.number ≡ k = cc in
    let t : From (k + 1) xs = cc in
    let r = from_behind (k + 1) xs x t (omega arith) in
    rw (a, r) refl

full_from : (from : Start) (log : List Numbered) → IsFull from log → From (from.number + 1) (reverse log)
full_from from [] full = refl
full_from from (e ∷ log) full =
    subst (From (from.number + 1)) (sym (reverse-cons e log))
    (from_behind (from.number + 1) (reverse log) e (full_from from log full.0) (let s = length-reverse log in let n = full.1 in omega arith))

-- plain ones in the order of their numbers
pub plain_reverse : (entries : List Numbered) → Each IsPlain entries → Each IsPlain (reverse entries)
plain_reverse [] plain = tt
plain_reverse (e ∷ entries) plain = subst (Each IsPlain) (sym (reverse-cons e entries)) (each_append IsPlain (reverse entries) (e ∷ []) (plain_reverse entries plain.1) (plain.0, tt))

-- Values and Ticks behind the entries that a journal kept, with which they are a full log that fits what stood before, are a
-- whole log behind what these leave
pub whole_of : (flat : List ℕ → Conf) (from : Start) (kept entries : List Numbered) (start : Start) → start ≡ behind_all flat from (log_of kept) → HasBegun from (log_of kept) → Each IsPlain entries
    → IsFull from (log_of (kept ++ entries)) → FitsLog flat from (log_of (kept ++ entries)) → IsWholeLog start entries
whole_of flat from kept entries start is begun plain full fits = record { numbers = numbers; suits = subst (λ s. Suits s (log_of entries)) (sym is) suiting; plain = plain }
  where
    parts : log_of (kept ++ entries) ≡ log_of entries ++ log_of kept
    parts = reverse-append kept entries

    number : start.number ≡ from.number + length kept
    number = number_left flat from kept start is (full_behind from (log_of entries) (log_of kept) (subst (IsFull from) parts full))

    numbers : From (start.number + 1) entries
    numbers =
        let all : From (from.number + 1) (kept ++ entries) = subst (From (from.number + 1)) (reverse-reverse (kept ++ entries)) (full_from from (log_of (kept ++ entries)) full) in
        let n = number in
        let z : (from.number + 1) + length kept ≡ start.number + 1 = omega arith in
        subst (λ k. From k entries) z (behind_from (from.number + 1) kept entries all)

    suiting : Suits (behind_all flat from (log_of kept)) (log_of entries)
    suiting = ((plain_fits flat from (log_of entries) (log_of kept) begun (plain_reverse entries plain)).0 (subst (FitsLog flat from) parts fits)).1
