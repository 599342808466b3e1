-- The group that bytes begin with.
use Rattle.std.proofs.Common.{◌≡◌, ℕ, ◌+◌, ◌-◌, ◌<◌, ◌≤◌, Bool, true, false, List, length, take, drop, Option, Some, None, if◌then◌else◌, refl, sym, ap, subst, ◌∙◌, arith, length-drop, inl, inr}
use Rattle.std.proofs.lemmas.Bool.{le-ltb, lt-ltb, cases_lt}
use Rattle.std.proofs.lemmas.Bool.Decides.{nat_tests}
use Rattle.std.proofs.lemmas.Option.{some_pair_parts}
use Rattle.std.proofs.lemmas.List.{drop-take, drop-drop}
use Rattle.byteorder.specs.Endian.{little_number, little_from}
use Rattle.byteorder.specs.Numbers.{little_from-take}
use Rattle.zbx_types.specs.declared.entries.Entry.{Entry}
use Rattle.intake_journal.specs.Format.{◌>>=◌, number_at, entries_of}
use Rattle.intake_journal.specs.Kept.{longest_journal, fits, group_behind}
use Rattle.intake_journal.specs.Found.{HasGroup}

-- the number in four bytes that are there
pub number_there : (bytes : List ℕ) → 4 ≤ length bytes → number_at bytes ≡ Some (little_number 4 bytes, drop 4 bytes)
number_there bytes le = rw (le-ltb _ _ le) refl

-- there is no number in fewer bytes
pub number_lacks : (bytes : List ℕ) → length bytes < 4 → number_at bytes ≡ None
number_lacks bytes lt = rw (lt-ltb _ _ lt) refl

-- the entries of a group, with their size
abbrev pub sized : ℕ → Option (List Entry) → Option (ℕ × List Entry)
sized size read = read >>= λ entries. Some (size, entries)

-- where the size and the count are there
pub group_is : (at : ℕ) (bytes : List ℕ) → 8 ≤ length bytes
    → group_behind at bytes ≡ sized (little_number 4 bytes) (if fits at (little_number 4 bytes) (little_number 4 (drop 4 bytes)) (length bytes - 8) then entries_of (little_number 4 (drop 4 bytes)) (take (little_number 4 bytes) (drop 8 bytes)) else None)
unfolding group_behind
group_is at bytes le =
    let second : number_at (drop 4 bytes) ≡ Some (little_number 4 (drop 4 bytes), drop 8 bytes) =
    number_there (drop 4 bytes) (omega (arith, length-drop 4 bytes)) ∙ ap (λ (x : List ℕ). Some (little_number 4 (drop 4 bytes), x)) (drop-drop 4 4 bytes) in
    let left : length (drop 8 bytes) ≡ length bytes - 8 = length-drop 8 bytes in
    rw (number_there bytes (omega arith), second, left) refl

-- where they aren't
pub group_lacks : (at : ℕ) (bytes : List ℕ) → length bytes < 8 → group_behind at bytes ≡ None
unfolding group_behind
group_lacks at bytes lt = elim (cases_lt (length bytes) 4) [
  | inl less ↦ rw (number_lacks bytes less) refl
  | inr more ↦ rw (number_there bytes more, number_lacks (drop 4 bytes) (omega (arith, length-drop 4 bytes))) refl
]

fits_true : (at size count left : ℕ) → size < left → at + size + 10 ≤ longest_journal → 0 < count → fits at size count left ≡ true
fits_true at size count left inside within some = grind (arith, nat_tests)

pub fits_parts : (at size count left : ℕ) → fits at size count left ≡ true → (size < left) × (at + size + 10 ≤ longest_journal) × (0 < count)
fits_parts at size count left e = grind (arith, nat_tests)

same_size : (n size : ℕ) (read : Option (List Entry)) (entries : List Entry) → n ≡ size → read ≡ Some entries → sized n read ≡ Some (size, entries)
same_size n size read entries e r = rw (r, e) refl

-- where the parts are there, there is the group
pub group_there : (at : ℕ) (bytes : List ℕ) (size : ℕ) (entries : List Entry) → HasGroup at bytes size entries → group_behind at bytes ≡ Some (size, entries)
group_there at bytes size entries has =
    let n = little_number 4 bytes in
    let count = little_number 4 (drop 4 bytes) in
    let same : n ≡ size = has.size_is in
    let inside : n < length bytes - 8 = omega (arith, has.inside, same) in
    let within : at + n + 10 ≤ longest_journal = omega (arith, has.within, same) in
    let test : fits at n count (length bytes - 8) ≡ true = fits_true at n count (length bytes - 8) inside within has.some in
    let read : entries_of count (take n (drop 8 bytes)) ≡ Some entries = ap (λ (k : ℕ). entries_of count (take k (drop 8 bytes))) same ∙ has.entries_are in
    group_is at bytes (omega (arith, has.inside)) ∙ same_size n size (if fits at n count (length bytes - 8) then entries_of count (take n (drop 8 bytes)) else None) entries same (rw test read)

choice_is : {A : Type 0} (b : Bool) (o : Option A) (y : A) → (if b then o else None) ≡ Some y → (b ≡ true) × (o ≡ Some y)
choice_is true o y e = (refl, e)
choice_is false o y e = absurd cc

sized_is : (n size : ℕ) (read : Option (List Entry)) (entries : List Entry) → sized n read ≡ Some (size, entries) → (n ≡ size) × (read ≡ Some entries)
sized_is n size None entries e = absurd cc
sized_is n size (Some es) entries e = let parts = some_pair_parts n size es entries e in (parts.0, ap (λ (x : List Entry). Some x) parts.1)

-- and the other way round
pub group_parts : (at : ℕ) (bytes : List ℕ) (size : ℕ) (entries : List Entry) → group_behind at bytes ≡ Some (size, entries) → HasGroup at bytes size entries
group_parts at bytes size entries e = elim (cases_lt (length bytes) 8) [
  | inl less ↦ absurd (cc (group_lacks at bytes less))
  | inr more ↦
      let n = little_number 4 bytes in
      let count = little_number 4 (drop 4 bytes) in
      let test = fits at n count (length bytes - 8) in
      let parts = sized_is n size (if test then entries_of count (take n (drop 8 bytes)) else None) entries (sym (group_is at bytes more) ∙ e) in
      let chosen = choice_is test (entries_of count (take n (drop 8 bytes))) entries parts.1 in
      let fit = fits_parts at n count (length bytes - 8) chosen.0 in
      record {
        size_is = parts.0;
        some = fit.2;
        inside = omega (arith, fit.0, parts.0);
        within = omega (arith, fit.1, parts.0);
        entries_are = ap (λ (k : ℕ). entries_of count (take k (drop 8 bytes))) (sym parts.0) ∙ chosen.1;
      }
]

-- ---- other bytes with the same front

pub drop_same : (n m k : ℕ) (xs ys : List ℕ) → k ≡ n + m → take k xs ≡ take k ys → take m (drop n xs) ≡ take m (drop n ys)
drop_same n m k xs ys e same = sym (drop-take n m xs) ∙ ap (λ (j : ℕ). drop n (take j xs)) (sym e) ∙ ap (λ (zs : List ℕ). drop n zs) same ∙ ap (λ (j : ℕ). drop n (take j ys)) e ∙ drop-take n m ys

pub number_same : (m : ℕ) (xs ys : List ℕ) → 4 ≤ m → take m xs ≡ take m ys → little_number 4 xs ≡ little_number 4 ys
number_same m xs ys le same = sym (little_from-take 0 4 m xs (omega arith)) ∙ ap (λ (zs : List ℕ). little_from 0 4 zs) same ∙ little_from-take 0 4 m ys (omega arith)

pub group_same : (at : ℕ) (bytes other : List ℕ) (size : ℕ) (entries : List Entry) → HasGroup at bytes size entries → take (size + 8) other ≡ take (size + 8) bytes → size + 8 < length other → HasGroup at other size entries
group_same at bytes other size entries has same inside =
    let size-is : little_number 4 other ≡ little_number 4 bytes = number_same (size + 8) other bytes (omega arith) same in
    let count-is : little_number 4 (drop 4 other) ≡ little_number 4 (drop 4 bytes) = number_same (size + 4) (drop 4 other) (drop 4 bytes) (omega arith) (drop_same 4 (size + 4) (size + 8) other bytes (omega arith) same) in
    let rest-is : take size (drop 8 other) ≡ take size (drop 8 bytes) = drop_same 8 size (size + 8) other bytes (omega arith) same in
    record {
      size_is = size-is ∙ has.size_is;
      some = subst (λ (n : ℕ). 0 < n) (sym count-is) has.some;
      inside = inside;
      within = has.within;
      entries_are = ap (λ (n : ℕ). entries_of n (take size (drop 8 other))) count-is ∙ ap (λ (zs : List ℕ). entries_of (little_number 4 (drop 4 bytes)) zs) rest-is ∙ has.entries_are;
    }
