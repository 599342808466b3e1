-- Entries read one after the other.
use Rattle.std.proofs.Common.{◌≡◌, ℕ, zero, suc, ◌+◌, ◌-◌, ◌≤◌, ◌<◌, eqb, false, List, [], ◌∷◌, ◌++◌, length, Option, Some, None, if◌then◌else◌, refl, sym, ap, ◌∙◌, append_assoc, arith}
use Rattle.std.proofs.lemmas.List.{append-nil}
use Rattle.std.specs.Prelude.{IfSome}
use Rattle.std.proofs.lemmas.Bool.{ne_eqb}
use Rattle.zbx_types.specs.declared.entries.Entry.{Entry}
use Rattle.intake_journal.specs.declared.decoding.Unread.{Unread}
use Rattle.intake_journal.specs.declared.decoding.Unread.TheVariants as unread
use Rattle.intake_journal.specs.Format.{◌>>=◌, entry_at, entries_of}
use Rattle.intake_journal.specs.Given.{Refuses}

-- what was read before, and what is still read
abbrev pub with_front : List Entry → Option (List Entry) → Option (List Entry)
with_front front read = read >>= λ es. Some (front ++ es)

regroup : (front : List Entry) (e : Entry) (read : Option (List Entry)) → with_front front (read >>= λ es. Some (e ∷ es)) ≡ with_front (front ++ e ∷ []) read
regroup front e (Some es) = ap (λ (x : List Entry). Some x) (sym (append_assoc front (e ∷ []) es))
regroup front e None = refl

pub goes_on : (front : List Entry) (count i : ℕ) (bytes : List ℕ) (e : Entry) (after : List ℕ) (total : Option (List Entry)) → i < count → entry_at bytes ≡ Some (e, after)
    → with_front front (entries_of (count - i) bytes) ≡ total → with_front (front ++ e ∷ []) (entries_of (count - (i + 1)) after) ≡ total
unfolding entries_of
goes_on front count i bytes e after total lt h so_far =
    let k : count - i ≡ suc (count - (i + 1)) = omega arith in
    let one : with_front front (entries_of (count - i) bytes) ≡ with_front (front ++ e ∷ []) (entries_of (count - (i + 1)) after) = rw (k, h) (regroup front e (entries_of (count - (i + 1)) after)) in
    sym one ∙ so_far

pub ends : (why : Unread) (front : List Entry) (count i : ℕ) (bytes : List ℕ) (total : Option (List Entry)) → i < count → Refuses why (entry_at bytes)
    → with_front front (entries_of (count - i) bytes) ≡ total → Refuses why total
unfolding entries_of
ends unread.Memory front count i bytes total lt h so_far = tt
ends unread.Malformed front count i bytes total lt h so_far =
    let k : count - i ≡ suc (count - (i + 1)) = omega arith in
    let one : with_front front (entries_of (count - i) bytes) ≡ None = rw (k, h) refl in
    sym so_far ∙ one

pub is_done : (front : List Entry) (count i : ℕ) (bytes : List ℕ) (total : Option (List Entry)) → count ≤ i → length bytes ≡ 0 → with_front front (entries_of (count - i) bytes) ≡ total → total ≡ Some front
unfolding entries_of
is_done front count i [] total le empty so_far =
    let k : count - i ≡ 0 = omega arith in
    let one : with_front front (entries_of (count - i) []) ≡ Some front = rw k (ap (λ (es : List Entry). Some es) (append-nil front)) in
    sym so_far ∙ one
is_done front count i (b ∷ bs) total le empty so_far = absurd (omega arith)

pub is_more : (front : List Entry) (count i : ℕ) (bytes : List ℕ) (total : Option (List Entry)) → count ≤ i → 0 < length bytes → with_front front (entries_of (count - i) bytes) ≡ total → total ≡ None
unfolding entries_of
is_more front count i [] total le more so_far = absurd (omega arith)
is_more front count i (b ∷ bs) total le more so_far =
    let k : count - i ≡ 0 = omega arith in
    let long : eqb (length (b ∷ bs)) 0 ≡ false = ne_eqb (length (b ∷ bs)) 0 (λ e. omega arith) in
    let one : with_front front (entries_of (count - i) (b ∷ bs)) ≡ None = rw (k, long) refl in
    sym so_far ∙ one

with_first : (e : Entry) (n : ℕ) (read : Option (List Entry)) (es : List Entry) → ((others : List Entry) → read ≡ Some others → length others ≡ n) → (read >>= λ others. Some (e ∷ others)) ≡ Some es → length es ≡ suc n
with_first e n (Some others) es counted same = let made : e ∷ others ≡ es = cc in ap (λ (xs : List Entry). length xs) (sym made) ∙ ap suc (counted others refl)
with_first e n None es counted same = absurd cc

-- no entries
abbrev empty : List ℕ → Option (List Entry)
empty bytes = if eqb (length bytes) 0 then Some [] else None

-- so many entries are read as were asked for
pub count_is : (n : ℕ) (bytes : List ℕ) (es : List Entry) → entries_of n bytes ≡ Some es → length es ≡ n
unfolding entries_of
count_is zero [] es same = let none : [] ≡ es = cc in ap (λ (xs : List Entry). length xs) (sym none)
count_is zero (b ∷ bs) es same = let long : eqb (length (b ∷ bs)) 0 ≡ false = ne_eqb (length (b ∷ bs)) 0 (λ e. omega arith) in let none : empty (b ∷ bs) ≡ None = rw long refl in absurd (cc (none, same))
count_is (suc n) bytes es same = by_first (entry_at bytes) es (λ after others e. count_is n after others e) same
  where
    by_first : (read : Option (Entry × List ℕ)) (es : List Entry) → ((after : List ℕ) (others : List Entry) → entries_of n after ≡ Some others → length others ≡ n)
        → (read >>= λ first. entries_of n first.1 >>= λ others. Some (first.0 ∷ others)) ≡ Some es → length es ≡ suc n
    by_first None es counted same = absurd cc
    by_first (Some first) es counted same = with_first first.0 n (entries_of n first.1) es (counted first.1) same

pub counted : (n : ℕ) (bytes : List ℕ) (read : Option (List Entry)) → read ≡ entries_of n bytes → IfSome read (λ es. length es ≡ n)
counted n bytes None e = tt
counted n bytes (Some es) e = count_is n bytes es (sym e)
