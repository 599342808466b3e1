-- A group that was written is read again.
use Rattle.std.proofs.Common.{◌≡◌, ℕ, ◌+◌, ◌<◌, ◌≤◌, true, List, [], ◌∷◌, ◌++◌, length, take, Some, None, refl, ◌∙◌, ap, arith, append_assoc, length-append}
use Rattle.std.specs.Prelude.{nat_le, nat_lt, if◌then◌else◌}
use Rattle.std.proofs.lemmas.Bool.{le-leb, lt-ltb}
use Rattle.std.proofs.lemmas.List.{take_at}
use Rattle.zbx_types.specs.declared.entries.Entry.{Entry}
use Rattle.zbx_types.specs.declared.entries.Entry.TheVariants.{Config, Value, Tick}
use Rattle.intake_journal.specs.Bytes.{number_bytes, entry_bytes, entries_bytes, group_bytes}
use Rattle.intake_journal.specs.Format.{◌>>=◌, number_at, entries_of}
use Rattle.intake_journal.specs.Kept.{longest_journal, fits, group_behind}
use Rattle.intake_journal.proofs.Again.{bind_some, number_again}

entry_some : (e : Entry) → 1 ≤ length (entry_bytes e)
unfolding entry_bytes
entry_some (Config now text) = omega arith
entry_some (Value now item time value) = omega arith
entry_some (Tick now) = omega arith

-- each entry has a byte
pub count_small : (es : List Entry) → length es ≤ length (entries_bytes es)
count_small [] = omega arith
count_small (e ∷ es) = omega (arith, entry_some e, count_small es, length-append (entry_bytes e) (entries_bytes es))

pub group_length : (es : List Entry) → length (group_bytes es) ≡ length (entries_bytes es) + 8
group_length es =
    let s = number_bytes (length (entries_bytes es)) in let n = number_bytes (length es) in
    omega (arith, length-append (s ++ n) (entries_bytes es), length-append s n)

module _ (at : ℕ) (es : List Entry) (again : entries_of (length es) (entries_bytes es) ≡ Some es) (some : 0 < length es) (within : at + length (entries_bytes es) + 10 ≤ longest_journal) (gate : ℕ) (rest : List ℕ) where
  abbrev left : List ℕ
  left = entries_bytes es ++ gate ∷ rest

  fitting : fits at (length (entries_bytes es)) (length es) (length left) ≡ true
  fitting =
      let inside : nat_lt (length (entries_bytes es)) (length left) ≡ true = lt-ltb _ _ (omega (arith, length-append (entries_bytes es) (gate ∷ rest))) in
      let limit : nat_le (at + length (entries_bytes es) + 10) longest_journal ≡ true = le-leb _ _ within in
      let counted : nat_lt 0 (length es) ≡ true = lt-ltb _ _ some in
      rw (inside, limit, counted) refl

  whole : (if fits at (length (entries_bytes es)) (length es) (length left) then entries_of (length es) (take (length (entries_bytes es)) left) else None) ≡ Some es
  whole =
      rw (fitting, take_at (entries_bytes es) (gate ∷ rest) (length (entries_bytes es)) refl) again

  pub written_again : group_behind at (group_bytes es ++ gate ∷ rest) ≡ Some (length (entries_bytes es), es)
  unfolding group_behind
  written_again =
      let s = number_bytes (length (entries_bytes es)) in let n = number_bytes (length es) in
      let shape : group_bytes es ++ gate ∷ rest ≡ s ++ (n ++ left) = append_assoc (s ++ n) (entries_bytes es) (gate ∷ rest) ∙ append_assoc s n left in
      ap (λ (l : List ℕ). group_behind at l) shape
      ∙ bind_some (number_at (s ++ (n ++ left)))
      (λ size. number_at size.1 >>= λ count. (if fits at size.0 count.0 (length count.1) then entries_of count.0 (take size.0 count.1) else None) >>= λ entries. Some (size.0, entries))
      (length (entries_bytes es), n ++ left) (Some (length (entries_bytes es), es)) (number_again (length (entries_bytes es)) (n ++ left) (omega (arith, within)))
      (bind_some (number_at (n ++ left))
      (λ count. (if fits at (length (entries_bytes es)) count.0 (length count.1) then entries_of count.0 (take (length (entries_bytes es)) count.1) else None) >>= λ entries. Some (length (entries_bytes es), entries))
      (length es, left) (Some (length (entries_bytes es), es)) (number_again (length es) left (omega (arith, within, count_small es)))
      (bind_some (if fits at (length (entries_bytes es)) (length es) (length left) then entries_of (length es) (take (length (entries_bytes es)) left) else None)
      (λ entries. Some (length (entries_bytes es), entries)) es (Some (length (entries_bytes es), es)) whole refl))
