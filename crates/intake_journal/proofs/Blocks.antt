-- Groups in a row are read again.
use Rattle.std.proofs.Common.{◌≡◌, ℕ, ◌+◌, ◌≤◌, List, [], ◌∷◌, ◌++◌, length, Some, refl, sym, ◌∙◌, ap, arith, append_assoc, length-append}
use Rattle.std.specs.Prelude.{map, unwrap_or}
use Rattle.std.specs.List.{All}
use Rattle.std.proofs.lemmas.List.{append-nil}
use Rattle.std.proofs.lemmas.List.Elements.{All-head, All-tail}
use Rattle.zbx_types.specs.declared.entries.Entry.{Entry}
use Rattle.intake_journal.specs.Bytes.{entries_bytes, group_bytes}
use Rattle.intake_journal.specs.Kept.{Kept, Groups, longest_journal, group_behind, with_group, kept_behind, kept_from, groups_of, beginning_of}
use Rattle.intake_journal.specs.Settled.{onto, IsFront, count_entries}
use Rattle.intake_journal.specs.Block.{opened_bytes, placed, count_all, IsReadable, staged_in}
use Rattle.intake_journal.specs.declared.format.Beginning.TheVariants.{Begun}
use Rattle.intake_journal.specs.declared.format.Group.{Group}
use Rattle.intake_journal.proofs.Fronts.{opened, closed, onto-groups}
use Rattle.intake_journal.proofs.Written.{group_length, written_again, count_small}

behind_any : (at : ℕ) (es : List Entry) (groups : List (List Entry)) (gate : ℕ) (rest : List ℕ) → IsReadable es → at + length (entries_bytes es) + 10 ≤ longest_journal
    → group_behind at (group_bytes es ++ (opened_bytes groups ++ gate ∷ rest)) ≡ Some (length (entries_bytes es), es)
behind_any at es [] gate rest readable within = written_again at es readable.1 readable.0 within gate rest
behind_any at es (h ∷ groups) gate rest readable within = written_again at es readable.1 readable.0 within 1 ((group_bytes h ++ opened_bytes groups) ++ gate ∷ rest)

pub opened_length : (es : List Entry) (groups : List (List Entry)) → length (opened_bytes (es ∷ groups)) ≡ length (entries_bytes es) + 9 + length (opened_bytes groups)
opened_length es groups = omega (arith, group_length es, length-append (group_bytes es) (opened_bytes groups))

-- groups behind open gates are read as these groups, whatever stands at the gate behind the last
pub block_read : (at : ℕ) (groups : List (List Entry)) (gate : ℕ) (rest : List ℕ) → All IsReadable groups → at + length (opened_bytes groups) + 1 ≤ longest_journal
    → kept_behind 0 at (opened_bytes groups ++ gate ∷ rest) ≡ onto (placed at groups) (kept_behind 0 (at + length (opened_bytes groups)) (gate ∷ rest))
block_read at [] gate rest readable within = let same : at + 0 ≡ at = omega arith in ap (λ (n : ℕ). kept_behind 0 n (gate ∷ rest)) (sym same)
block_read at (es ∷ groups) gate rest readable within =
    let size = length (entries_bytes es) in
    let long = opened_length es groups in
    let next = at + (size + 9) in
    let places : next + length (opened_bytes groups) ≡ at + length (opened_bytes (es ∷ groups)) = omega (arith, long) in
    ap (λ (l : List ℕ). kept_behind 0 at (1 ∷ l)) (append_assoc (group_bytes es) (opened_bytes groups) (gate ∷ rest))
    ∙ opened at size es (group_bytes es) (opened_bytes groups ++ gate ∷ rest) (group_length es) (behind_any at es groups gate rest (All-head IsReadable es groups readable) (omega (arith, within, long)))
    ∙ ap (λ (k : Kept). with_group (record { at = at; entries = es }) k)
    (block_read next groups gate rest (All-tail IsReadable es groups readable) (omega (arith, within, long)) ∙ ap (λ (n : ℕ). onto (placed next groups) (kept_behind 0 n (gate ∷ rest))) places)

pub onto-append : (gs hs : List Group) (rest : Kept) → onto gs (onto hs rest) ≡ onto (gs ++ hs) rest
onto-append [] hs rest = refl
onto-append (g ∷ gs) hs rest = ap (λ (k : Kept). with_group g k) (onto-append gs hs rest)

count_placed : (at : ℕ) (groups : List (List Entry)) → count_entries (placed at groups) ≡ count_all groups
count_placed at [] = refl
count_placed at (es ∷ groups) = ap (λ (n : ℕ). length es + n) (count_placed (at + (length (entries_bytes es) + 9)) groups)

pub count_entries-placed : (gs : List Group) (at : ℕ) (groups : List (List Entry)) → count_entries (gs ++ placed at groups) ≡ count_entries gs + count_all groups
count_entries-placed [] at groups = omega (arith, count_placed at groups)
count_entries-placed (g ∷ gs) at groups = omega (arith, count_entries-placed gs at groups)

-- each entry has a byte
pub count_all_small : (groups : List (List Entry)) → count_all groups ≤ length (opened_bytes groups)
count_all_small [] = omega arith
count_all_small (es ∷ groups) = omega (arith, count_small es, count_all_small groups, opened_length es groups)

keeps_any : (first : ℕ) (gs : List Group) (front : List ℕ) (groups : List (List Entry)) (gate : ℕ) (rest : List ℕ) → IsFront first gs front
    → kept_from first (front ++ (opened_bytes groups ++ gate ∷ rest)) ≡ onto gs (kept_behind 0 (length front) (opened_bytes groups ++ gate ∷ rest))
keeps_any first gs front [] gate rest is = is.keeps gate rest
keeps_any first gs front (es ∷ groups) gate rest is = is.keeps 1 ((group_bytes es ++ opened_bytes groups) ++ gate ∷ rest)

begins_any : (first : ℕ) (gs : List Group) (front : List ℕ) (groups : List (List Entry)) (gate : ℕ) (rest : List ℕ) (is : IsFront first gs front) → beginning_of (front ++ (opened_bytes groups ++ gate ∷ rest)) ≡ Begun first is.base
begins_any first gs front [] gate rest is = is.begins gate rest
begins_any first gs front (es ∷ groups) gate rest is = is.begins 1 ((group_bytes es ++ opened_bytes groups) ++ gate ∷ rest)

-- more groups at the front
pub front_with : (first : ℕ) (gs : List Group) (front : List ℕ) (groups : List (List Entry)) → IsFront first gs front → All IsReadable groups → length front + length (opened_bytes groups) + 1 ≤ longest_journal
    → IsFront first (gs ++ placed (length front) groups) (front ++ opened_bytes groups)
front_with first gs front groups is readable within = record {
  base = is.base;
  begins = λ gate rest. ap beginning_of (append_assoc front (opened_bytes groups) (gate ∷ rest)) ∙ begins_any first gs front groups gate rest is;
  behind = is.behind;
  long = omega (arith, is.long, length-append front (opened_bytes groups));
  keeps = λ gate rest. keeps gate rest;
}
  where
    keeps : (gate : ℕ) (rest : List ℕ) → kept_from first ((front ++ opened_bytes groups) ++ gate ∷ rest) ≡ onto (gs ++ placed (length front) groups) (kept_behind 0 (length (front ++ opened_bytes groups)) (gate ∷ rest))
    keeps gate rest =
        ap (λ (l : List ℕ). kept_from first l) (append_assoc front (opened_bytes groups) (gate ∷ rest))
        ∙ keeps_any first gs front groups gate rest is
        ∙ ap (λ (k : Kept). onto gs k) (block_read (length front) groups gate rest readable within)
        ∙ onto-append gs (placed (length front) groups) (kept_behind 0 (length front + length (opened_bytes groups)) (gate ∷ rest))
        ∙ ap (λ (n : ℕ). onto (gs ++ placed (length front) groups) (kept_behind 0 n (gate ∷ rest))) (sym (length-append front (opened_bytes groups)))

entries_of_placed : (at : ℕ) (groups : List (List Entry)) → map (λ (g : Group). g.entries) (placed at groups) ≡ groups
entries_of_placed at [] = refl
entries_of_placed at (es ∷ groups) = ap (λ (l : List (List Entry)). es ∷ l) (entries_of_placed (at + (length (entries_bytes es) + 9)) groups)

-- a block of groups behind a closed gate holds these groups once the gate is open
pub staged_is : (groups : List (List Entry)) → All IsReadable groups → length (opened_bytes groups) + 1 ≤ longest_journal → staged_in (opened_bytes groups ++ 0 ∷ []) ≡ groups
staged_is groups readable within =
    let read : kept_behind 0 0 (opened_bytes groups ++ 0 ∷ []) ≡ Groups (placed 0 groups ++ []) =
    block_read 0 groups 0 [] readable (omega (arith, within)) ∙ ap (λ (k : Kept). onto (placed 0 groups) k) (closed (0 + length (opened_bytes groups)) 0 [] (omega arith)) ∙ onto-groups (placed 0 groups) [] in
    ap (λ (k : Kept). map (λ (g : Group). g.entries) (unwrap_or (groups_of k) [])) read
    ∙ ap (λ (gs : List Group). map (λ (g : Group). g.entries) gs) (append-nil (placed 0 groups))
    ∙ entries_of_placed 0 groups
