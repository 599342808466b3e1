-- What a block of staged groups is.
use Rattle.std.proofs.Common.{◌≡◌, ℕ, zero, suc, ◌+◌, ◌-◌, ◌<◌, ◌≤◌, List, [], ◌∷◌, ◌++◌, length, take, drop, refl, sym, ◌∙◌, ap, subst, arith, append_assoc, length-append, length-drop}
use Rattle.std.specs.Prelude.{slice_set, ◌==◌}
use Rattle.std.specs.List.{All}
use Rattle.std.proofs.lemmas.Bool.Decides.{nat_tests}
use Rattle.std.proofs.lemmas.List.{set_at, take_all}
use Rattle.std.proofs.lemmas.List.Elements.{All-append}
use Rattle.zbx_types.specs.declared.entries.Entry.{Entry}
use Rattle.intake_journal.specs.Bytes.{entries_bytes, group_bytes}
use Rattle.intake_journal.specs.Kept.{longest_journal}
use Rattle.intake_journal.specs.Block.{opened_bytes, count_all, IsReadable, IsStaged, staged_in}
use Rattle.intake_journal.proofs.Written.{group_length}
use Rattle.intake_journal.proofs.Blocks.{staged_is, opened_length, count_all_small}

-- the parts of a block of these groups
pub record IsBlock (bytes : List ℕ) (entries : ℕ) (groups : List (List Entry)) : Type 0 where
  pub bytes_are : bytes ≡ opened_bytes groups ++ 0 ∷ []
  pub readable : All IsReadable groups
  pub count : entries ≡ count_all groups
  pub size : length bytes ≡ length (opened_bytes groups) + 1
  pub within : length bytes ≤ longest_journal
  pub few : count_all groups ≤ longest_journal

block_of : (bytes : List ℕ) (entries : ℕ) (is : IsStaged bytes entries) → IsBlock bytes entries is.groups
block_of bytes entries is =
    let long : length bytes ≡ length (opened_bytes is.groups) + 1 = omega (arith, ap length is.bytes_are, length-append (opened_bytes is.groups) (0 ∷ [])) in
    record {
      bytes_are = is.bytes_are;
      readable = is.readable;
      count = is.count;
      size = long;
      within = is.within;
      few = omega (arith, long, is.within, count_all_small is.groups);
    }

pub groups_are : (bytes : List ℕ) (entries : ℕ) (is : IsStaged bytes entries) → staged_in bytes ≡ is.groups
groups_are bytes entries is =
    let block = block_of bytes entries is in
    ap (λ (l : List ℕ). staged_in l) is.bytes_are ∙ staged_is is.groups is.readable (omega (arith, block.size, block.within))

pub block_is : (bytes : List ℕ) (entries : ℕ) (groups : List (List Entry)) → IsStaged bytes entries → staged_in bytes ≡ groups → IsBlock bytes entries groups
block_is bytes entries groups is view = subst (λ (gs : List (List Entry)). IsBlock bytes entries gs) (sym (groups_are bytes entries is) ∙ view) (block_of bytes entries is)

-- what is written behind the first gate
pub behind_first : (bytes : List ℕ) (groups : List (List Entry)) → bytes ≡ opened_bytes groups ++ 0 ∷ [] → 0 < length groups → 1 ∷ take (length bytes - 1) (drop 1 bytes) ≡ opened_bytes groups ++ 0 ∷ []
behind_first bytes [] is some = absurd (omega arith)
behind_first bytes (es ∷ groups) is some =
    let enough : length (drop 1 bytes) ≤ length bytes - 1 = omega (arith, length-drop 1 bytes) in
    ap (λ (l : List ℕ). 1 ∷ l) (take_all (length bytes - 1) (drop 1 bytes) enough) ∙ ap (λ (l : List ℕ). 1 ∷ drop 1 l) is

opened-push : (groups : List (List Entry)) (es : List Entry) (rest : List ℕ) → opened_bytes (groups ++ es ∷ []) ++ rest ≡ opened_bytes groups ++ 1 ∷ (group_bytes es ++ rest)
opened-push [] es rest = ap (λ (l : List ℕ). 1 ∷ l) (append_assoc (group_bytes es) [] rest)
opened-push (h ∷ groups) es rest =
    ap (λ (l : List ℕ). 1 ∷ l)
    (append_assoc (group_bytes h) (opened_bytes (groups ++ es ∷ [])) rest
    ∙ ap (λ (l : List ℕ). group_bytes h ++ l) (opened-push groups es rest)
    ∙ sym (append_assoc (group_bytes h) (opened_bytes groups) (1 ∷ (group_bytes es ++ rest))))

pub count-push : (groups : List (List Entry)) (es : List Entry) → count_all (groups ++ es ∷ []) ≡ count_all groups + length es
count-push [] es = omega arith
count-push (h ∷ groups) es = omega (arith, count-push groups es)

all_one : (es : List Entry) → IsReadable es → All IsReadable (es ∷ [])
all_one es one zero d lt = one
all_one es one (suc k) d lt = absurd (omega arith)

readable-push : (groups : List (List Entry)) (es : List Entry) → All IsReadable groups → IsReadable es → All IsReadable (groups ++ es ∷ [])
readable-push groups es so_far one = All-append IsReadable groups (es ∷ []) so_far (all_one es one)

-- a group more
pub more_bytes : (bytes : List ℕ) (groups : List (List Entry)) (es : List Entry) → bytes ≡ opened_bytes groups ++ 0 ∷ []
    → slice_set (bytes ++ (group_bytes es ++ 0 ∷ [])) (length bytes - 1) 1 ≡ opened_bytes (groups ++ es ∷ []) ++ 0 ∷ []
more_bytes bytes groups es is =
    let place : length (opened_bytes groups) ≡ length bytes - 1 = omega (arith, ap length is, length-append (opened_bytes groups) (0 ∷ [])) in
    ap (λ (l : List ℕ). slice_set (l ++ (group_bytes es ++ 0 ∷ [])) (length bytes - 1) 1) is
    ∙ ap (λ (l : List ℕ). slice_set l (length bytes - 1) 1) (append_assoc (opened_bytes groups) (0 ∷ []) (group_bytes es ++ 0 ∷ []))
    ∙ set_at (opened_bytes groups) 0 (group_bytes es ++ 0 ∷ []) 1 (length bytes - 1) place
    ∙ sym (opened-push groups es (0 ∷ []))

pub more_staged : (bytes : List ℕ) (entries : ℕ) (groups : List (List Entry)) (es : List Entry) → IsBlock bytes entries groups → IsReadable es → length (opened_bytes groups) + length (entries_bytes es) + 10 ≤ longest_journal
    → IsStaged (slice_set (bytes ++ (group_bytes es ++ 0 ∷ [])) (length bytes - 1) 1) (entries + length es)
more_staged bytes entries groups es is readable within =
    let made = more_bytes bytes groups es is.bytes_are in
    let long = ap length (made ∙ opened-push groups es (0 ∷ [])) in
    record {
      groups = groups ++ es ∷ [];
      bytes_are = made;
      readable = readable-push groups es is.readable readable;
      count = omega (arith, is.count, count-push groups es);
      within = omega (arith, long, within, group_length es, length-append (opened_bytes groups) (1 ∷ (group_bytes es ++ 0 ∷ [])), length-append (group_bytes es) (0 ∷ []));
    }

pub more_groups : (bytes : List ℕ) (entries : ℕ) (groups : List (List Entry)) (es : List Entry) → IsBlock bytes entries groups → IsReadable es → length (opened_bytes groups) + length (entries_bytes es) + 10 ≤ longest_journal
    → staged_in (slice_set (bytes ++ (group_bytes es ++ 0 ∷ [])) (length bytes - 1) 1) ≡ groups ++ es ∷ []
unfolding more_staged
more_groups bytes entries groups es is readable within = groups_are _ (entries + length es) (more_staged bytes entries groups es is readable within)

none_staged : IsStaged (0 ∷ []) 0
none_staged = record { groups = []; bytes_are = refl; readable = λ k d lt. absurd (omega arith); count = refl; within = omega arith }

pub none_in : staged_in (0 ∷ []) ≡ []
unfolding none_staged
none_in = groups_are (0 ∷ []) 0 none_staged

-- all taken out
pub cleared : (bytes : List ℕ) (entries : ℕ) → IsStaged bytes entries → slice_set (take 1 bytes) 0 0 ≡ 0 ∷ []
cleared bytes entries is = ap (λ (l : List ℕ). slice_set (take 1 l) 0 0) is.bytes_are ∙ by_parts is.groups
  where
    by_parts : (groups : List (List Entry)) → slice_set (take 1 (opened_bytes groups ++ 0 ∷ [])) 0 0 ≡ 0 ∷ []
    by_parts [] = refl
    by_parts (es ∷ groups) = refl

-- how long the groups are with one more
pub more_long : (groups : List (List Entry)) (es : List Entry) → length (opened_bytes (groups ++ es ∷ [])) ≡ length (opened_bytes groups) + length (entries_bytes es) + 9
more_long groups es =
    let made = ap length (opened-push groups es (0 ∷ [])) in
    omega (arith, made, group_length es, length-append (opened_bytes (groups ++ es ∷ [])) (0 ∷ []), length-append (opened_bytes groups) (1 ∷ (group_bytes es ++ 0 ∷ [])), length-append (group_bytes es) (0 ∷ []))

pub none_by_length : (n : ℕ) (groups : List (List Entry)) → n ≡ length (opened_bytes groups) + 1 → (n == 1) ≡ (length groups == 0)
none_by_length n [] is = grind (arith, nat_tests)
none_by_length n (es ∷ groups) is = grind (arith, nat_tests, opened_length es groups)
