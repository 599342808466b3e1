-- What a file keeps that is opened as a journal.
use Rattle.std.proofs.Common.{◌≡◌, ◌≢◌, ⊎_elim, inl, inr, ℕ, zero, suc, ◌+◌, ◌<◌, ◌≤◌, Bool, true, false, List, [], ◌∷◌, ◌++◌, length, drop, Option, Some, None, IfSome, refl, sym, ◌∙◌, ap, subst, arith}
use Rattle.std.specs.Prelude.{is_some, ◌==◌, if◌then◌else◌}
use Rattle.std.proofs.lemmas.Bool.{cases_lt}
use Rattle.std.proofs.lemmas.List.{drop_all}
use Rattle.outside.specs.Disk.{DiskTells, overwritten, Torn, Follows, Only, LeavesOnly}
use Rattle.zbx_types.specs.Bases.{empty_base}
use Rattle.zbx_types.specs.declared.base.Base.{Base}
use Rattle.intake_journal.specs.Kept.{Kept, magic, first_gate, group_behind, with_group, followed, kept_behind, kept_from, kept, beginning_of, base_at, gate_at, first_gate_in, base_in, kept_as}
use Rattle.intake_journal.specs.declared.format.Beginning.{Beginning}
use Rattle.intake_journal.specs.declared.format.Beginning.TheVariants.{Begun}
use Rattle.intake_journal.specs.declared.format.Beginning.TheVariants as beginning
use Rattle.intake_journal.specs.Kept.Kept.{Fresh, NotOurs, Unfinished, Damaged, Groups}
use Rattle.intake_journal.specs.Opened.{left_of, IsOpened}
use Rattle.intake_journal.specs.Settled.{KeepsAsOneOf, IsDurable}
use Rattle.intake_journal.specs.declared.format.Group.{Group}
use Rattle.zbx_types.specs.declared.entries.Entry.{Entry}
use Rattle.intake_journal.proofs.Adding.{fresh, told_too}
use Rattle.intake_journal.proofs.Fronts.{closed, front_none, beginning_short, kept_by, kept_begun}
use Rattle.gated_file.proofs.Moments.{if_some, told_of}
use Rattle.gated_file.proofs.Torn.{overwritten_inside}

-- one run of calls and then another
pub and_then : (old mid new : DiskTells) (P Q : List ℕ → Type 0) → LeavesOnly old mid P → LeavesOnly mid new Q → ((c : List ℕ) → Q c → P c) → LeavesOnly old new P
and_then old mid new P Q first second goes = record {
  later = omega (arith, first.later, second.later);
  each = λ c left. ⊎_elim (first.each c) (goes c) (second.before old.moment c first.later left);
  before = λ t c le left. ⊎_elim (first.before t c le) (λ now. inr (goes c now)) (second.before t c (omega (arith, le, first.later)) left);
}

-- a short file stays short in each outcome of a write of its first nine bytes
pub stays_short : (b : List ℕ) (old new : DiskTells) → length b ≤ 9 → Only b old → Follows (Torn 0 9) old new → (c : List ℕ) → new.images c → length c ≤ 9
stays_short b old new short only follows c left =
    let from = follows c left in
    omega (arith, from.2.no_longer, ap length (only from.0 from.1), short)

-- a short file has no base
pub base_short : (file : List ℕ) → length file ≤ 9 → base_in file ≡ empty_base
base_short file short = ap base_at (beginning_short file short)

-- short files all keep the same
pub short_keeps : (disk : DiskTells) (b : List ℕ) → disk.images b → length b ≤ 9 → (c : List ℕ) → length c ≤ 9 → KeepsAsOneOf disk c
short_keeps disk b image short c less = (b, image, fresh c less ∙ sym (fresh b short), base_short c less ∙ sym (base_short b short))

-- a short file made anew
pub anew_is : (b : List ℕ) → length b ≤ 9 → overwritten b 0 (magic ++ 0 ∷ []) ≡ magic ++ 0 ∷ []
anew_is b short = overwritten_inside b 0 (magic ++ 0 ∷ []) (omega arith) ∙ ap (λ (l : List ℕ). magic ++ 0 ∷ l) (drop_all 9 b short)

pub anew_opened : (disk : DiskTells) (b : List ℕ) → length b ≤ 9 → Only (overwritten b 0 (magic ++ 0 ∷ [])) disk → IsOpened disk first_gate b (overwritten b 0 (magic ++ 0 ∷ []))
anew_opened disk b short only = subst (IsOpened disk first_gate b) (sym (anew_is b short)) (record {
  front = front_none;
  gate = omega arith;
  durable = λ c now. only c now ∙ anew_is b short;
  left = closed 8 0 [] (omega arith) ∙ ap left_of (sym (fresh b short));
  same_base = base_short (magic ++ 0 ∷ []) (omega arith) ∙ sym (base_short b short);
})

-- what stands for a journal
abbrev IsJournal : Kept → Type 0
IsJournal Fresh = ⊥
IsJournal NotOurs = ⊥
IsJournal Unfinished = ⊥
IsJournal (Damaged at) = Unit {0}
IsJournal (Groups gs) = Unit {0}

with_group_journal : (g : Group) (k : Kept) → IsJournal k → IsJournal (with_group g k)
with_group_journal g Fresh is = is
with_group_journal g NotOurs is = is
with_group_journal g Unfinished is = is
with_group_journal g (Damaged at) is = tt
with_group_journal g (Groups gs) is = tt

followed_journal : (at : ℕ) (rest : ℕ → Kept) (o : Option (ℕ × List Entry)) → ((n : ℕ) → IsJournal (rest n)) → IsJournal (followed at rest o)
followed_journal at rest None is = tt
followed_journal at rest (Some group) is = with_group_journal (record { at = at; entries = group.1 }) (rest (group.0 + 8)) (is (group.0 + 8))

choose_journal : (is_open : Bool) (at : ℕ) (rest : ℕ → Kept) (o : Option (ℕ × List Entry)) → ((n : ℕ) → IsJournal (rest n)) → IsJournal (if is_open then followed at rest o else Groups [])
choose_journal true at rest o is = followed_journal at rest o is
choose_journal false at rest o is = tt

behind_journal : (skipped at : ℕ) (bytes : List ℕ) → IsJournal (kept_behind skipped at bytes)
unfolding kept_behind
behind_journal skipped at [] = tt
behind_journal (suc skipped) at (byte ∷ bytes) = behind_journal skipped (at + 1) bytes
behind_journal zero at (gate ∷ bytes) = choose_journal (gate == 1) at (λ skipped. kept_behind skipped (at + 1) bytes) (group_behind at bytes) (λ n. behind_journal n (at + 1) bytes)

left_same : (k : Kept) → IsJournal k → k ≡ left_of k
left_same Fresh is = absurd is
left_same NotOurs is = absurd is
left_same Unfinished is = absurd is
left_same (Damaged at) is = refl
left_same (Groups gs) is = refl

-- what begins as a journal does keeps what stands behind its first gate
pub begun_left : (file : List ℕ) (first : ℕ) (base : Base) → 9 < length file → beginning_of file ≡ Begun first base → kept_from first file ≡ left_of (kept file)
begun_left file first base long begun =
    left_same (kept_from first file) (behind_journal 0 first (drop first file)) ∙ ap left_of (sym (kept_begun file first base long begun))

-- ---- what is said of a file by how it begins

begun_ours : (file : List ℕ) (first : ℕ) (base : Base) → Begun first base ≡ beginning_of file → (kept file ≢ NotOurs) × (kept file ≢ Unfinished)
begun_ours file first base begun = elim (cases_lt 9 (length file)) [
  | inl long ↦
      let is : IsJournal (kept file) = subst IsJournal (sym (kept_begun file first base long (sym begun))) (behind_journal 0 first (drop first file)) in
      (λ e. subst IsJournal e is, λ e. subst IsJournal e is)
  | inr short ↦ (λ e. cc (fresh file short, e), λ e. cc (fresh file short, e))
]

-- what isn't begun as a journal is told so
not_begun : (file : List ℕ) (it : Beginning) → it ≡ beginning_of file → ((first : ℕ) (base : Base) → it ≢ Begun first base) → kept file ≡ kept_as it file
not_begun file it is other = elim (cases_lt 9 (length file)) [
  | inl long ↦ kept_by file long ∙ ap (λ b. kept_as b file) (sym is)
  | inr short ↦ absurd (other first_gate empty_base (is ∙ beginning_short file short))
]

module _ (file : Option (List ℕ)) where
  pub begun_told : (first : ℕ) (base : Base) → IfSome file (λ b. Begun first base ≡ beginning_of b) → IfSome file (λ b. (kept b ≢ NotOurs) × (kept b ≢ Unfinished))
  begun_told first base told = if_some file _ (λ b is. begun_ours b first base (told_of file b (λ f. Begun first base ≡ beginning_of f) is told))

  pub base_told : (first : ℕ) (base : Base) → IfSome file (λ b. Begun first base ≡ beginning_of b) → IfSome file (λ b. base ≡ base_in b)
  base_told first base told = if_some file _ (λ b is. ap base_at (told_of file b (λ f. Begun first base ≡ beginning_of f) is told))

  pub place_told : (first : ℕ) (base : Base) → IfSome file (λ b. Begun first base ≡ beginning_of b) → IfSome file (λ b. first ≡ first_gate_in b)
  place_told first base told = if_some file _ (λ b is. ap gate_at (told_of file b (λ f. Begun first base ≡ beginning_of f) is told))

  pub not_ours_told : IfSome file (λ b. beginning.NotOurs ≡ beginning_of b) → IfSome file (λ b. kept b ≡ NotOurs)
  not_ours_told told = if_some file _ (λ b is. not_begun b beginning.NotOurs (told_of file b (λ f. beginning.NotOurs ≡ beginning_of f) is told) (λ first base e. cc e))

  pub unfinished_told : IfSome file (λ b. beginning.Unfinished ≡ beginning_of b) → IfSome file (λ b. kept b ≡ Unfinished)
  unfinished_told told = if_some file _ (λ b is. not_begun b beginning.Unfinished (told_of file b (λ f. beginning.Unfinished ≡ beginning_of f) is told) (λ first base e. cc e))

  pub no_base_told : IfSome file (λ b. beginning.Damaged ≡ beginning_of b) → IfSome file (λ b. base_in b ≡ empty_base)
  no_base_told told = if_some file _ (λ b is. sym (ap base_at (told_of file b (λ f. beginning.Damaged ≡ beginning_of f) is told)))

  pub damaged_told : IfSome file (λ b. beginning.Damaged ≡ beginning_of b) → IfSome file (λ b. kept b ≡ Damaged 8)
  damaged_told told = if_some file _ (λ b is. not_begun b beginning.Damaged (told_of file b (λ f. beginning.Damaged ≡ beginning_of f) is told) (λ first base e. cc e))

-- an opened file is that of a journal of which nothing was read
pub opened_durable : (old : Option (List ℕ)) (new : DiskTells) (first : ℕ) → is_some new.bytes ≡ is_some old → IfSome old (λ b. IfSome new.bytes (λ c. IsOpened new first b c)) → IfSome new.bytes (IsDurable new first first 0)
opened_durable old new first told opened = told_too old new.bytes _ told (λ b is c now.
    let known = told_of new.bytes c (λ f. IsOpened new first b f) now (told_of old b (λ f. IfSome new.bytes (λ c. IsOpened new first f c)) is opened) in
    record { groups = []; front = known.front; count = refl; gate = known.gate; durable = known.durable })
