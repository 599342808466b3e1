-- Laws of reading a journal.
use Rattle.std.proofs.Common.{◌≡◌, ◌⊎◌, ℕ, ◌+◌, ◌<◌, ◌≤◌, Bool, true, false, List, [], ◌∷◌, ◌++◌, length, drop, take, take-append-drop, Option, Some, None, refl, sym, ap, ◌∙◌, subst, arith, append-nil, inl, inr, true≢false}
use Rattle.std.specs.Prelude.{IfSome, IfErr, is_some, Result, Ok, Err, ◌==◌, if◌then◌else◌, nat_le}
use Rattle.std.proofs.lemmas.List.{length-drop}
use Rattle.std.proofs.lemmas.Bool.Decides.{nat_tests}
use Rattle.zbx_types.specs.Bases.{empty_base}
use Rattle.zbx_types.specs.declared.base.Base.{Base}
use Rattle.outside.specs.Causes.{Rose}
use Rattle.outside.specs.Disk.{DiskTells, Only}
use Rattle.intake_journal.specs.Bytes.{entries_bytes}
use Rattle.intake_journal.specs.Kept.{group_behind, with_group, followed, kept_behind, kept_from, kept, base_gate, base_in, first_gate_in, groups_of}
use Rattle.intake_journal.specs.Kept.{Kept}
use Rattle.intake_journal.specs.Kept.Kept.{Fresh, NotOurs, Unfinished, Damaged, Groups}
use Rattle.intake_journal.specs.Next.{ReadsNext}
use Rattle.gated_file.specs.Moments.{IsAsBefore}
use Rattle.intake_journal.specs.Opened.{left_of, IsOpened}
use Rattle.intake_journal.specs.Settled.{Journaled, onto, IsFront}
use Rattle.intake_journal.specs.declared.format.Group.{Group}
use Rattle.intake_journal.specs.declared.state.State.TheVariants.{Reading, Broken}
use Rattle.intake_journal.specs.declared.state.JournalError.{JournalError}
use Rattle.intake_journal.specs.declared.state.JournalError.TheVariants as cause
use Rattle.intake_journal.proofs.Adding.{fresh}
use Rattle.intake_journal.proofs.Behind.{group_lacks}
use Rattle.intake_journal.proofs.Fronts.{onto-push, onto-groups, kept_begun, count_entries-push}
use Rattle.gated_file.proofs.Moments.{if_some, told_of}
use Rattle.server_words.specs.declared.status.Status.{Status}
use Rattle.server_words.specs.declared.status.Status.TheVariants as status
use Rattle.journal_opening.specs.declared.numbering.Numbering.{Numbering}
use Rattle.journal_opening.specs.Recovered.{FoundGroups, journal_bytes, IsNumbered, IsReadSoFar, IsReadThrough, IsRecovered, StopsReading, IsBadFor, IsGoodFor, IsDamaged, IsUnread, status_for}
use Rattle.journal_opening.specs.Replayed.{IsGoodBase}
use Rattle.journal_opening.proofs.Bases.{empty_good}

-- the bytes of a journal with one group more
pub bytes-push : (first : ℕ) (gs : List Group) (g : Group) → journal_bytes first (gs ++ g ∷ []) ≡ journal_bytes first gs + length (entries_bytes g.entries) + 9
bytes-push first [] g = omega arith
bytes-push first (h ∷ gs) g = omega (arith, bytes-push first gs g)

-- what was found of a file, with one group more
pub found_more : (first : ℕ) (o o' : Option (List ℕ)) (groups groups' : List Group) (g : Group) (at at' : ℕ) → o' ≡ o → groups' ≡ groups ++ g ∷ []
    → IfSome o (λ b. kept_from first b ≡ onto groups (kept_from at b)) → IfSome o' (λ b. kept_from at b ≡ with_group g (kept_from at' b))
    → IfSome o (λ b. kept_from first b ≡ onto groups' (kept_from at' b))
found_more first None o' groups groups' g at at' same more found next = tt
found_more first (Some b) o' groups groups' g at at' same more found next =
    let step : kept_from at b ≡ with_group g (kept_from at' b) = told_of o' b (λ b. kept_from at b ≡ with_group g (kept_from at' b)) same next in
    found ∙ ap (onto groups) step ∙ onto-push groups g (kept_from at' b) ∙ ap (λ gs. onto gs (kept_from at' b)) (sym more)

-- and where there is none more
pub found_end : (first : ℕ) (o o' : Option (List ℕ)) (groups : List Group) (at : ℕ) → o' ≡ o
    → IfSome o (λ b. kept_from first b ≡ onto groups (kept_from at b)) → IfSome o' (λ b. kept_from at b ≡ Groups [])
    → IfSome o (λ b. kept_from first b ≡ Groups groups)
found_end first None o' groups at same found next = tt
found_end first (Some b) o' groups at same found next =
    let step : kept_from at b ≡ Groups [] = told_of o' b (λ b. kept_from at b ≡ Groups []) same next in
    found ∙ ap (onto groups) step ∙ onto-groups groups [] ∙ ap Groups (append-nil groups)

onto_damaged : (groups : List Group) (at : ℕ) → onto groups (Damaged at) ≡ Damaged at
onto_damaged [] at = refl
onto_damaged (g ∷ gs) at = ap (with_group g) (onto_damaged gs at)

not_broken : {A : Type 0} (state : _) → state ≡ Reading → state ≡ Broken → A
not_broken state reading broken = absurd (cc)

-- why reading stops
pub stops : {D : Type 0} (first : ℕ) (o o' : Option (List ℕ)) (groups : List Group) (old new : Journaled D) (e : JournalError) (f0 f1 f2 : ℕ) → o' ≡ o → old.state ≡ Reading
    → IfSome o (λ b. kept_from first b ≡ onto groups (kept_from old.at b)) → ReadsNext o' old new (Err e) → f0 ≤ f1
    → (e ≡ cause.DiskFault → (old.state ≡ Broken) ⊎ Rose f1 f2) → StopsReading first o f0 f2 (status_for e)
stops first None o' groups old new (cause.Damaged at) f0 f1 f2 same reading found next later fault = tt
stops first (Some b) o' groups old new (cause.Damaged at) f0 f1 f2 same reading found next later fault =
    let step : kept_from old.at b ≡ Damaged at = told_of o' b (λ b. kept_from old.at b ≡ Damaged at) same next.2 in
    found ∙ ap (onto groups) step ∙ onto_damaged groups at
stops first o o' groups old new cause.OutOfMemory f0 f1 f2 same reading found next later fault = tt
stops first o o' groups old new cause.NotOurs f0 f1 f2 same reading found none later fault = absurd none
stops first o o' groups old new cause.Unfinished f0 f1 f2 same reading found none later fault = absurd none
stops first o o' groups old new cause.DiskFault f0 f1 f2 same reading found next later fault = goes (fault refl)
  where
    goes : (old.state ≡ Broken) ⊎ Rose f1 f2 → Rose f0 f2
    goes (inl broken) = not_broken old.state reading broken
    goes (inr up) = omega (arith, up, later)

-- a file of one gate keeps no groups
no_group : (gate : ℕ) (gs : List Group) → kept_behind 0 8 (gate ∷ []) ≡ Groups gs → gs ≡ []
unfolding kept_behind
no_group gate gs is = by_gate (gate == 1) (group_behind 8 []) (group_lacks 8 [] (omega arith)) is
  where
    nothing : (gs hs : List Group) → Groups gs ≡ Groups hs → hs ≡ gs
    nothing gs hs is = cc

    by_gate : (is_open : Bool) (o : _) → o ≡ None → (if is_open then followed 8 (λ skipped. kept_behind skipped 9 []) o else Groups []) ≡ Groups gs → gs ≡ []
    by_gate true None none is = absurd (cc)
    by_gate true (Some g) none is = absurd (cc)
    by_gate false o none is = nothing [] gs is

one_byte : (l : List ℕ) (gs : List Group) → length l ≡ 1 → kept_behind 0 8 l ≡ Groups gs → gs ≡ []
one_byte [] gs long is = absurd (omega arith)
one_byte (gate ∷ []) gs long is = no_group gate gs is
one_byte (gate ∷ x ∷ xs) gs long is = absurd (omega (arith, long))

le_or_more : (n m : ℕ) → (n ≤ m) ⊎ (m < n)
le_or_more n m = by (nat_le n m) refl
  where
    by : (b : Bool) → nat_le n m ≡ b → (n ≤ m) ⊎ (m < n)
    by true is = inl (grind (arith, nat_tests))
    by false is = inr (grind (arith, nat_tests))

-- a front with what stands behind it begins as the front does, so its groups are read from the first gate on
kept_front : (file : List ℕ) (first : ℕ) (groups : List Group) → IsFront first groups (take first file) → first < length file → 9 < length file → kept file ≡ kept_from first file
kept_front file first groups front gate long = go (drop first file) refl (omega (arith, length-drop first file, gate))
  where
    go : (rest : List ℕ) → drop first file ≡ rest → 0 < length rest → kept file ≡ kept_from first file
    go [] is some = absurd (omega arith)
    go (byte ∷ rest) is some =
        let whole : take first file ++ byte ∷ rest ≡ file = ap (λ l. take first file ++ l) (sym is) ∙ take-append-drop first file in
        let size = ap (λ (l : List ℕ). length l) whole in
        subst (λ (f : List ℕ). kept f ≡ kept_from first f) whole
        (kept_begun (take first file ++ byte ∷ rest) first front.base (omega (arith, size, long)) (front.begins byte rest))

-- what a journal keeps that was opened and read through
pub keeps_read : (disk : DiskTells) (b c : List ℕ) (first : ℕ) (gs : List Group) → IsOpened disk first b c → kept_from first c ≡ Groups gs → groups_of (kept c) ≡ Some gs
keeps_read disk b c first gs opened is = by_length (le_or_more (length c) 9)
  where
    by_length : (length c ≤ 9) ⊎ (9 < length c) → groups_of (kept c) ≡ Some gs
    by_length (inl short) =
        let place : first ≡ 8 = omega (arith, opened.front.behind, opened.gate, short) in
        let none : gs ≡ [] = one_byte (drop 8 c) gs (omega (arith, length-drop 8 c, short, opened.gate, place)) (sym (ap (λ (n : ℕ). kept_from n c) place) ∙ is) in
        ap groups_of (fresh c short) ∙ ap Some (sym none)
    by_length (inr long) = ap groups_of (kept_front c first [] opened.front opened.gate long ∙ is)

left_groups : (k : Kept) (gs : List Group) → left_of k ≡ Groups gs → groups_of k ≡ Some gs
left_groups Fresh gs is = ap groups_of is
left_groups NotOurs gs is = absurd (cc)
left_groups Unfinished gs is = absurd (cc)
left_groups (Damaged at) gs is = absurd (cc)
left_groups (Groups hs) gs is = ap groups_of is

-- nothing is read yet
pub begins_reading : {D : Type 0} (tells : D → DiskTells) (journal : Journaled D) (numbering : Numbering) → journal.at ≡ journal.first → journal.entries ≡ 0
    → IsNumbered journal.base [] numbering → IsReadSoFar tells journal journal numbering
begins_reading tells journal numbering first none numbered = record {
  groups = [];
  base = refl;
  numbered = numbered;
  count = none;
  size = omega (arith, first);
  limits = (refl, refl);
  found = here (tells journal.disk).bytes;
}
  where
    here : (o : Option (List ℕ)) → IfSome o (λ b. kept_from journal.first b ≡ kept_from journal.at b)
    here None = tt
    here (Some b) = ap (λ at. kept_from at b) (sym first)

-- one group more
pub reads_more : {D : Type 0} (tells : D → DiskTells) (first old new : Journaled D) (read more : Numbering) (group : Group) → (tells old.disk).bytes ≡ (tells first.disk).bytes
    → IsReadSoFar tells first old read → ReadsNext (tells old.disk).bytes old new (Ok (Some group)) → new.at ≡ old.at + length (entries_bytes group.entries) + 9
    → ((base : Base) (groups : List Group) → IsNumbered base groups read → IsNumbered base (groups ++ group ∷ []) more) → IsReadSoFar tells first new more
reads_more tells first old new read more group same r next place adds = record {
  groups = r.groups ++ group ∷ [];
  base = ap (λ (j : Journaled _). j.base) next.0 ∙ r.base;
  numbered = adds first.base r.groups r.numbered;
  count = ap (λ (j : Journaled _). j.entries) next.0 ∙ ap (λ n. n + length group.entries) r.count ∙ sym (count_entries-push r.groups group);
  size = omega (arith, place, r.size, bytes-push first.first r.groups group);
  limits = (ap (λ (j : Journaled _). j.max_entries) next.0 ∙ r.limits.0, ap (λ (j : Journaled _). j.max_bytes) next.0 ∙ r.limits.1);
  found = found_more first.first (tells first.disk).bytes (tells old.disk).bytes r.groups (r.groups ++ group ∷ []) group old.at new.at same refl r.found next.2;
}

-- and none more
pub reads_all : {D : Type 0} (tells : D → DiskTells) (first old new : Journaled D) (read : Numbering) → (tells old.disk).bytes ≡ (tells first.disk).bytes
    → IsReadSoFar tells first old read → ReadsNext (tells old.disk).bytes old new (Ok None) → IsReadThrough tells first new read
reads_all tells first old new read same r next = record {
  groups = r.groups;
  base = ap (λ (j : Journaled _). j.base) next.0 ∙ r.base;
  numbered = r.numbered;
  ready = ap (λ (j : Journaled _). j.state) next.0;
  count = ap (λ (j : Journaled _). j.entries) next.0 ∙ r.count;
  size = ap (λ (j : Journaled _). j.at + 1) next.0 ∙ r.size;
  limits = (ap (λ (j : Journaled _). j.max_entries) next.0 ∙ r.limits.0, ap (λ (j : Journaled _). j.max_bytes) next.0 ∙ r.limits.1);
  found = found_end first.first (tells first.disk).bytes (tells old.disk).bytes r.groups old.at same r.found next.1;
}

-- what an opened journal of a disk knows of its file, as it was and as it is
record IsOpenedOf (old now : Option (List ℕ)) (disk : DiskTells) (first : ℕ) (base : Base) : Type 0 where
  told : is_some now ≡ is_some old
  opened : IfSome old (λ b. IfSome now (λ c. IsOpened disk first b c))
  base_is : IfSome old (λ b. base ≡ base_in b)
  place : IfSome old (λ b. first ≡ first_gate_in b)

-- what was read of it is what it kept before
found_opened : (old now : Option (List ℕ)) (disk : DiskTells) (first : ℕ) (base : Base) (groups : List Group) → IsOpenedOf old now disk first base → IfSome now (λ c. kept_from first c ≡ Groups groups)
    → FoundGroups old (record { base = base; first = first; groups = groups })
found_opened None now disk first base groups is found = tt
found_opened (Some b) None disk first base groups is found = absurd (true≢false (sym is.told))
found_opened (Some b) (Some c) disk first base groups is found = (sym is.base_is, sym is.place, left_groups (kept b) groups (sym is.opened.left ∙ found))

-- and what it keeps now
keeps_opened : (old now : Option (List ℕ)) (disk : DiskTells) (first : ℕ) (base : Base) (groups : List Group) → IsOpenedOf old now disk first base → IfSome now (λ c. kept_from first c ≡ Groups groups)
    → IfSome now (λ c. (base_in c ≡ base) × (groups_of (kept c) ≡ Some groups))
keeps_opened old None disk first base groups is found = tt
keeps_opened None (Some c) disk first base groups is found = absurd (true≢false is.told)
keeps_opened (Some b) (Some c) disk first base groups is found = (is.opened.same_base ∙ sym is.base_is, keeps_read disk b c first groups is.opened found)

durable_opened : (old now : Option (List ℕ)) (disk : DiskTells) (first : ℕ) (base : Base) → IsOpenedOf old now disk first base → IfSome now (λ c. Only c disk)
durable_opened old None disk first base is = tt
durable_opened None (Some c) disk first base is = absurd (true≢false is.told)
durable_opened (Some b) (Some c) disk first base is = is.opened.durable

-- ---- why one isn't recovered

-- a run can begin with no base
pub good_none : IsGoodBase empty_base
good_none = (empty_good empty_base [] refl (λ e. refl)).0

-- it couldn't be opened
pub unread_opening : (file : Option (List ℕ)) (f0 f1 : ℕ) (e : JournalError) → (e ≡ cause.NotOurs → IfSome file (λ b. kept b ≡ NotOurs)) → (e ≡ cause.Unfinished → IfSome file (λ b. kept b ≡ Unfinished))
    → ((at : ℕ) → e ≡ cause.Damaged at → IfSome file (λ b. kept b ≡ Damaged at)) → ((at : ℕ) → e ≡ cause.Damaged at → IfSome file (λ b. base_in b ≡ empty_base)) → (e ≡ cause.DiskFault → Rose f0 f1) → IsUnread file f0 f1 (status_for e)
unread_opening file f0 f1 cause.NotOurs not_ours unfinished damaged none fault = not_ours refl
unread_opening file f0 f1 cause.Unfinished not_ours unfinished damaged none fault = unfinished refl
unread_opening None f0 f1 (cause.Damaged at) not_ours unfinished damaged none fault = tt
unread_opening (Some b) f0 f1 (cause.Damaged at) not_ours unfinished damaged none fault = inl (damaged at refl, subst IsGoodBase (sym (none at refl)) good_none)
unread_opening file f0 f1 cause.DiskFault not_ours unfinished damaged none fault = fault refl
unread_opening file f0 f1 cause.OutOfMemory not_ours unfinished damaged none fault = tt

-- reading ends so where a run can begin with the base
pub still_good : {T : Type 0} (base : Base) (r : Result T Status) (Stops : Status → Type 0) → IsGoodBase base → IfErr r Stops → IfErr r (λ s. IsBadFor base s ⊎ (Stops s × IsGoodFor base s))
still_good base (Ok x) Stops good why = tt
still_good base (Err s) Stops good why = inr (why, inl good)

left_damaged : (k : Kept) (at : ℕ) → left_of k ≡ Damaged at → k ≡ Damaged at
left_damaged Fresh at is = absurd (cc)
left_damaged NotOurs at is = absurd (cc)
left_damaged Unfinished at is = absurd (cc)
left_damaged (Damaged place) at is = is
left_damaged (Groups gs) at is = absurd (cc)

damaged_opened : (old now : Option (List ℕ)) (disk : DiskTells) (first : ℕ) (base : Base) (at : ℕ) → IsGoodBase base → IsOpenedOf old now disk first base → IfSome now (λ c. kept_from first c ≡ Damaged at) → IfSome old (λ b. IsDamaged b at)
damaged_opened None now disk first base at good is damaged = tt
damaged_opened (Some b) None disk first base at good is damaged = absurd (true≢false (sym is.told))
damaged_opened (Some b) (Some c) disk first base at good is damaged = inl (left_damaged (kept b) at (sym is.opened.left ∙ damaged), subst IsGoodBase is.base_is good)

bad_opened : (old : Option (List ℕ)) (base : Base) → IfSome old (λ b. base ≡ base_in b) → ¬ (IsGoodBase base) → IfSome old (λ b. IsDamaged b base_gate)
bad_opened None base is bad = tt
bad_opened (Some b) base is bad = inr (refl, λ good. bad (subst IsGoodBase (sym is) good))

stopped_unread : (old now : Option (List ℕ)) (disk : DiskTells) (first : ℕ) (base : Base) (f0 f1 f2 : ℕ) (s : Status) → IsOpenedOf old now disk first base → f0 ≤ f1 → StopsReading first now f1 f2 s → IsGoodFor base s → IsUnread old f0 f2 s
stopped_unread old now disk first base f0 f1 f2 (status.Damaged at) is later stopped (inl good) = damaged_opened old now disk first base at good is stopped
stopped_unread old now disk first base f0 f1 f2 (status.Damaged at) is later stopped (inr spent) = absurd (cc)
stopped_unread old now disk first base f0 f1 f2 status.DiskFault is later stopped good = omega (arith, later, stopped)
stopped_unread old now disk first base f0 f1 f2 status.OutOfMemory is later stopped good = tt
stopped_unread old now disk first base f0 f1 f2 _ is later none good = absurd none

module _ {D : Type 0} (tells : D → DiskTells) (disk : D) (old new : Journaled D) (told : is_some (tells old.disk).bytes ≡ is_some (tells disk).bytes)
    (opened : IfSome (tells disk).bytes (λ b. IfSome (tells old.disk).bytes (λ c. IsOpened (tells old.disk) old.first b c))) (base : IfSome (tells disk).bytes (λ b. old.base ≡ base_in b))
    (place : IfSome (tells disk).bytes (λ b. old.first ≡ first_gate_in b)) (before : IsAsBefore (tells old.disk) (tells new.disk)) where
  all : IsOpenedOf (tells disk).bytes (tells old.disk).bytes (tells old.disk) old.first old.base
  all = record { told = told; opened = opened; base_is = base; place = place }

  -- a journal that was opened and read through
  pub is_recovered : (numbering : Numbering) → IsGoodBase old.base → IsReadThrough tells old new numbering → IsRecovered tells disk new numbering
  is_recovered numbering good read = record {
    found = record { base = old.base; first = old.first; groups = read.groups };
    finds = found_opened (tells disk).bytes (tells old.disk).bytes (tells old.disk) old.first old.base read.groups all read.found;
    good = good;
    numbered = read.numbered;
    has = record {
      ready = read.ready;
      base = read.base;
      count = read.count;
      size = read.size;
      keeps = if_some (tells new.disk).bytes (λ c. (base_in c ≡ old.base) × (groups_of (kept c) ≡ Some read.groups)) (λ c is.
          told_of (tells old.disk).bytes c (λ c. (base_in c ≡ old.base) × (groups_of (kept c) ≡ Some read.groups)) (sym before.same ∙ is)
          (keeps_opened (tells disk).bytes (tells old.disk).bytes (tells old.disk) old.first old.base read.groups all read.found));
      durable = if_some (tells new.disk).bytes (λ c. Only c (tells new.disk)) (λ c is d now.
          told_of (tells old.disk).bytes c (λ c. Only c (tells old.disk)) (sym before.same ∙ is)
          (durable_opened (tells disk).bytes (tells old.disk).bytes (tells old.disk) old.first old.base all) d (before.no_others d now));
    };
  }

  -- or one that couldn't be read, or with whose base no run can begin
  pub unread_reading : (s : Status) → (tells disk).faults ≤ (tells old.disk).faults
      → IsBadFor old.base s ⊎ (StopsReading old.first (tells old.disk).bytes (tells old.disk).faults (tells new.disk).faults s × IsGoodFor old.base s) → IsUnread (tells disk).bytes (tells disk).faults (tells new.disk).faults s
  unread_reading s later (inl bad) = subst (IsUnread (tells disk).bytes (tells disk).faults (tells new.disk).faults) (sym bad.0) (bad_opened (tells disk).bytes old.base base bad.1)
  unread_reading s later (inr stopped) =
      stopped_unread (tells disk).bytes (tells old.disk).bytes (tells old.disk) old.first old.base (tells disk).faults (tells old.disk).faults (tells new.disk).faults s all later stopped.0 stopped.1
