-- Laws of what a run goes on with behind what its journal keeps.
use Rattle.std.proofs.Common.{◌≡◌, ◌⊎◌, ℕ, ◌+◌, ◌-◌, ◌^◌, ◌≤◌, ◌<◌, min, List, [], ◌∷◌, length, map, reverse, get_or, Option, Some, None, Ok, Contains, refl, sym, ap, ap₂, ◌∙◌, subst, arith, inl, inr, append-nil, length-append}
use Rattle.std.specs.Prelude.{◌≢◌, IfSome, is_some, IsTrue, nat_lt, ◌||◌, unwrap_or}
use Rattle.std.specs.Result.{result_ok}
use Rattle.std.proofs.lemmas.List.{length-map, get_or-map}
use Rattle.std.proofs.lemmas.List.Elements.{All-contains, Contains-get_or}
use Rattle.std.specs.List.{flat_map}
use Rattle.std.specs.Option.{option_map}
use Rattle.std.proofs.lemmas.List.Concat.{flat_map-cons}
use Rattle.zbx_types.specs.declared.base.Base.{Base}
use Rattle.zbx_types.specs.declared.conf.Conf.{Conf}
use Rattle.zbx_types.specs.declared.entries.Entry.{Entry}
use Rattle.zbx_types.specs.declared.entries.Numbered.{Numbered}
use Rattle.outside.specs.Causes.{Rose}
use Rattle.outside.specs.Tells.{SinkTells}
use Rattle.outside.specs.Disk.{DiskTells, LeavesOnly}
use Rattle.intake_journal.specs.Based.{most_counted}
use Rattle.intake_journal.specs.Block.{entries_with_all, bytes_with_all, passes_with_all, opened_bytes}
use Rattle.intake_journal.specs.Kept.{longest_journal, Kept, base_in, kept, groups_of}
use Rattle.intake_journal.specs.Kept.Kept.{NotOurs, Unfinished, Damaged}
use Rattle.intake_journal.specs.Settled.{Journaled, KeepsAsOneOf, count_entries}
use Rattle.intake_journal.specs.declared.format.Group.{Group}
use Rattle.intake_journal.proofs.Blocks.{opened_length}
use Rattle.intake_journal.proofs.Openings.{and_then}
use Rattle.config_templates.specs.Flat.{flat_of}
use Rattle.entry_laws.specs.InForce.{FitsLog, IsFull, texts_on}
use Rattle.entry_step.specs.Log.{log_of}
use Rattle.entry_step.specs.Start.{Start, no_conf}
use Rattle.intake_front.specs.Intake.{Intake, numbered_from, with_group, bytes_with, opening_group, resumed_with, start, IsSound}
use Rattle.intake_front.proofs.Journals.{keeps_by}
use Rattle.intake_front.proofs.Numbers.{length_numbered}
use Rattle.pattern_set.specs.Patterns.{IsNoPattern}
use Rattle.intake_front.specs.Fronted.{Fronted, numbered_of, kept_entries, Keeps, KeepsEither, HasJournaled, IsKept, IsReady}
use Rattle.intake_front.specs.Batch.{IsIdle}
use Rattle.intake_front.specs.Standing.{StandsFor}
use Rattle.intake_front.specs.declared.answer.FrontError.{FrontError}
use Rattle.intake_front.specs.declared.answer.FrontError.TheVariants as front
use Rattle.base_laws.specs.Grounds.{start_of}
use Rattle.server_words.specs.declared.status.Status.{Status}
use Rattle.server_words.specs.declared.status.Status.TheVariants as status
use Rattle.journal_opening.specs.Recovered.{Found, FoundGroups, found_entries, IsNumbered, HasGroups, IsRecovered, IsDamaged, IsUnread, GoesOn}
use Rattle.journal_opening.specs.declared.numbering.Numbering.{Numbering}
use Rattle.journal_opening.specs.Opening.{IsRejected, IsAccepted, HasRoomAtOpening, KeptText, BeginningEntries, FoundEntries, opening_intake, opening_entries}
use Rattle.journal_opening.specs.Replayed.{flat, IsFlat, IsGoodBase}
use Rattle.journal_opening.specs.Epochs.{AreUnready}
use Rattle.journal_opening.specs.Patterns.{IsFlawedAt, HasFlawAt, HoldsBrace}
use Rattle.journal_opening.specs.Reasons.{reason_of, FillsUp, Unopened, HasKept, has_for, enters_for}
use Rattle.journal_opening.specs.Resumed.{status_for, TurnedAway, IsTakenUp, HasBegun}
use Rattle.journal_opening.specs.Journals.{KeepsSome, IsEither}
use Rattle.journal_opening.proofs.Bases.{stands_of, few_of}
use Rattle.journal_opening.proofs.Judging.{confs_kept}
use Rattle.journal_opening.proofs.Logs.{onto, onto_reverse}
use Rattle.journal_opening.proofs.Leaving.{leaves_more, rose_since}

-- ---- entries of groups

entries_count : (groups : List Group) → length (flat_map (λ (g : Group). g.entries) groups) ≡ count_entries groups
entries_count [] = refl
entries_count (g ∷ gs) =
    let parts = ap (λ (l : List Entry). length l) (flat_map-cons (λ (h : Group). h.entries) g gs) in
    omega (arith, parts, length-append g.entries (flat_map (λ (h : Group). h.entries) gs), entries_count gs)

-- how many there are
pub count_numbered : (number : ℕ) (groups : List Group) → count_entries groups ≡ length (numbered_of number groups)
count_numbered number groups = sym (length_numbered (number + 1) (flat_map (λ (g : Group). g.entries) groups) ∙ entries_count groups)

full_onto : (ground : Start) (log : List Numbered) (es : List Entry) (n : ℕ) → n ≡ ground.number + length log + 1 → IsFull ground log → IsFull ground (onto log (numbered_from n es))
full_onto ground log [] n is full = full
full_onto ground log (e ∷ es) n is full = full_onto ground (record { number = n; entry = e } ∷ log) es (n + 1) (omega (arith, is)) (full, is)

-- they are a full log
pub full_numbered : (ground : Start) (groups : List Group) → IsFull ground (log_of (numbered_of ground.number groups))
full_numbered ground groups =
    let es = flat_map (λ (g : Group). g.entries) groups in
    let first = ground.number + 1 in
    subst (IsFull ground) (onto_reverse [] (numbered_from first es) ∙ append-nil (reverse (numbered_from first es))) (full_onto ground [] es first (omega arith) tt)

-- ---- a journal of what was found

module _ {D : Type 0} (tells : D → DiskTells) (journal : Journaled D) (found : Found) (has : HasGroups tells journal found) where
  keeps_found : (o : Option (List ℕ)) → IfSome o (λ c. (base_in c ≡ found.base) × (groups_of (kept c) ≡ Some found.groups)) → IfSome o (Keeps found.base (found_entries found))
  keeps_found None is = tt
  keeps_found (Some b) is = keeps_by found.base (found_entries found) b is.0 (ap (option_map (numbered_of found.base.number)) is.1)

  -- it has the entries
  pub has_journaled : (entries : List Numbered) → entries ≡ found_entries found → HasJournaled tells journal entries (journal.at + 1)
  has_journaled entries is = subst (λ es. HasJournaled tells journal es (journal.at + 1)) (sym is) (record {
    count = has.count ∙ count_numbered found.base.number found.groups;
    size_is = refl;
    keeps = subst (λ (k : Base). IfSome (tells journal.disk).bytes (Keeps k (found_entries found))) (sym has.base) (keeps_found (tells journal.disk).bytes has.keeps);
    durable = has.durable;
  })

  -- behind a number that can be counted on
  pub has_counted : IsGoodBase found.base → journal.base.number ≤ most_counted
  has_counted good = subst (λ (k : Base). k.number ≤ most_counted) (sym has.base) (few_of found.base good)

-- ---- what a run has of a journal

-- all that a file keeps, where this was found of it
has_kept : (file : Option (List ℕ)) (found : Found) (entries : List Numbered) → FoundGroups file found → entries ≡ found_entries found → IfSome file (λ b. HasKept b entries)
has_kept None found entries finds is = tt
has_kept (Some b) found entries finds is =
    let there : kept_entries b ≡ Some (found_entries found) = ap₂ (λ (k : Base) (o : Option (List Group)). option_map (numbered_of k.number) o) finds.0 finds.2 in
    inl (is ∙ sym (ap (λ (o : Option (List Numbered)). unwrap_or o []) there))

-- and nothing of one that has none
none_kept : (file : Option (List ℕ)) (k : Kept) → groups_of k ≡ None → IfSome file (λ b. kept b ≡ k) → IfSome file (λ b. HasKept b [])
none_kept None k none is = tt
none_kept (Some b) k none is = inl (sym (ap (λ (o : Option (List Group)). unwrap_or (option_map (numbered_of (base_in b).number) o) []) (ap groups_of is ∙ none)))

none_damaged : (file : Option (List ℕ)) (at : ℕ) → IfSome file (λ b. IsDamaged b at) → IfSome file (λ b. HasKept b [])
none_damaged None at is = tt
none_damaged (Some b) at (inl is) = none_kept (Some b) (Damaged at) refl is.0
none_damaged (Some b) at (inr bad) = inr (refl, bad.1)

-- a disk that was gone on with has no more entries, whatever else it might have
none_more : (old new : DiskTells) (A : List Numbered → Type 0) → GoesOn old new → IfSome old.bytes (λ b. LeavesOnly old new (λ c. KeepsAsOneOf old c ⊎ KeepsSome (base_in b) A c))
none_more old new A on = more old.bytes on.moments
  where
    more : (o : Option (List ℕ)) → IfSome o (λ _. LeavesOnly old new (KeepsAsOneOf old)) → IfSome o (λ b. LeavesOnly old new (λ c. KeepsAsOneOf old c ⊎ KeepsSome (base_in b) A c))
    more None l = tt
    more (Some b) l = leaves_more old new _ _ (λ c k. inl k) l

-- ---- what is begun behind it

-- a group that has entries is behind those that were there
resumed_entries : (base : Base) (kept : List Numbered) (bytes : ℕ) (g : List Entry) → g ≢ [] → (resumed_with base kept bytes g).entries ≡ with_group base.number kept g
resumed_entries base kept bytes [] some = absurd (some refl)
resumed_entries base kept bytes (e ∷ es) some = refl

resumed_bytes : (base : Base) (kept : List Numbered) (bytes : ℕ) (g : List Entry) → g ≢ [] → (resumed_with base kept bytes g).bytes ≡ bytes_with bytes g
resumed_bytes base kept bytes [] some = absurd (some refl)
resumed_bytes base kept bytes (e ∷ es) some = refl

-- a text that is accepted stands for its configuration
pub flat_is : (text : List ℕ) (conf : Conf) → flat_of text ≡ Ok conf → flat text ≡ conf
flat_is text conf is = ap (λ r. unwrap_or (result_ok r) no_conf) is

module _ {D : Type 0} (tells : D → DiskTells)
    (conf : Conf) (most : ℕ) (old : D) (journal : Journaled D) (kept : List Numbered) (confs : List Conf) (t : IsTakenUp tells most old journal kept confs) where
  abbrev base : Base
  base = journal.base

  abbrev begins : List Numbered
  begins = (start base conf.text kept (journal.at + 1)).entries

  -- the group with which the run goes on
  abbrev group : List Entry
  group = opening_group base conf.text kept

  same_intake : start base conf.text kept (journal.at + 1) ≡ opening_intake conf t.found
  same_intake = ap (λ (k : Base). start k conf.text kept (journal.at + 1)) t.has.base ∙ ap₂ (start t.found.base conf.text) t.kept_are t.has.size

  same_group : group ≡ opening_group t.found.base conf.text (found_entries t.found)
  same_group = ap (λ (k : Base). opening_group k conf.text kept) t.has.base ∙ ap (opening_group t.found.base conf.text) t.kept_are

  -- a crash up to there
  left_so_far : (new : D) (A : List Numbered → Type 0) → A (found_entries t.found) → A (opening_entries conf t.found)
      → IfSome (tells journal.disk).bytes (λ _. LeavesOnly (tells journal.disk) (tells new) (KeepsEither base kept begins))
      → IfSome (tells old).bytes (λ _. LeavesOnly (tells old) (tells new) (λ c. KeepsAsOneOf (tells old) c ⊎ KeepsSome t.found.base A c))
  left_so_far new A of_kept of_begun left = joined (tells old).bytes (tells journal.disk).bytes t.goes_on.told t.goes_on.moments left
    where
      own : (es : List Numbered) (c : List ℕ) → Keeps base es c → Keeps t.found.base es c
      own es c keeps = subst (λ (k : Base). Keeps k es c) t.has.base keeps

      among : (c : List ℕ) → KeepsEither base kept begins c → KeepsAsOneOf (tells old) c ⊎ KeepsSome t.found.base A c
      among c (inl keeps) = inr (found_entries t.found, of_kept, own (found_entries t.found) c (subst (λ es. Keeps base es c) t.kept_are keeps))
      among c (inr keeps) = inr (opening_entries conf t.found, of_begun, own (opening_entries conf t.found) c (subst (λ es. Keeps base es c) (ap (λ (i : Intake). i.entries) same_intake) keeps))

      joined : (o o' : Option (List ℕ)) → is_some o' ≡ is_some o → IfSome o (λ _. LeavesOnly (tells old) (tells journal.disk) (KeepsAsOneOf (tells old)))
          → IfSome o' (λ _. LeavesOnly (tells journal.disk) (tells new) (KeepsEither base kept begins)) → IfSome o (λ _. LeavesOnly (tells old) (tells new) (λ c. KeepsAsOneOf (tells old) c ⊎ KeepsSome t.found.base A c))
      joined None o' told l l' = tt
      joined (Some b) None told l l' = absurd (cc)
      joined (Some b) (Some b') told l l' = and_then (tells old) (tells journal.disk) (tells new) (λ c. KeepsAsOneOf (tells old) c ⊎ KeepsSome t.found.base A c) (KeepsEither base kept begins) (leaves_more (tells old) (tells journal.disk) _ _ (λ c k. inl k) l) l' among

  -- with the group the journal would have the entries and the bytes of the intake
  entries_same : group ≢ [] → entries_with_all journal (group ∷ []) ≡ length (opening_intake conf t.found).entries
  entries_same some =
      let are : begins ≡ with_group base.number kept group = resumed_entries base kept (journal.at + 1) group some in
      let first = base.number + length kept + 1 in
      let long : length begins ≡ length kept + length group = ap (λ (l : List Numbered). length l) are ∙ length-append kept (numbered_from first group) ∙ ap (λ n. length kept + n) (length_numbered first group) in
      let count : journal.entries ≡ length kept = t.has.count ∙ count_numbered t.found.base.number t.found.groups ∙ ap (λ (l : List Numbered). length l) (sym t.kept_are) in
      omega (arith, long, count) ∙ ap (λ (i : Intake). length i.entries) same_intake

  bytes_same : group ≢ [] → bytes_with_all journal (group ∷ []) ≡ min (opening_intake conf t.found).bytes (2 ^ 64 - 1)
  bytes_same some =
      let are : (start base conf.text kept (journal.at + 1)).bytes ≡ bytes_with (journal.at + 1) group = resumed_bytes base kept (journal.at + 1) group some in
      let long = opened_length group [] in
      let all : journal.at + length (opened_bytes (group ∷ [])) + 1 ≡ (start base conf.text kept (journal.at + 1)).bytes = omega (arith, are, long) in
      ap (λ n. min n (2 ^ 64 - 1)) (all ∙ ap (λ (i : Intake). i.bytes) same_intake)

  passes_same : group ≢ []
      → passes_with_all journal (group ∷ []) ≡ (nat_lt most (length (opening_intake conf t.found).entries) || nat_lt longest_journal (min (opening_intake conf t.found).bytes (2 ^ 64 - 1)))
  passes_same some =
      ap (λ n. nat_lt n (entries_with_all journal (group ∷ [])) || nat_lt journal.max_bytes (bytes_with_all journal (group ∷ []))) t.limits.0
      ∙ ap (λ n. nat_lt most (entries_with_all journal (group ∷ [])) || nat_lt n (bytes_with_all journal (group ∷ []))) t.limits.1
      ∙ ap (λ n. nat_lt most n || nat_lt longest_journal (bytes_with_all journal (group ∷ []))) (entries_same some)
      ∙ ap (λ n. nat_lt most (length (opening_intake conf t.found).entries) || nat_lt longest_journal n) (bytes_same some)

  -- it is full where the journal would pass a limit
  fills_up : (entries count : ℕ) → group ≢ [] → IsTrue (passes_with_all journal (group ∷ [])) → entries ≡ entries_with_all journal (group ∷ []) → count ≡ bytes_with_all journal (group ∷ [])
      → FillsUp conf most (tells old).bytes entries count
  fills_up entries count some passes is_entries is_bytes =
      let e = is_entries ∙ entries_same some in
      let b = is_bytes ∙ bytes_same some in (
        t.found,
        t.finds,
        t.accepted,
        (
          λ none. some (same_group ∙ none),
          e,
          b,
          subst (λ n. IsTrue (nat_lt most n || nat_lt longest_journal count)) (sym e)
              (subst (λ n. IsTrue (nat_lt most (length (opening_intake conf t.found).entries) || nat_lt longest_journal n)) (sym b) (subst IsTrue (passes_same some) passes)),
        ),
      )

  -- and there is room where it wouldn't
  has_room : (group ≢ [] → IsTrue (passes_with_all journal (group ∷ [])) → ⊥) → HasRoomAtOpening most conf t.found
  has_room room entries bytes full =
      let some : group ≢ [] = λ none. full.0 (sym same_group ∙ none) in
      room some
      (subst IsTrue (sym (passes_same some))
      (subst (λ n. IsTrue (nat_lt most n || nat_lt longest_journal (min (opening_intake conf t.found).bytes (2 ^ 64 - 1)))) full.1
      (subst (λ n. IsTrue (nat_lt most entries || nat_lt longest_journal n)) full.2 full.3)))

  -- the groups behind the start are those behind the base
  same_number : (start_of flat t.found.base).number ≡ t.found.base.number
  same_number = (stands_of t.found.base t.accepted.0).number

  full_kept : IsFull (start_of flat t.found.base) (log_of kept)
  full_kept =
      subst (λ es. IsFull (start_of flat t.found.base) (log_of es)) (ap (λ n. numbered_of n t.found.groups) same_number ∙ sym t.kept_are) (full_numbered (start_of flat t.found.base) t.found.groups)

  fits_kept : FitsLog flat (start_of flat t.found.base) (log_of kept)
  fits_kept = subst (λ es. FitsLog flat (start_of flat t.found.base) (log_of es)) (ap (λ n. numbered_of n t.found.groups) same_number ∙ sym t.kept_are) t.accepted.2

  pub has_begun : (made : Fronted D) → made.intake ≡ start base conf.text kept (journal.at + 1)
      → ((ground : Start) → StandsFor flat base ground → IsFull ground (log_of kept) → FitsLog flat ground (log_of kept) → IsSound flat ground conf made.intake)
      → (group ≢ [] → IsTrue (passes_with_all journal (group ∷ [])) → ⊥) → IsIdle made → IsKept (tells made.journal.disk) base made.intake.entries
      → IsReady journal made.journal → made.journal.base ≡ base → (tells journal.disk).faults ≤ (tells made.journal.disk).faults → is_some (tells made.journal.disk).bytes ≡ is_some (tells journal.disk).bytes
      → IfSome (tells journal.disk).bytes (λ _. LeavesOnly (tells journal.disk) (tells made.journal.disk) (KeepsEither base kept begins))
      → HasBegun tells conf most old made
  has_begun made is sound room idle durable ready same later told left =
      let intake_is = is ∙ same_intake in
      let entries_are : made.intake.entries ≡ opening_entries conf t.found = ap (λ (i : Intake). i.entries) intake_is in
      let stands : StandsFor flat base (start_of flat t.found.base) = subst (λ (k : Base). StandsFor flat k (start_of flat t.found.base)) (sym t.has.base) (stands_of t.found.base t.accepted.0) in
      record {
        found = t.found;
        finds = t.finds;
        accepted = t.accepted;
        room = has_room room;
        ready = ready.0;
        base = same ∙ t.has.base;
        limits = (ready.1 ∙ t.limits.0, ready.2 ∙ t.limits.1);
        intake_is = intake_is;
        sound = sound (start_of flat t.found.base) stands full_kept fits_kept;
        idle = idle;
        journaled = record {
          left = left_so_far made.journal.disk (IsEither (found_entries t.found) made.intake.entries) (inl refl) (inr (sym entries_are)) left;
          fault = λ none. absurd (cc);
          kept = λ other. subst (λ (k : Base). IsKept (tells made.journal.disk) k made.intake.entries) t.has.base durable;
          later = omega (arith, t.goes_on.later, later);
          told = told ∙ t.goes_on.told;
        };
      }

  -- a crash left only entries that a status lets in
  abbrev Among : Status → Base → D → Type 0
  Among s k d = LeavesOnly (tells old) (tells d) (λ c. KeepsAsOneOf (tells old) c ⊎ KeepsSome k (enters_for (reason_of s) (FoundEntries (tells old).bytes conf)) c)

  pub turned_at_front : (outbox outbox' : SinkTells) (new : D) (entries : List Numbered) (e : FrontError) → entries ≡ kept
      → ((a b : ℕ) → e ≡ front.Full a b → (group ≢ []) × IsTrue (passes_with_all journal (group ∷ []))
      × (a ≡ entries_with_all journal (group ∷ [])) × (b ≡ bytes_with_all journal (group ∷ [])))
      → (e ≡ front.DiskFault → (group ≢ []) × Rose (tells journal.disk).faults (tells new).faults) → (e ≢ front.DiskFault → new ≡ journal.disk) → (tells journal.disk).faults ≤ (tells new).faults
      → is_some (tells new).bytes ≡ is_some (tells journal.disk).bytes → IfSome (tells journal.disk).bytes (λ _. LeavesOnly (tells journal.disk) (tells new) (KeepsEither base kept begins))
      → TurnedAway conf most (tells old) (tells new) outbox outbox' entries (status_for e)
  turned_at_front outbox outbox' new entries e back full fault same later told left = record {
    told = told ∙ t.goes_on.told;
    later = omega (arith, t.goes_on.later, later);
    why = why e full fault;
    found = found;
    has = has e;
    left = leaves e same;
  }
    where
      why : (e : FrontError)
          → ((a b : ℕ) → e ≡ front.Full a b → (group ≢ []) × IsTrue (passes_with_all journal (group ∷ []))
          × (a ≡ entries_with_all journal (group ∷ [])) × (b ≡ bytes_with_all journal (group ∷ [])))
          → (e ≡ front.DiskFault → (group ≢ []) × Rose (tells journal.disk).faults (tells new).faults) → Unopened conf most (tells old) (tells new) outbox outbox' (status_for e)
      why (front.Full a b) full fault = let f = full a b refl in fills_up a b f.0 f.1 f.2 f.3
      why front.DiskFault full fault = rose_since (tells old).faults (tells journal.disk).faults (tells new).faults t.goes_on.later (fault refl).1
      why front.OutOfMemory full fault = tt

      found : (entries ≡ []) ⊎ FoundEntries (tells old).bytes conf entries
      found = inr (t.found, t.finds, inl (back ∙ t.kept_are))

      has : (e : FrontError) → has_for (reason_of (status_for e)) (tells old).bytes (BeginningEntries (tells old).bytes conf) (FoundEntries (tells old).bytes conf) entries
      has (front.Full a b) = has_kept (tells old).bytes t.found entries t.finds (back ∙ t.kept_are)
      has front.DiskFault = found
      has front.OutOfMemory = found

      -- a crash left some that it found, or, where nothing was written, none but those before
      same_base : (o : Option (List ℕ)) → FoundGroups o t.found → (P : Base → Type 0) → IfSome o (λ _. P t.found.base) → IfSome o (λ b. P (base_in b))
      same_base None finds P is = tt
      same_base (Some b) finds P is = subst P (sym finds.0) is

      some : IfSome (tells old).bytes (λ b. LeavesOnly (tells old) (tells new) (λ c. KeepsAsOneOf (tells old) c ⊎ KeepsSome (base_in b) (FoundEntries (tells old).bytes conf) c))
      some = same_base (tells old).bytes t.finds (λ k. LeavesOnly (tells old) (tells new) (λ c. KeepsAsOneOf (tells old) c ⊎ KeepsSome k (FoundEntries (tells old).bytes conf) c))
          (left_so_far new (FoundEntries (tells old).bytes conf) (t.found, t.finds, inl refl) (t.found, t.finds, inr refl) left)

      leaves : (e : FrontError) → (e ≢ front.DiskFault → new ≡ journal.disk) → IfSome (tells old).bytes (λ b. Among (status_for e) (base_in b) new)
      leaves (front.Full a b) same =
          subst (λ d. IfSome (tells old).bytes (λ l. Among (status.Full a b) (base_in l) d)) (sym (same (λ e. cc)))
          (none_more (tells old) (tells journal.disk) (enters_for (reason_of (status.Full a b)) (FoundEntries (tells old).bytes conf)) t.goes_on)
      leaves front.DiskFault same = some
      leaves front.OutOfMemory same = some

-- ---- a journal that isn't taken up

-- one that couldn't be read
unread_unopened : (conf : Conf) (most : ℕ) (old new : DiskTells) (outbox outbox' : SinkTells) (s : Status) → IsUnread old.bytes old.faults new.faults s → Unopened conf most old new outbox outbox' s
unread_unopened conf most old new outbox outbox' status.NotOurs why = why
unread_unopened conf most old new outbox outbox' status.Unfinished why = why
unread_unopened conf most old new outbox outbox' (status.Damaged at) why = inl why
unread_unopened conf most old new outbox outbox' status.DiskFault why = why
unread_unopened conf most old new outbox outbox' status.OutOfMemory why = tt
unread_unopened conf most old new outbox outbox' _ none = absurd none

-- of which no entries are had
unread_has : (Begins Finds : List Numbered → Type 0) (old new : DiskTells) (s : Status) → IsUnread old.bytes old.faults new.faults s → has_for (reason_of s) old.bytes Begins Finds []
unread_has Begins Finds old new status.NotOurs why = none_kept old.bytes NotOurs refl why
unread_has Begins Finds old new status.Unfinished why = none_kept old.bytes Unfinished refl why
unread_has Begins Finds old new (status.Damaged at) why = none_damaged old.bytes at why
unread_has Begins Finds old new status.DiskFault why = inl refl
unread_has Begins Finds old new status.OutOfMemory why = inl refl
unread_has Begins Finds old new _ none = absurd none

-- or whose groups are rejected: such a status names the journal
rejected_by : (found : Found) (s : Status) (P : Status → Type 0) → ((at : ℕ) → IsRejected found (status.Damaged at) → P (status.Damaged at)) → IsRejected found s → P s
rejected_by found (status.Damaged at) P damaged why = damaged at why
rejected_by found _ P damaged none = absurd none

module _ (conf : Conf) (most : ℕ) (old new : DiskTells) (outbox outbox' : SinkTells) (on : GoesOn old new) where
  turned_back : (entries : List Numbered) (s : Status) → (entries ≡ []) ⊎ FoundEntries old.bytes conf entries
      → has_for (reason_of s) old.bytes (BeginningEntries old.bytes conf) (FoundEntries old.bytes conf) entries → Unopened conf most old new outbox outbox' s → TurnedAway conf most old new outbox outbox' entries s
  turned_back entries s found has why =
      record { told = on.told; later = on.later; why = why; found = found; has = has; left = none_more old new (enters_for (reason_of s) (FoundEntries old.bytes conf)) on }

  pub turned_unread : (s : Status) → IsUnread old.bytes old.faults new.faults s → TurnedAway conf most old new outbox outbox' [] s
  turned_unread s why = turned_back [] s (inl refl) (unread_has _ _ old new s why) (unread_unopened conf most old new outbox outbox' s why)

  pub turned_rejected : (found : Found) (entries : List Numbered) (s : Status) → FoundGroups old.bytes found → IsGoodBase found.base → IsRejected found s → entries ≡ found_entries found
      → TurnedAway conf most old new outbox outbox' entries s
  turned_rejected found entries s finds good why is = turned_back entries s (inr (found, finds, inl is))
      (rejected_by found s (λ t. has_for (reason_of t) old.bytes (BeginningEntries old.bytes conf) (FoundEntries old.bytes conf) entries) (λ at w. has_kept old.bytes found entries finds is) why)
      (rejected_by found s (λ t. Unopened conf most old new outbox outbox' t) (λ at w. inr (found, finds, good, w)) why)

-- a journal that was recovered, of which this is said
pub turned_judged : {D : Type 0} (tells : D → DiskTells) (conf : Conf) (most : ℕ) (old new : D) (outbox outbox' : SinkTells) → GoesOn (tells old) (tells new) → (journal : Journaled D) (numbering : Numbering) (s : Status)
    → IsRecovered tells old journal numbering → ((found : Found) → IsGoodBase found.base → IsNumbered found.base found.groups numbering → IsRejected found s)
    → TurnedAway conf most (tells old) (tells new) outbox outbox' numbering.entries s
turned_judged tells conf most old new outbox outbox' on journal numbering s r why =
    turned_rejected conf most (tells old) (tells new) outbox outbox' on r.found numbering.entries s r.finds r.good (why r.found r.good r.numbered) r.numbered.entries_are

-- one that is taken up
pub taken_up : {D : Type 0} (tells : D → DiskTells) (most : ℕ) (old : D) (journal : Journaled D) (numbering : Numbering)
    → IsRecovered tells old journal numbering → (journal.max_entries ≡ most) × (journal.max_bytes ≡ longest_journal) → GoesOn (tells old) (tells journal.disk)
    → ((found : Found) → IsGoodBase found.base → IsNumbered found.base found.groups numbering → IsAccepted found) → numbering.refused ≡ None → IsTakenUp tells most old journal numbering.entries numbering.confs.items
taken_up tells most old journal numbering r limits on accepted none = record {
  found = r.found;
  finds = r.finds;
  accepted = accepted r.found r.good r.numbered;
  kept_are = r.numbered.entries_are;
  confs_are = confs_kept r.found numbering r.numbered none;
  has = r.has;
  limits = limits;
  goes_on = on;
}

-- ---- configurations that couldn't be made ready

-- one of the configurations of texts is that of one of them
text_among : (texts : List (List ℕ)) (conf : Conf) → Contains (map flat texts) conf → (text : List ℕ) × Contains texts text × (flat text ≡ conf)
text_among texts conf (k, within, is) =
    let few : k < length texts = omega (arith, within, length-map texts flat) in
    let text : List ℕ = get_or texts k [] in
    (text, Contains-get_or texts k [] few, sym (get_or-map flat texts k [] conf few) ∙ is)

-- so a pattern of a kept text has the flaw
pub kept_flawed : (Flaw : List ℕ → Type 0) (path : List ℕ) (file : Option (List ℕ)) (found : Found) (kept : List Numbered) (confs : List Conf) → FoundGroups file found → IsAccepted found → kept ≡ found_entries found
    → confs ≡ map flat (texts_on found.base.text kept) → (conf : Conf) → Contains confs conf → IsFlawedAt Flaw conf path → KeptText file (HasFlawAt Flaw path)
kept_flawed Flaw path file found kept confs finds accepted kept_are confs_are conf among flawed =
    let texts = texts_on found.base.text (found_entries found) in
    let all : confs ≡ map flat texts = confs_are ∙ ap (λ l. map flat (texts_on found.base.text l)) kept_are in
    let text = text_among texts conf (subst (λ l. Contains l conf) all among) in (
      found,
      finds,
      accepted,
      text.0,
      text.1,
      record { conf = conf; conf_is = All-contains IsFlat texts text.0 accepted.1 text.1 ∙ ap Ok text.2; flawed = flawed },
    )

module _ {D : Type 0} (tells : D → DiskTells) (conf : Conf) (most : ℕ) (old : D) (journal : Journaled D) (kept : List Numbered) (confs : List Conf) (t : IsTakenUp tells most old journal kept confs)
    (outbox outbox' : SinkTells) where
  unready_unopened : (new : DiskTells) (s : Status) → AreUnready confs s → Unopened conf most (tells old) new outbox outbox' s
  unready_unopened new status.OutOfMemory why = tt
  unready_unopened new (status.PatternRefused path) why = kept_flawed IsNoPattern path (tells old).bytes t.found kept confs t.finds t.accepted t.kept_are t.confs_are why.0 why.1 why.2
  unready_unopened new (status.PatternTooLarge path) why = kept_flawed HoldsBrace path (tells old).bytes t.found kept confs t.finds t.accepted t.kept_are t.confs_are why.0 why.1 why.2
  unready_unopened new _ why = absurd why.2

  unready_has : (Begins Finds : List Numbered → Type 0) (s : Status) → AreUnready confs s → has_for (reason_of s) (tells old).bytes Begins Finds []
  unready_has Begins Finds status.OutOfMemory why = inl refl
  unready_has Begins Finds (status.PatternRefused path) why = refl
  unready_has Begins Finds (status.PatternTooLarge path) why = refl
  unready_has Begins Finds _ why = absurd why.2

  pub turned_unready : (new : D) (s : Status) → new ≡ journal.disk → AreUnready confs s → TurnedAway conf most (tells old) (tells new) outbox outbox' [] s
  turned_unready new s same why =
      turned_back conf most (tells old) (tells new) outbox outbox' (subst (λ d. GoesOn (tells old) (tells d)) (sym same) t.goes_on) [] s (inl refl) (unready_has _ _ s why) (unready_unopened (tells new) s why)
