-- Laws of how runs begin and end.
use Rattle.std.proofs.Common.{◌≡◌, ◌⊎◌, ⊎_elim, ℕ, List, [], ◌++◌, ◌≤◌, length, refl, sym, ap, ap₂, ◌∙◌, subst, arith, inl, inr}
use Rattle.std.specs.Prelude.{Option, Some, None, Result, Ok, Err, IfSome, IsSome, is_some}
use Rattle.std.specs.Option.{option_to_list}
use Rattle.std.specs.Io.KnownBytes.{IsAtEnd}
use Rattle.std.proofs.KnownBytes.{Consumes-nil}
use Rattle.zbx_types.specs.declared.base.Base.{Base}
use Rattle.zbx_types.specs.declared.conf.Conf.{Conf}
use Rattle.zbx_types.specs.declared.entries.Numbered.{Numbered}
use Rattle.outside.specs.Causes.{Rose}
use Rattle.outside.specs.Disk.{DiskTells, IsLawful, LeavesOnly}
use Rattle.outside.specs.Tells.{SinkTells, WireTells}
use Rattle.outside.specs.declared.event.WireEvent.{WireEvent}
use Rattle.config_templates.specs.Flat.{flat_of}
use Rattle.host_layout.specs.Places.{Flaw, refuse}
use Rattle.host_layout.specs.Places.Flaw.{refused}
use Rattle.zbx_types.specs.declared.causes.Cause.{Cause}
use Rattle.entry_laws.specs.InForce.{conf_behind, behind_all, FitsLog, IsFull}
use Rattle.entry_laws.proofs.InForce.{conf_is_behind}
use Rattle.entry_step.specs.Log.{log_of}
use Rattle.intake_journal.specs.Kept.{base_in}
use Rattle.intake_journal.specs.Settled.{KeepsAsOneOf}
use Rattle.intake_front.specs.Intake.{Limits, Intake, IsSound, last_text}
use Rattle.intake_front.specs.Served.{served}
use Rattle.intake_front.specs.Fronted.{Fronted, Keeps, limits_of}
use Rattle.intake_front.specs.declared.answer.Stop.{Stop}
use Rattle.server_words.specs.declared.words.Plan.{Plan}
use Rattle.server_words.specs.declared.status.Counts.{Counts}
use Rattle.server_words.specs.declared.status.Status.{Status}
use Rattle.server_words.specs.declared.status.Status.TheVariants as status
use Rattle.server_words.specs.Words.{plan_of}
use Rattle.server_words.specs.Printed.{printed_text}
use Rattle.base_laws.specs.Grounds.{start_of}
use Rattle.book_opening.specs.Outgoing.{Grew, GrewByFront, IsMendable}
use Rattle.server_run.specs.Ports.{IsTextUpTo, ReadsUpTo}
use Rattle.pattern_set.specs.Patterns.{IsNoPattern}
use Rattle.journal_opening.specs.Patterns.{HasFlawAt, HoldsBrace}
use Rattle.journal_opening.specs.Recovered.{Found, FoundGroups, found_entries, journal_bytes}
use Rattle.journal_opening.specs.Replayed.{flat, AreFlat, run_lines, run_counts}
use Rattle.journal_opening.specs.Opening.{FoundEntries, OfLines, opening_intake, opening_lines, opening_entries}
use Rattle.journal_opening.specs.Reasons.{Reason, no_reason, in_words, by_memory, by_source, in_text, by_disk, in_journal, by_outbox, in_outbox, reason_of, ends_opening, IsRefusal, names_object, IsBarring, IsUntaken, unconfigured_for, Unconfigured, bars_for, unopened_for, Unopened, has_for, enters_for}
use Rattle.journal_opening.specs.Resumed.{TurnedAway, HasBegun}
use Rattle.server_run.specs.Statuses.{Ending, never, at_closed, at_limit, at_wire_fault, at_disk_fault, at_full, anywhere, at_refusal, course_of, cut_short, IsEnding, IsCourse, IsUnprinted, EndsPrinted, EndsAs, LeftIs}
use Rattle.server_run.specs.Stops.{refusing, IsReached}
use Rattle.journal_opening.specs.Journals.{KeepsSome, IsEither, Journals}
use Rattle.server_run.specs.Events.{Doing}
use Rattle.server_run.specs.Going.{IsOpened, IsHeldBack, IsBookless}
use Rattle.server_run.specs.Outbox.{LinesAre}
use Rattle.journal_opening.specs.Outbox.{IsBehind, IsAhead, IsOther}
use Rattle.server_run.specs.Runs.{Objects, IsConfigured, Refuses, IsBarred, FoundBy, BeginsBy, HasBy, EntersBy, Unbegun, Opened, Finished, Followed, Prints, limits_by}
use Rattle.book_opening.proofs.Growing.{all_front, none_front}
use Rattle.journal_opening.proofs.Bases.{good_ground}
use Rattle.server_run.proofs.Handling.{served_plain, served_sound}
use Rattle.journal_opening.proofs.KeptTexts.{opening_flat, opening_last, flat_on, last_on}
use Rattle.server_run.proofs.Outbox.{lines_printed}
use Rattle.server_run.proofs.Stopping.{journals_on}
use Rattle.journal_opening.proofs.Leaving.{leaves_more}
use Rattle.server_run.proofs.Texts.{text_told, flaw_told, at_end_of}
use Rattle.journal_opening.proofs.Texts.{text_kept}

some_plan : (o : Option Plan) (plan : Plan) → o ≡ Some plan → IsSome o
some_plan o plan is = ap is_some is

-- where a pattern of a text that was read has a flaw, one of the source's has it
flawed_told : (Flaw : List ℕ → Type 0) (path : List ℕ) (source : Option (List ℕ)) (bytes : List ℕ) → IfSome source (λ all. IsTextUpTo 16777216 all bytes) → HasFlawAt Flaw path bytes → IfSome source (HasFlawAt Flaw path)
flawed_told Flaw path None bytes read u = tt
flawed_told Flaw path (Some all) bytes read u = subst (HasFlawAt Flaw path) (text_told (Some all) bytes u.conf read u.conf_is) u

-- a configuration that couldn't be taken
pub unconfigured : (words : List (List ℕ)) (plan : Plan) (source : Option (List ℕ)) (faults faults' : ℕ) (bytes : List ℕ) (s : Status)
    → plan_of words ≡ Some plan → IfSome source (λ all. IsTextUpTo 16777216 all bytes) → IsUntaken bytes s → Unconfigured words source faults faults' s
unconfigured words plan source faults faults' bytes status.OutOfMemory is read spent = tt
unconfigured words plan source faults faults' bytes (status.ConfigRefused path cause) is read flaw =
    (some_plan (plan_of words) plan is, flaw_told source bytes (refused (record { path = path; cause = cause })) read flaw)
unconfigured words plan source faults faults' bytes (status.PatternRefused path) is read flaw = (some_plan (plan_of words) plan is, flawed_told IsNoPattern path source bytes read flaw)
unconfigured words plan source faults faults' bytes (status.PatternTooLarge path) is read flaw = (some_plan (plan_of words) plan is, flawed_told HoldsBrace path source bytes read flaw)
unconfigured words plan source faults faults' bytes _ is read none = absurd none

-- one that was taken
pub is_configured : (words : List (List ℕ)) (plan : Plan) (source source' : Option (List ℕ)) (bytes : List ℕ) (conf : Conf)
    → plan_of words ≡ Some plan → IfSome source (λ all. IsTextUpTo 16777216 all bytes) → (length bytes ≤ 16777216 → IsAtEnd source')
    → flat_of bytes ≡ Ok conf → IsConfigured words source source' plan.turns plan.max_entries conf
is_configured words plan source source' bytes conf is read end found =
    let same = text_kept bytes conf found in
    record {
      plan = plan;
      configured = record {
        plan_is = is;
        text_is = subst (λ t. IfSome source (λ all. t ≡ all)) (sym same) (text_told source bytes conf read found);
        conf_is = ap flat_of same ∙ found;
      };
      turns_are = refl;
      most_is = refl;
      at_end = end (at_end_of bytes conf found);
    }

-- a disk that was left alone
pub left_alone : (A : List Numbered → Type 0) (disk : DiskTells) → IsLawful disk
    → IfSome disk.bytes (λ b. LeavesOnly disk disk (λ c. KeepsAsOneOf disk c ⊎ KeepsSome (base_in b) A c))
left_alone A disk lawful = here disk.bytes
  where
    here : (o : Option (List ℕ)) → IfSome o (λ b. LeavesOnly disk disk (λ c. KeepsAsOneOf disk c ⊎ KeepsSome (base_in b) A c))
    here None = tt
    here (Some b) = record { later = omega arith; each = λ c left. inl (c, lawful.only_now c left, refl, refl); before = λ t c le left. inl left }

-- a run that wasn't configured has no entries
none_had : (r : Reason) (words : List (List ℕ)) (source : Option (List ℕ)) (faults faults' : ℕ) (file : Option (List ℕ)) (Begins Found : List Numbered → Type 0) → unconfigured_for r words source faults faults' → has_for r file Begins Found []
none_had no_reason words source faults faults' file Begins Found none = absurd none
none_had in_words words source faults faults' file Begins Found why = refl
none_had by_memory words source faults faults' file Begins Found why = inl refl
none_had by_source words source faults faults' file Begins Found why = refl
none_had (in_text Is) words source faults faults' file Begins Found why = refl
none_had by_disk words source faults faults' file Begins Found none = absurd none
none_had (in_journal Is) words source faults faults' file Begins Found none = absurd none
none_had by_outbox words source faults faults' file Begins Found none = absurd none
none_had (in_outbox Is) words source faults faults' file Begins Found none = absurd none

pub unbegun_alone : (words : List (List ℕ)) (source source' : Option (List ℕ)) (faults faults' : ℕ) (wire wire' : WireTells) (disk : DiskTells) (outbox outbox' : SinkTells) (s : Status) → IsLawful disk
    → Unconfigured words source faults faults' s
    → Unbegun words (record { source = source; source_faults = faults; wire = wire; disk = disk; outbox = outbox })
    (record { source = source'; source_faults = faults'; wire = wire'; disk = disk; outbox = outbox' }) [] s
unbegun_alone words source source' faults faults' wire wire' disk outbox outbox' s lawful why = record {
  why = inl why;
  told = refl;
  later = omega arith;
  found = inl refl;
  has = none_had (reason_of s) words source faults faults' disk.bytes (BeginsBy words source disk.bytes) (FoundBy words source disk.bytes) why;
  left = left_alone (EntersBy words source disk.bytes s) disk lawful;
}

-- what a run has of its journal's entries, it has of entries of any kind that they are of
has_more : (r : Reason) (file : Option (List ℕ)) (B C F G : List Numbered → Type 0) (es : List Numbered) → (B es → C es) → (F es → G es) → has_for r file B F es → has_for r file C G es
has_more no_reason file B C F G es b f has = has
has_more in_words file B C F G es b f has = has
has_more by_memory file B C F G es b f has = ⊎_elim (λ none. inl none) (λ some. inr (f some)) has
has_more by_source file B C F G es b f has = has
has_more (in_text Is) file B C F G es b f has = has
has_more by_disk file B C F G es b f has = ⊎_elim (λ none. inl none) (λ some. inr (f some)) has
has_more (in_journal Is) file B C F G es b f has = has
has_more by_outbox file B C F G es b f has = b has
has_more (in_outbox Is) file B C F G es b f has = b has

enters_more : (r : Reason) (F G : List Numbered → Type 0) (es : List Numbered) → (F es → G es) → enters_for r F es → enters_for r G es
enters_more (in_outbox Is) F G es f enters = f enters
enters_more by_outbox F G es f enters = f enters
enters_more by_memory F G es f enters = f enters
enters_more by_disk F G es f enters = f enters
enters_more _ F G es f none = absurd none

enters_found : (r : Reason) (F : List Numbered → Type 0) (es : List Numbered) → enters_for r F es → F es
enters_found (in_outbox Is) F es enters = enters
enters_found by_outbox F es enters = enters
enters_found by_memory F es enters = enters
enters_found by_disk F es enters = enters
enters_found _ F es none = absurd none

-- where a crash leaves some entries more
left_more : (old new : DiskTells) (A B : List Numbered → Type 0) → ((es : List Numbered) → A es → B es) → IfSome old.bytes (λ b. LeavesOnly old new (λ c. KeepsAsOneOf old c ⊎ KeepsSome (base_in b) A c))
    → IfSome old.bytes (λ b. LeavesOnly old new (λ c. KeepsAsOneOf old c ⊎ KeepsSome (base_in b) B c))
left_more old new A B goes = more old.bytes
  where
    more : (o : Option (List ℕ)) → IfSome o (λ b. LeavesOnly old new (λ c. KeepsAsOneOf old c ⊎ KeepsSome (base_in b) A c)) → IfSome o (λ b. LeavesOnly old new (λ c. KeepsAsOneOf old c ⊎ KeepsSome (base_in b) B c))
    more None l = tt
    more (Some b) l = leaves_more old new _ _ (λ c. ⊎_elim (λ k. inl k) (λ k. inr (k.0, goes k.0 k.1, k.2))) l

pub unbegun_turned : (words : List (List ℕ)) (source source' : Option (List ℕ)) (faults faults' : ℕ) (wire wire' : WireTells) (outbox outbox' : SinkTells) (turns most : ℕ) (conf : Conf) (old new : DiskTells)
    (entries : List Numbered) (s : Status) → IsConfigured words source source' turns most conf → TurnedAway conf most old new outbox outbox' entries s
    → Unbegun words (record { source = source; source_faults = faults; wire = wire; disk = old; outbox = outbox })
    (record { source = source'; source_faults = faults'; wire = wire'; disk = new; outbox = outbox' }) entries s
unbegun_turned words source source' faults faults' wire wire' outbox outbox' turns most conf old new entries s c t = record {
  why = inr (c.plan, conf, c.configured, subst (λ n. Unopened conf n old new outbox outbox' s) c.most_is t.why);
  told = t.told;
  later = t.later;
  found = ⊎_elim (λ none. inl none) (λ found. inr (by entries found)) t.found;
  has = has_more (reason_of s) old.bytes _ _ _ _ entries (λ begins. (c.plan, conf, c.configured, begins)) (by entries) t.has;
  left = left_more old new _ _ (λ es. enters_more (reason_of s) _ _ es (by es)) t.left;
}
  where
    by : (es : List Numbered) → FoundEntries old.bytes conf es → FoundBy words source old.bytes es
    by es found = (c.plan, conf, c.configured, found)

pub opened : {D : Type 0} (tells : D → DiskTells) (words : List (List ℕ)) (source source' : Option (List ℕ)) (turns most : ℕ) (conf : Conf) (old : D) (made : Fronted D)
    → IsConfigured words source source' turns most conf → HasBegun tells conf most old made → Opened tells words source source' old turns made
opened tells words source source' turns most conf old made c b = record {
  plan = c.plan;
  conf = conf;
  configured = c.configured;
  turns_are = c.turns_are;
  at_end = c.at_end;
  begun = subst (λ n. HasBegun tells conf n old made) c.most_is b;
}

abbrev limits_at : ℕ → ℕ → Limits
limits_at a b = record { max_entries = a; max_bytes = b; stop = 0 }

module _ {D : Type 0} (tells : D → DiskTells) (words : List (List ℕ)) (source source' : Option (List ℕ)) where
  module _ (turns : ℕ) (old : D) (made : Fronted D) (o : Opened tells words source source' old turns made) where
    abbrev conf : Conf
    conf = o.conf

    abbrev found : Found
    found = o.begun.found

    abbrev base : Base
    base = o.begun.found.base

    are : made.intake.entries ≡ opening_entries conf found
    are = ap (λ (i : Intake). i.entries) o.begun.intake_is

    -- the front with which a run begins that was opened
    is_opened : (kept : List Numbered) → kept ≡ made.intake.entries → IsOpened tells flat base o.conf kept made
    is_opened kept same = record {
      going = o.begun.ready;
      base_is = o.begun.base;
      good = o.begun.accepted.0.1;
      stands = good_ground base o.begun.accepted.0;
      idle = o.begun.idle;
      sound = o.begun.sound;
      entries_are = sym same;
      durable = o.begun.journaled.kept (λ none. cc);
    }

    -- its configuration is in force behind them
    pub in_force : (own : Base) → own ≡ made.journal.base → (kept : List Numbered) → kept ≡ made.intake.entries → conf_behind flat (start_of flat own) (log_of kept) ≡ o.conf
    in_force own is kept same =
        ap (λ (b : Base). conf_behind flat (start_of flat b) (log_of kept)) (is ∙ o.begun.base) ∙ ap (λ es. conf_behind flat (start_of flat base) (log_of es)) same ∙ o.begun.sound.in_force

    -- and so it is in what they leave
    pub opened_behind : (own : Base) → own ≡ made.journal.base → (kept : List Numbered) → kept ≡ made.intake.entries
        → IsOpened tells flat own (behind_all flat (start_of flat own) (log_of kept)).stage.conf kept made
    opened_behind own is kept same =
        subst (λ (c : Conf). IsOpened tells flat own c kept made) (sym (conf_is_behind flat (start_of flat own) (log_of kept) ∙ in_force own is kept same))
        (subst (λ (b : Base). IsOpened tells flat b o.conf kept made) (sym (is ∙ o.begun.base)) (is_opened kept same))

    -- the lines of its entries are those with which it goes on behind what its file keeps
    kept_lines : (kept : List Numbered) → kept ≡ made.intake.entries → run_lines base kept ≡ opening_lines conf found
    kept_lines kept same = ap (run_lines base) (same ∙ are)

    -- what the objects tell before a run and behind it
    abbrev at_first : ℕ → WireTells → D → SinkTells → Objects
    at_first faults wire disk outbox = record { source = source; source_faults = faults; wire = wire; disk = tells disk; outbox = outbox }

    abbrev at_last : ℕ → WireTells → D → SinkTells → Objects
    at_last faults wire disk outbox = record { source = source'; source_faults = faults; wire = wire; disk = tells disk; outbox = outbox }

    -- a run that got no book didn't begin
    pub unbegun_held : (faults faults' : ℕ) (wire wire' : WireTells) (outbox outbox' : SinkTells) (own : Base) → own ≡ made.journal.base → (kept : List Numbered) → kept ≡ made.intake.entries → (new : D) (entries : List Numbered) (s : Status)
        → IsHeldBack own.lines (run_lines own kept) outbox outbox' made new entries s → Unbegun words (at_first faults wire old outbox) (at_last faults' wire' new outbox') entries s
    unbegun_held faults faults' wire wire' outbox outbox' own is kept same new entries s held =
        subst (λ d. Unbegun words (at_first faults wire old outbox) (at_last faults' wire' d outbox') entries s) (sym h.disk_is) (record {
          why = inr (o.plan, conf, o.configured, why s h.why);
          told = begun.journaled.told;
          later = begun.journaled.later;
          found = inr some;
          has = has s h.why;
          left = left_of (tells old).bytes begun.finds begun.journaled.left;
        })
      where
        h : IsHeldBack base.lines (run_lines base kept) outbox outbox' made new entries s
        h = subst (λ (b : Base). IsHeldBack b.lines (run_lines b kept) outbox outbox' made new entries s) (is ∙ o.begun.base) held

        begun : HasBegun tells conf o.plan.max_entries old made
        begun = o.begun

        entries_are : entries ≡ opening_entries conf found
        entries_are = h.entries_are ∙ are

        some : FoundBy words source (tells old).bytes entries
        some = (o.plan, conf, o.configured, (found, o.begun.finds, inr entries_are))

        Bookless : Status → Type 0
        Bookless s = IsBookless base.lines (run_lines base kept) outbox outbox' s

        over : (Is : ℕ → List ℕ → Type 0) → Is base.lines (run_lines base kept) → OfLines o.plan.max_entries conf (tells old).bytes Is
        over Is is = (found, o.begun.finds, o.begun.accepted, o.begun.room, subst (Is base.lines) (kept_lines kept same) is)

        why : (s : Status) → Bookless s → Unopened conf o.plan.max_entries (tells old) (tells made.journal.disk) outbox outbox' s
        why status.OutOfMemory spent = tt
        why status.OutboxFault rose = over (λ before lines. Rose outbox.faults outbox'.faults) rose
        why (status.OutboxBehind told count) behind = over (λ before lines. IsBehind outbox before told count) behind
        why (status.OutboxAhead told count) ahead = over (λ before lines. IsAhead outbox before lines told count) ahead
        why (status.OutboxDiffers at) other = over (λ before lines. IsOther outbox before lines at) other
        why _ none = absurd none

        begins : BeginsBy words source (tells old).bytes entries
        begins = (o.plan, conf, o.configured, (found, o.begun.finds, entries_are))

        has : (s : Status) → Bookless s → HasBy words source (tells old).bytes s entries
        has status.OutOfMemory spent = inr some
        has status.OutboxFault rose = begins
        has (status.OutboxBehind told count) behind = begins
        has (status.OutboxAhead told count) ahead = begins
        has (status.OutboxDiffers at) other = begins
        has _ none = absurd none

        enter : (s : Status) → Bookless s → (es : List Numbered) → FoundBy words source (tells old).bytes es → EntersBy words source (tells old).bytes s es
        enter status.OutOfMemory why es is = is
        enter status.OutboxFault why es is = is
        enter (status.OutboxBehind told count) why es is = is
        enter (status.OutboxAhead told count) why es is = is
        enter (status.OutboxDiffers at) why es is = is
        enter _ none es is = absurd none

        among : (es : List Numbered) → IsEither (found_entries found) made.intake.entries es → FoundBy words source (tells old).bytes es
        among es is = (o.plan, conf, o.configured, (found, o.begun.finds, ⊎_elim (λ kept. inl kept) (λ here. inr (here ∙ are)) is))

        left_of : (file : Option (List ℕ)) → FoundGroups file found
            → IfSome file (λ _. LeavesOnly (tells old) (tells made.journal.disk) (λ c. KeepsAsOneOf (tells old) c ⊎ KeepsSome base (IsEither (found_entries found) made.intake.entries) c))
            → IfSome file (λ b. LeavesOnly (tells old) (tells made.journal.disk) (λ c. KeepsAsOneOf (tells old) c ⊎ KeepsSome (base_in b) (EntersBy words source (tells old).bytes s) c))
        left_of None finds l = tt
        left_of (Some b) finds l = leaves_more (tells old) (tells made.journal.disk) _ _
            (λ c. ⊎_elim (λ k. inl k) (λ k. inr (k.0, enter s h.why k.0 (among k.0 k.1), subst (λ (x : Base). Keeps x k.0 c) (sym finds.0) k.2))) l

    -- the texts of its base and of the Configs among its entries are accepted, and the last one is its own
    kept_flat : AreFlat base.text made.intake.entries
    kept_flat = subst (AreFlat base.text) (sym are) (opening_flat base conf (found_entries found) o.configured.conf_is o.begun.accepted.1 (journal_bytes found.first found.groups))

    kept_last : last_text base.text (log_of made.intake.entries) ≡ Some conf.text
    kept_last = ap (λ es. last_text base.text (log_of es)) are ∙ opening_last base conf (found_entries found) o.configured.conf_is o.begun.accepted.1 (journal_bytes found.first found.groups)

    -- what is told of the disk of a run that took events, since it was opened
    abbrev did : D → Doing
    did new = Journals (KeepsAsOneOf (tells old)) (tells old) (tells new) base

    -- one that got its book took events
    pub followed : (faults faults' : ℕ) (wire wire' : WireTells) (outbox outbox' : SinkTells) (own : Base) → own ≡ made.journal.base → (kept : List Numbered) → kept ≡ made.intake.entries → IsMendable own.lines outbox (run_lines own kept)
        → (new : D) (entries : List Numbered) (s : Status) (IsTold : Counts → Type 0)
        → Finished (limits_of made.journal 0) conf kept made.intake entries turns (Journals (λ c. ⊥) (tells made.journal.disk) (tells new) own) wire wire' (course_of s).ending
        → LinesAre (course_of s).out own.lines outbox outbox' (run_lines own entries) → IsTold (run_counts own entries)
        → Followed words (at_first faults wire old outbox) (at_last faults' wire' new outbox') s entries IsTold
    followed faults faults' wire wire' outbox outbox' own is kept same mendable new entries s IsTold f lines counts =
        let begun = o.begun in
        let here : own ≡ base = is ∙ begun.base in
        let limits : limits_of made.journal 0 ≡ limits_by o.plan = ap₂ (λ a b. limits_at a b) begun.limits.0 begun.limits.1 in
        let limits_then : Limits = refusing (limits_of made.journal 0) f.refused in
        let sound : IsSound flat (start_of flat base) conf (served limits_then conf made.intake f.handled).intake = served_sound flat (start_of flat base) limits_then conf made.intake f.handled begun.sound in
        let more = served_plain limits_then conf made.intake f.handled in
        let grown : entries ≡ made.intake.entries ++ more.0 = f.entries_are ∙ more.1 in
        record {
          plan = o.plan;
          conf = conf;
          configured = o.configured;
          found = found;
          finds = begun.finds;
          accepted = begun.accepted;
          room = begun.room;
          mendable = subst (IsMendable base.lines outbox) (kept_lines kept same) (subst (λ (b : Base). IsMendable b.lines outbox (run_lines b kept)) here mendable);
          whole = subst (λ es. IsFull (start_of flat base) (log_of es)) (sym f.entries_are) sound.full;
          fits = subst (λ es. FitsLog flat (start_of flat base) (log_of es)) (sym f.entries_are) sound.fits;
          taken = subst (AreFlat base.text) (sym grown) (flat_on base.text made.intake.entries more.0 more.2 kept_flat);
          in_force = ap (λ es. last_text base.text (log_of es)) grown ∙ last_on base.text made.intake.entries more.0 more.2 ∙ kept_last;
          finished =
              subst (λ (i : Intake). Finished (limits_by o.plan) conf (found_entries found) i entries o.plan.turns (did new) wire wire' (course_of s).ending) begun.intake_is
              (subst (λ n. Finished (limits_by o.plan) conf (found_entries found) made.intake entries n (did new) wire wire' (course_of s).ending) o.turns_are
              (subst (λ (l : Limits). Finished l conf (found_entries found) made.intake entries turns (did new) wire wire' (course_of s).ending) limits
              (over (limits_of made.journal 0) begun.journaled (subst (λ es. Finished (limits_of made.journal 0) conf es made.intake entries turns (Journals (λ c. ⊥) (tells made.journal.disk) (tells new) base) wire wire' (course_of s).ending) same
              (subst (λ (b : Base). Finished (limits_of made.journal 0) conf kept made.intake entries turns (Journals (λ c. ⊥) (tells made.journal.disk) (tells new) b) wire wire' (course_of s).ending) here f)))));
          lines = subst (λ (b : Base). LinesAre (course_of s).out b.lines outbox outbox' (run_lines b entries)) here lines;
          counts = subst (λ (b : Base). IsTold (run_counts b entries)) here counts;
        }
      where
        over : (l : Limits) → Journals (KeepsAsOneOf (tells old)) (tells old) (tells made.journal.disk) base (IsEither (found_entries found) made.intake.entries) None made.intake.entries
            → Finished l conf made.intake.entries made.intake entries turns (Journals (λ c. ⊥) (tells made.journal.disk) (tells new) base) wire wire' (course_of s).ending
            → Finished l conf (found_entries found) made.intake entries turns (did new) wire wire' (course_of s).ending
        over l j f = record {
          handled = f.handled;
          lost = f.lost;
          refused = f.refused;
          runs_on = f.runs_on;
          few = f.few;
          given = f.given;
          told = f.told;
          entries_are = f.entries_are;
          ends = f.ends;
          refused_is = f.refused_is;
          shows = f.shows;
          journaled = journals_on (KeepsAsOneOf (tells old)) (tells old) (tells made.journal.disk) (tells new) base (IsEither (found_entries found) made.intake.entries)
              (IsReached (refusing l f.refused) conf made.intake.entries made.intake f.handled) (IsReached (refusing l f.refused) conf (found_entries found) made.intake f.handled)
              None _ made.intake.entries entries (λ es is. ⊎_elim (λ kept. inl kept) (λ here. inr (inl ([], f.handled, refl, here))) is)
              (λ es is. ⊎_elim (λ here. inr (inl ([], f.handled, refl, here))) (λ later. inr later) is) j f.journaled;
        }

path_in : Result Conf Flaw → List ℕ
path_in (Ok conf) = []
path_in (Err (refused fault)) = fault.path

cause_in : Cause → Result Conf Flaw → Cause
cause_in other (Ok conf) = other
cause_in other (Err (refused fault)) = fault.cause

-- the first fault of a text is one
pub same_flaw : (p q : List ℕ) (a b : Cause) → refuse {A = Conf} p a ≡ refuse q b → status.ConfigRefused p a ≡ status.ConfigRefused q b
unfolding path_in cause_in
same_flaw p q a b e = ap₂ status.ConfigRefused (ap path_in e) (ap (cause_in a) e)

-- where nothing was read
pub reads_none : (most : ℕ) (left : Option (List ℕ)) → ReadsUpTo most left left
reads_none most left = ([], (omega arith, Consumes-nil left))

-- ---- what printing leaves of a run

-- events were taken up to an ending as which they ended
pub is_ending : (e : Ending) (turns count : ℕ) (stop : Option Stop) (lost : Option WireEvent) → EndsAs e turns count stop lost → IsEnding e
is_ending never turns count stop lost none = none
is_ending at_closed turns count stop lost ends = tt
is_ending at_limit turns count stop lost ends = tt
is_ending at_wire_fault turns count stop lost ends = tt
is_ending at_disk_fault turns count stop lost ends = tt
is_ending (at_full entries bytes) turns count stop lost ends = tt
is_ending anywhere turns count stop lost ends = tt
is_ending at_refusal turns count stop lost ends = tt

-- an ending of any kind is one of a run to which memory was refused
ends_refused : (e : Ending) (turns count : ℕ) (stop : Option Stop) (lost : Option WireEvent) → EndsAs e turns count stop lost → EndsAs at_refusal turns count stop lost
ends_refused never turns count stop lost none = absurd none
ends_refused at_closed turns count stop lost ends = inr (inr ends.1)
ends_refused at_limit turns count stop lost ends = inr (inr ends.2)
ends_refused at_wire_fault turns count stop lost ends = inr (inr ends.1)
ends_refused at_disk_fault turns count stop lost ends = inr (inr ends.1)
ends_refused (at_full entries bytes) turns count stop lost ends = inr (inr ends.1)
ends_refused anywhere turns count stop lost ends = inr (inr ends)
ends_refused at_refusal turns count stop lost ends = ends

no_event : {A : Type 0} (x : WireEvent) (o : Option WireEvent) → o ≡ Some x → o ≡ None → A
no_event x o is none = absurd (cc)

left_refused : (e : Ending) (turns count : ℕ) (stop : Option Stop) (lost : Option WireEvent) (left : Option (List WireEvent)) (rest : List WireEvent)
    → EndsAs e turns count stop lost → LeftIs e lost left rest → LeftIs at_refusal lost left rest
left_refused e turns count stop None left rest ends is = tt
left_refused never turns count stop (Some x) left rest none is = absurd none
left_refused at_closed turns count stop (Some x) left rest ends is = is
left_refused at_limit turns count stop (Some x) left rest ends is = is
left_refused at_wire_fault turns count stop (Some x) left rest ends is = no_event x (Some x) refl ends.1
left_refused at_disk_fault turns count stop (Some x) left rest ends is = is
left_refused (at_full entries bytes) turns count stop (Some x) left rest ends is = is
left_refused anywhere turns count stop (Some x) left rest ends is = is
left_refused at_refusal turns count stop (Some x) left rest ends is = is

pub finished_refused : (limits : Limits) (conf : Conf) (recovered : List Numbered) (begun : Intake) (entries : List Numbered) (turns : ℕ) (did : Doing) (wire wire' : WireTells) (e : Ending)
    → Finished limits conf recovered begun entries turns did wire wire' e → Finished limits conf recovered begun entries turns did wire wire' at_refusal
finished_refused limits conf recovered begun entries turns did wire wire' e f = record {
  handled = f.handled;
  lost = f.lost;
  refused = f.refused;
  runs_on = f.runs_on;
  few = f.few;
  given = f.given;
  told = told wire.left f.told;
  entries_are = f.entries_are;
  ends = ends_refused e turns (length f.handled) _ f.lost f.ends;
  refused_is = f.refused_is;
  shows = f.shows;
  journaled = f.journaled;
}
  where
    told : (left : Option (List WireEvent)) → IfSome left (λ all. (rest : List WireEvent) × (all ≡ f.handled ++ (option_to_list f.lost ++ rest)) × (LeftIs e f.lost wire'.left rest ⊎ Rose wire.faults wire'.faults))
        → IfSome left (λ all. (rest : List WireEvent) × (all ≡ f.handled ++ (option_to_list f.lost ++ rest)) × (LeftIs at_refusal f.lost wire'.left rest ⊎ Rose wire.faults wire'.faults))
    told None t = tt
    told (Some all) t = (t.0, t.1, ⊎_elim (λ is. inl (left_refused e turns (length f.handled) _ f.lost wire'.left t.0 f.ends is)) (λ rose. inr rose) t.2)

-- a status that ends the opening comes before anything is printed
own_line_of : (s : Status) → IsRefusal s → IsUnprinted s
own_line_of status.PrintFault none = absurd none
own_line_of _ is = tt

module _ (words : List (List ℕ)) (before after : Objects) where
  abbrev Refused_at : Status → Type 0
  Refused_at s = Refuses words before after s

  at_words : (r : Reason) → unconfigured_for r words before.source before.source_faults after.source_faults → ends_opening r
  at_words no_reason none = none
  at_words _ why = tt

  at_objects : (r : Reason) (conf : Conf) (most : ℕ) → unopened_for r conf most before.disk after.disk before.outbox after.outbox → ends_opening r
  at_objects no_reason conf most none = none
  at_objects _ conf most why = tt

  -- a run that was refused has a status of one that hasn't begun
  pub is_refusal : (s : Status) → Refused_at s → IsRefusal s
  is_refusal s (inl why) = at_words (reason_of s) why
  is_refusal s (inr (plan, conf, c, why)) = at_objects (reason_of s) conf plan.max_entries why

  -- one that was refused for its outbox saw it fail
  outbox_failed : Refused_at status.OutboxFault → Rose before.outbox.faults after.outbox.faults
  outbox_failed (inl none) = absurd none
  outbox_failed (inr (plan, conf, c, (found, finds, accepted, room, rose))) = rose

  -- which comes before anything is printed, and isn't that of one that takes events
  pub never_begun : (s : Status) → Refused_at s → IsUnprinted s × ((s ≡ status.WireFault → ⊥) × ((s ≡ status.OutboxFault → Rose before.outbox.faults after.outbox.faults) × (s ≡ status.Ok → ⊥)))
  never_begun s why =
      let is = is_refusal s why in
      (own_line_of s is, ((λ e. subst IsRefusal e is), ((λ e. outbox_failed (subst Refused_at e why)), (λ e. subst IsRefusal e is))))

  not_well : Refused_at status.Ok → ⊥
  not_well why = is_refusal status.Ok why

  no_bar : (r : Reason) → names_object r → unconfigured_for r words before.source before.source_faults after.source_faults → ⊥
  no_bar (in_journal Is) names none = none
  no_bar (in_outbox Is) names none = none
  no_bar _ none why = none

  bar_of : (r : Reason) (conf : Conf) (most : ℕ) → names_object r → unopened_for r conf most before.disk after.disk before.outbox after.outbox → bars_for r conf most before.disk.bytes before.outbox
  bar_of (in_journal Is) conf most names why = why
  bar_of (in_outbox Is) conf most names why = why
  bar_of _ conf most none why = absurd none

  -- a status that names what barred a run comes where that did
  pub barred_of : (s : Status) → IsBarring s → Refused_at s → IsBarred words before s
  barred_of s names (inl why) = absurd (no_bar (reason_of s) names why)
  barred_of s names (inr (plan, conf, c, why)) = (plan, conf, c, bar_of (reason_of s) conf plan.max_entries names why)

  -- printing makes of a run that didn't begin one to which memory was refused, or nothing else
  pub unbegun_printed : (s ended : Status) (entries : List Numbered) → EndsPrinted s ended → Unbegun words before after entries s → Unbegun words before after entries ended
  unbegun_printed s ended entries (own, inl same) u = subst (λ t. Unbegun words before after entries t) (sym same) u
  unbegun_printed s ended entries (own, inr (inl spent)) u = subst (λ t. Unbegun words before after entries t) (sym spent) (record {
    why = inl tt;
    told = u.told;
    later = u.later;
    found = u.found;
    has = u.found;
    left = left_more before.disk after.disk _ _ (λ es. enters_found (reason_of s) _ es) u.left;
  })
  unbegun_printed s ended entries (own, inr (inr (cut, well))) u = absurd (not_well (subst Refused_at well u.why))

-- ---- what is printed

-- a line that was printed whole
pub printed_all : (s : Status) (counts : Counts) (print print' : SinkTells) → IsUnprinted s → Grew print print' (printed_text s counts) → Prints s counts print print'
printed_all status.Ok counts print print' own all = all
printed_all status.PrintFault counts print print' none all = absurd none
printed_all status.OutOfMemory counts print print' own all = all_front print print' (printed_text status.OutOfMemory counts) all
printed_all _ counts print print' own all = inl all

-- a line that was cut short
pub printed_cut : (s : Status) (counts : Counts) (print print' : SinkTells) → IsUnprinted s → Rose print.faults print'.faults → GrewByFront print print' (printed_text s counts)
    → Prints (cut_short s) counts print print'
printed_cut status.Ok counts print print' own rose front = (rose, front)
printed_cut status.PrintFault counts print print' none rose front = absurd none
printed_cut status.OutOfMemory counts print print' own rose front = front
printed_cut _ counts print print' own rose front = inr (rose, front)

-- a line for which memory was refused
pub printed_none : (counts : Counts) (print : SinkTells) → Prints status.OutOfMemory counts print print
printed_none counts print = none_front print (printed_text status.OutOfMemory counts)

same_counts : (s : Status) (c c' : Counts) (print print' : SinkTells) → IsUnprinted s → (s ≡ status.Ok → c ≡ c') → Prints s c print print' → Prints s c' print print'
same_counts status.Ok c c' print print' own same printed = subst (λ k. Prints status.Ok k print print') (same refl) printed
same_counts status.PrintFault c c' print print' none same printed = absurd none
same_counts _ c c' print print' own same printed = printed

-- only Ok's line has counts
pub prints_counts : (s ended : Status) (c c' : Counts) (print print' : SinkTells) → EndsPrinted s ended → (s ≡ status.Ok → c ≡ c') → Prints ended c print print' → Prints ended c' print print'
prints_counts s ended c c' print print' (own, inl is) same printed =
    subst (λ t. Prints t c' print print') (sym is) (same_counts s c c' print print' own same (subst (λ t. Prints t c print print') is printed))
prints_counts s ended c c' print print' (own, inr (inl spent)) same printed =
    let front : Prints status.OutOfMemory c print print' = subst (λ t. Prints t c print print') spent printed in
    subst (λ t. Prints t c' print print') (sym spent) front
prints_counts s ended c c' print print' (own, inr (inr (cut, well))) same printed = subst (λ k. Prints ended k print print') (same well) printed

-- the line of a run that hasn't begun has no counts
pub prints_any : (s : Status) (c c' : Counts) (line line' : SinkTells) → IsRefusal s → Prints s c line line' → Prints s c' line line'
prints_any status.Ok c c' line line' none printed = absurd none
prints_any status.PrintFault c c' line line' none printed = absurd none
prints_any _ c c' line line' is printed = printed

-- ---- a run that took events, behind its line

module _ (words : List (List ℕ)) (before after : Objects) (entries : List Numbered) where
  -- the same run, of whose counts something else is told
  abbrev told_as : {s t : Status} {Is Other : Counts → Type 0} → (f : Followed words before after s entries Is) → Other (run_counts f.found.base entries)
      → Finished (limits_by f.plan) f.conf (found_entries f.found) (opening_intake f.conf f.found) entries f.plan.turns (Journals (KeepsAsOneOf before.disk) before.disk after.disk f.found.base) before.wire after.wire (course_of t).ending
      → LinesAre (course_of t).out f.found.base.lines before.outbox after.outbox (run_lines f.found.base entries) → Followed words before after t entries Other
  told_as f counts finished lines = record {
    plan = f.plan;
    conf = f.conf;
    configured = f.configured;
    found = f.found;
    finds = f.finds;
    accepted = f.accepted;
    room = f.room;
    mendable = f.mendable;
    whole = f.whole;
    fits = f.fits;
    taken = f.taken;
    in_force = f.in_force;
    finished = finished;
    lines = lines;
    counts = counts;
  }

  pub followed_printed : (s ended : Status) (counts : Counts) (line line' : SinkTells) → EndsPrinted s ended → Prints ended counts line line' → Followed words before after s entries (λ c. s ≡ status.Ok → counts ≡ c)
      → Followed words before after ended entries (λ c. Prints ended c line line')
  followed_printed s ended counts line line' ends prints f =
      told_as f (prints_counts s ended counts _ line line' ends f.counts prints) (finished ends) (lines_printed s ended f.found.base.lines before.outbox after.outbox _ ends f.lines)
    where
      Ends_as : Status → Type 0
      Ends_as t = Finished (limits_by f.plan) f.conf (found_entries f.found) (opening_intake f.conf f.found) entries f.plan.turns (Journals (KeepsAsOneOf before.disk) before.disk after.disk f.found.base) before.wire after.wire (course_of t).ending

      finished : EndsPrinted s ended → Ends_as ended
      finished (own, inl same) = subst Ends_as (sym same) f.finished
      finished (own, inr (inr (cut, well))) = let g : Ends_as status.Ok = subst Ends_as well f.finished in subst Ends_as (sym cut) g
      finished (own, inr (inl spent)) =
          subst Ends_as (sym spent) (finished_refused (limits_by f.plan) f.conf (found_entries f.found) (opening_intake f.conf f.found) entries f.plan.turns _ before.wire after.wire (course_of s).ending f.finished)

  -- a run that took events has a status of one that has begun
  pub is_course : (s : Status) (IsTold : Counts → Type 0) → Followed words before after s entries IsTold → IsCourse s
  is_course s IsTold f = is_ending (course_of s).ending _ _ _ _ f.finished.ends
