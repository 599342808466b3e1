-- The contract of a whole run, from what holds of it up to its printed line.
use Rattle.std.proofs.Common.{◌≡◌, ⊎_elim, inl, inr, ℕ, List, Bool, true, false, true≢false, Option, sym, ◌∙◌, subst}
use Rattle.zbx_types.specs.declared.base.Base.{Base}
use Rattle.zbx_types.specs.declared.conf.Conf.{Conf}
use Rattle.zbx_types.specs.declared.entries.Numbered.{Numbered}
use Rattle.outside.specs.Causes.{Rose}
use Rattle.outside.specs.Disk.{DiskTells}
use Rattle.outside.specs.Tells.{SinkTells, WireTells}
use Rattle.book_opening.specs.Outgoing.{IsLeft}
use Rattle.intake_front.specs.Fronted.{Fronted, limits_of}
use Rattle.server_words.specs.declared.status.Counts.{Counts}
use Rattle.server_words.specs.declared.status.Status.{Status}
use Rattle.server_words.specs.declared.status.Status.TheVariants as status
use Rattle.server_run.specs.declared.course.Course.{Course}
use Rattle.journal_opening.specs.Replayed.{flat}
use Rattle.journal_opening.specs.Journals.{Journals}
use Rattle.server_run.specs.Going.{HasGone}
use Rattle.server_run.specs.Ports.{ReadsUpTo}
use Rattle.server_run.specs.Ran.{IsUpToLine, IsRun}
use Rattle.server_run.specs.Runs.{Objects, Opened, Refuses, Unbegun, Finished, Followed, Prints}
use Rattle.server_run.specs.Statuses.{course_of, EndsPrinted}
use Rattle.server_run.proofs.Closings.{either_way, disk_fault, keeps_at_end, bars_unbegun, bars_begun, begins_well, ends_well, fault_before, no_plan, refused_text, begun_planned, begun_flat, kept_not_refused}
use Rattle.server_run.proofs.Runs.{in_force, unbegun_held, followed, never_begun, unbegun_printed, followed_printed, is_course, is_refusal, barred_of, prints_any}

-- ---- up to the line

-- a run that didn't begin
pub refused_so_far : (words : List (List ℕ)) (before after : Objects) (began : Bool) (entries : List Numbered) (counts : Counts) (s : Status) → began ≡ false → ReadsUpTo 16777216 before.source after.source
    → Unbegun words before after entries s → after.wire ≡ before.wire → IsLeft before.outbox after.outbox → IsUpToLine words before after began entries counts s
refused_so_far words before after began entries counts s isnt taken u wire outbox =
    let never = never_begun words before after s u.why in
    record {
      taken = taken;
      to_the_end = λ t. absurd (clash t);
      wire = λ is. absurd (never.1.0 is);
      outbox = never.1.1.0;
      unprinted = never.0;
      unbegun = λ f. u;
      untouched = λ f. (wire, outbox);
      followed = λ t. absurd (clash t);
    }
  where
    clash : began ≡ true → ⊥
    clash t = true≢false (sym t ∙ isnt)

-- a run that was opened, and went on over a book or got none
pub gone_so_far : {D O : Type 0} (tells : D → DiskTells) (shows : O → SinkTells) (words : List (List ℕ)) (source source' : Option (List ℕ)) (faults faults' turns : ℕ) (disk : D) (made : Fronted D)
    → Opened tells words source source' disk turns made → (base : Base) → base ≡ made.journal.base → (kept : List Numbered) → kept ≡ made.intake.entries → (outbox : SinkTells) (w w' : WireTells) (course : Course D O)
    → HasGone tells shows flat base kept outbox made turns w w' course → ReadsUpTo 16777216 source source' → (course.began ≡ false → (w' ≡ w) × IsLeft outbox (shows course.outbox))
    → IsUpToLine words (record { source = source; source_faults = faults; wire = w; disk = tells disk; outbox = outbox })
    (record { source = source'; source_faults = faults'; wire = w'; disk = tells course.disk; outbox = shows course.outbox }) course.began course.entries course.counts course.status
gone_so_far tells shows words source source' faults faults' turns disk made o base is kept same outbox w w' course gone taken untouched = record {
  taken = taken;
  to_the_end = λ t. o.at_end;
  wire = gone.wire;
  outbox = gone.fault;
  unprinted = gone.unprinted;
  unbegun = λ f. unbegun_held tells words source source' turns disk made o faults faults' w w' outbox (shows course.outbox) base is kept same course.disk course.entries course.status (gone.held_back f);
  untouched = untouched;
  followed = λ t. followed tells words source source' turns disk made o faults faults' w w' outbox (shows course.outbox) base is kept same (gone.mendable t) course.disk course.entries course.status
      (λ c. course.status ≡ status.Ok → course.counts ≡ c) (subst Ends_with (in_force tells words source source' turns disk made o base is kept same) (gone.finished t)) (gone.lines t) gone.counts_are;
}
  where
    Ends_with : Conf → Type 0
    Ends_with conf = Finished (limits_of made.journal 0) conf kept made.intake course.entries turns (Journals (λ c. ⊥) (tells made.journal.disk) (tells course.disk) base) w w' (course_of course.status).ending

-- ---- and behind it

module _ (words : List (List ℕ)) (before after : Objects) (print print' : SinkTells) (began : Bool) (entries : List Numbered) (counts : Counts) (s ended : Status) (g : IsUpToLine words before after began entries counts s)
    (ends : EndsPrinted s ended) (fault : ended ≡ status.PrintFault → Rose print.faults print'.faults) (prints : Prints ended counts print print') where
  abbrev Refused_with : Status → Type 0
  Refused_with t = Refuses words before after t

  abbrev IsPrinted : Counts → Type 0
  IsPrinted c = Prints ended c print print'

  abbrev Follows_with : Status → Type 0
  Follows_with t = Followed words before after t entries IsPrinted

  unbegun : began ≡ false → Unbegun words before after entries ended
  unbegun f = unbegun_printed words before after s ended entries ends (g.unbegun f)

  begun : began ≡ true → Follows_with ended
  begun t = followed_printed words before after entries s ended counts print print' ends prints (g.followed t)

  -- by the status, whether the run began or not
  at_status : {P : Type 0} (t : Status) → ended ≡ t → (Refused_with t → P) → (Follows_with t → P) → P
  at_status t is refused follows = either_way began (λ y. follows (subst Follows_with is (begun y))) (λ n. refused (subst Refused_with is (unbegun n).why))

  pub is_run : IsRun words before after print print' began entries ended
  is_run = record {
    usage = λ is. at_status status.Usage is (⊎_elim (λ why. why) (λ why. absurd why.3)) (λ f. absurd f.finished.ends);
    not_command = λ none. either_way began (λ y. absurd (begun_planned words before after ended entries IsPrinted (begun y) none)) (λ n. no_plan words before after none ended (unbegun n).why);
    taken = g.taken;
    to_the_end = g.to_the_end;
    config_refused = λ path cause is. at_status (status.ConfigRefused path cause) is (⊎_elim (λ why. why.1) (λ why. absurd (kept_not_refused before.disk.bytes path cause why.3))) (λ f. absurd f.finished.ends);
    refused_text = λ text path cause is flaw. either_way began (λ y. absurd (begun_flat words before after ended entries IsPrinted (begun y) text is path cause flaw))
        (λ n. refused_text words before after text is path cause flaw ended (unbegun n).why);
    pattern_refused = λ path is. at_status (status.PatternRefused path) is (⊎_elim (λ why. inl why.1) (λ why. inr why.3)) (λ f. absurd f.finished.ends);
    pattern_too_large = λ path is. at_status (status.PatternTooLarge path) is (⊎_elim (λ why. inl why.1) (λ why. inr why.3)) (λ f. absurd f.finished.ends);
    barred = λ n names. barred_of words before after ended names (unbegun n).why;
    bars = λ plan text conf file t plan_is source_is conf_is file_is bars seen. either_way began
        (λ y. absurd (bars_begun words before after plan text conf file plan_is source_is conf_is file_is t bars seen ended entries IsPrinted (begun y)))
        (λ n. bars_unbegun words before after plan text conf file plan_is source_is conf_is file_is t bars seen ended (unbegun n).why);
    source = λ is. at_status status.SourceFault is (⊎_elim (λ why. why.1) (λ why. absurd why.3)) (λ f. absurd f.finished.ends);
    wire = λ is. g.wire (fault_before s ended status.WireFault ends is (λ e. cc) (λ e. cc));
    disk = disk_of;
    outbox = λ is. g.outbox (fault_before s ended status.OutboxFault ends is (λ e. cc) (λ e. cc));
    print = fault;
    not_begun = λ n. (is_refusal words before after ended (unbegun n).why, (g.untouched n).0, (g.untouched n).1);
    has_found = λ n. (unbegun n).found;
    has = λ n. (unbegun n).has;
    stopped = λ n. (unbegun n).left;
    begun = λ y. is_course words before after entries ended IsPrinted (begun y);
    followed = begun;
    printed = λ n c. prints_any ended counts c print print' (is_refusal words before after ended (unbegun n).why) prints;
    keeps = λ y none. keeps_at_end words before after entries IsPrinted ended (begun y) none;
    told = either_way began (λ y. (begun y).finished.journaled.told) (λ n. (unbegun n).told);
    complete = λ plan text conf file found all plan_is source_is conf_is file_is finds accepted room kept_patterns mendable seen left closes none patterns. either_way began
        (λ y. ⊎_elim (λ well. inl well) (λ spent. inr (inl spent)) (ends_well words before after entries IsPrinted plan text conf file found all plan_is source_is conf_is file_is finds left closes
        ended (λ is. none.wire (g.wire (fault_before s ended status.WireFault ends is (λ e. cc) (λ e. cc)))) (λ is. none.disk (disk_of is))
        (λ is. none.outbox (g.outbox (fault_before s ended status.OutboxFault ends is (λ e. cc) (λ e. cc)))) (λ is. none.printer (fault is)) (begun y)))
        (λ n. inr (begins_well words before after plan text conf file found plan_is source_is conf_is file_is finds accepted room kept_patterns mendable seen none.source none.disk none.outbox patterns ended (unbegun n).why));
  }
    where
      disk_of : ended ≡ status.DiskFault → Rose before.disk.faults after.disk.faults
      disk_of is = either_way began (λ y. disk_fault words before after entries IsPrinted ended is (begun y)) (λ n. refused (subst Refused_with is (unbegun n).why))
        where
          refused : Refused_with status.DiskFault → Rose before.disk.faults after.disk.faults
          refused (inl none) = absurd none
          refused (inr why) = why.3
