-- What is kept goes on representing cells.
use Rattle.std.proofs.Common.{◌≡◌, ◌≢◌, ◌≤◌, ℕ, zero, suc, slice_get, ◌==◌, Bool, true, false, cond, Option, Some, None, List, [], ◌∷◌, ◌++◌, length, map, replicate, is_some, option_map, refl, sym, ◌∙◌, ap, subst, eq-eqb, arith, append-nil, Result, Ok, Err, IfOk, OnOk, reverse, ◌+◌, append_assoc}
use mathlib.Core.Path.{fun_ext}
use Rattle.std.specs.List.{cons_option}
use Rattle.std.specs.Option.{option_or, unwrap_or, option_map_or}
use Rattle.zbx_types.specs.Ids.{at_id}
use Rattle.zbx_types.specs.Masters.{has_id}
use Rattle.zbx_types.specs.declared.conf.Conf.{Conf}
use Rattle.zbx_types.specs.declared.items.Item.{Item}
use Rattle.zbx_types.specs.declared.entries.Entry.{Entry}
use Rattle.zbx_types.specs.declared.entries.Entry.TheVariants.{Config, Value, Tick}
use Rattle.zbx_types.specs.declared.entries.Numbered.{Numbered}
use Rattle.zbx_types.specs.declared.entries.Rec.{Rec}
use Rattle.zbx_types.specs.declared.entries.Stored.{Stored}
use Rattle.prep_steps.specs.declared.memory.StepMemory.{StepMemory}
use Rattle.value_cache.specs.Cells.{CellView}
use Rattle.preprocess.specs.Ways.{memory_at}
use Rattle.preprocess.specs.Chains.{listed}
use Rattle.preprocess.specs.Visits.{memory_in as memory_kept}
use Rattle.preprocess.specs.Draft.{kept_of, kept_after, marks_after, visit_at, stored_of as stored_by, failure_by, failure_of, failures_of}
use Rattle.preprocess.specs.Cells.{no_marks, AreNew}
use Rattle.preprocess.specs.Laws.{marks_behind, kept_behind, HoldLog}
use Rattle.preprocess.specs.declared.cells.Cells.{Cells as ItemCells}
use Rattle.preprocess.specs.declared.visit.Visit.{Visit}
use Rattle.preprocess.specs.declared.visit.ItemOutcome.{ItemOutcome}
use Rattle.preprocess.specs.declared.visit.ItemOutcome.TheVariants as outcome
use Rattle.preprocess.proofs.Logs.{at_map, hold_nothing}
use Rattle.trigger_state.specs.Stages.{Stage, OwnsEvents, home}
use Rattle.trigger_state.specs.Problems.{event_in, absorbed_all, grown, open_of}
use Rattle.trigger_state.specs.declared.problems.Open.{Open}
use Rattle.entry_step.specs.declared.occasions.Occasion.{Occasion}
use Rattle.entry_step.specs.declared.changes.Row.{Row}
use Rattle.footprint.specs.Rows.{is_in, is_one}
use Rattle.footprint.specs.Feet.{over_of, feet_of}
use Rattle.entry_step.specs.Each.{Each}
use Rattle.zbx_types.specs.Entries.{moment_of}
use Rattle.entry_step.specs.Log.{last_moment, tick_with, first_tick, Suits}
use Rattle.entry_step.specs.Occasions.{occasion_of}
use Rattle.entry_step.specs.History.{visits_at, stored_of, marks_of, memory_of, with_stored, history_of}
use Rattle.value_cache.specs.Tokens.{CacheId}
use Rattle.preprocess.specs.Draft.{roomless}
use Rattle.entry_step.specs.Kept.{Keeps, Sees, IsCalled, SeesFor, CameIn}
use Rattle.entry_step.specs.Due.{by_making, due_for, due_over, due_at}
use Rattle.entry_step.specs.Records.{evaluated, phase, triggers_at, failures_at, judged_of, out_of, replay}
use Rattle.conf_index.specs.Timed.{timed_triggers}
use Rattle.entry_step.specs.Cells.{Key, ItemKey, TriggerKey, TickKey, ItemCell, Cells, opens_in, memory_in, touches, item_after, histories_after, judged_at, records_at, records, after, seen_of, look, AreCellsOf}
use Rattle.entry_step.specs.Represents.{CellsView, problems_at, AllAtHome, IsTidy, Represents, Holds, ComesAfter, StepsTo}
use Rattle.entry_step.specs.Changes.{with_rows, put_back, AreTidy, Runs, RunsOver, Absorbed, TakesIn, TakesTick}
use Rattle.entry_step.proofs.Members.{or_left, or_right, each_append, each_from, each_sub}
use Rattle.zbx_types.proofs.RowLemmas.{at_zero, at_suc}
use Rattle.entry_step.proofs.Feet.{there, calls_in_foot}
use Rattle.entry_step.proofs.Visited.{Memory, untouched, absent, each_triggered}
use Rattle.entry_step.proofs.Problems.{open_append, absorbed_append, home_all}
use Rattle.entry_step.proofs.Landing.{LandIn, land_off}
use Rattle.entry_step.proofs.Said.{each_flat_map, due_about, IsQuiet, about_quiet}
use Rattle.entry_step.proofs.Covered.{MakesTagged, quiet_tagged, phase_tagged, tagged_all}
use Rattle.entry_step.proofs.Coming.{Became, became, same_length, some_map, still_ordered, keeps_with, empty_keeps, empty_ordered, size_roomless, marks_listed}
use Rattle.entry_step.proofs.Phases.{none_same, phase_is}
use Rattle.entry_step.specs.Start.{Start, first_start}

-- the items of a trigger that is over the item of a value are in the value's foot
pub calls_touched : (conf : Conf) (now item time : ℕ) (value : List ℕ) (id i : ℕ) → has_id (over_of conf item) id ≡ true → IsCalled conf id i → is_one conf.items i ≡ true → touches conf (Value now item time value) (ItemKey i) ≡ true
unfolding touches
calls_touched conf now item time value id i o c one = or_right (i == item) (has_id ((feet_of conf).items item) i) (calls_in_foot conf item id i o c one)

-- the items of the triggers that an entry evaluates are in its foot
touched_calls : (conf : Conf) (memory : Memory) (number : ℕ) (entry : Entry) → Each (λ id. (i : ℕ) → IsCalled conf id i → is_one conf.items i ≡ true → touches conf entry (ItemKey i) ≡ true) (triggers_at conf memory number entry)
touched_calls conf memory number (Config now text) = unfold triggers_at in tt
touched_calls conf memory number (Tick now) = each_from (λ id. (i : ℕ) → IsCalled conf id i → is_one conf.items i ≡ true → touches conf (Tick now) (ItemKey i) ≡ true) (triggers_at conf memory number (Tick now)) (λ id j i calls one. unfold touches in refl)
touched_calls conf memory number (Value now item time value) =
    each_triggered conf memory number now item time value (λ id. (i : ℕ) → IsCalled conf id i → is_one conf.items i ≡ true → touches conf (Value now item time value) (ItemKey i) ≡ true) (λ id j o i calls one. calls_touched conf now item time value id i o calls one)

-- what isn't visited has nothing stored
pub unstored : (conf : Conf) (memory : Memory) (number : ℕ) (entry : Entry) (i : ℕ) → visit_at (visits_at conf memory number entry) i ≡ None → stored_of conf memory number entry i ≡ None
unfolding stored_of
unstored conf memory number entry i e = ap stored_by e

-- cells stay tidy
pub absent_after : (stage : Stage) (memory : Memory) (c : Cells) (number : ℕ) (entry : Entry) (i : ℕ) → IsTidy stage c → at_id stage.conf.items i ≡ None → (item_after stage.conf memory number entry i (c (ItemKey i))).history ≡ []
unfolding item_after
absent_after stage memory c number entry i tidy e = ap (λ o. with_stored o (c (ItemKey i)).history) (unstored stage.conf memory number entry i (absent stage.conf memory number entry i e)) ∙ tidy.absent i e

-- no record makes a problem without the names of its trigger's tags
failures_tagged : (stage : Stage) (memory : Memory) (number : ℕ) (entry : Entry) → Each (MakesTagged stage) (failures_at stage.conf memory number entry)
unfolding failures_at
failures_tagged stage memory number entry = quiet_tagged stage (failures_of stage.conf number (visits_at stage.conf memory number entry)) (go (visits_at stage.conf memory number entry))
  where
    by : (v : Visit) (rest : List Rec) → Each IsQuiet rest → (x : Option Item) (why : List ℕ) → Each IsQuiet (cons_option (failure_by stage.conf number why x) rest)
    by v rest h None why = h
    by v rest h (Some item) why = (tt, h)

    one : (v : Visit) (rest : List Rec) → Each IsQuiet rest → (o : ItemOutcome) → Each IsQuiet (cons_option (failure_of stage.conf number v o) rest)
    one v rest h (outcome.Stored s) = h
    one v rest h outcome.Discarded = h
    one v rest h (outcome.Failed why) = by v rest h (at_id stage.conf.items v.item) why

    go : (visits : List Visit) → Each IsQuiet (failures_of stage.conf number visits)
    go [] = tt
    go (v ∷ visits) = one v (failures_of stage.conf number visits) (go visits) v.outcome

due_tagged : (stage : Stage) (entry : Entry) (all : ℕ → List Open) → Each (MakesTagged stage) (due_at stage entry all)
unfolding due_at due_over
due_tagged stage (Config now text) all = tt
due_tagged stage (Value now item time value) all = tt
due_tagged stage (Tick now) all =
    each_flat_map (MakesTagged stage) (due_for stage now) (by_making stage all)
    (λ o. quiet_tagged stage (due_for stage now o) (about_quiet (event_in o) (due_for stage now o) (due_about stage.conf (home stage (event_in o)) o.problem o.steps now)))

records_tagged : (stage : Stage) (c : Cells) (number : ℕ) (entry : Entry) → OwnsEvents stage number → Each (MakesTagged stage) (records_at stage c number entry)
unfolding records_at judged_at
records_tagged stage c number entry own =
    each_append (MakesTagged stage) (judged_at stage c number entry) (due_at stage entry (grown stage (opens_in c) (judged_at stage c number entry)))
    (each_append (MakesTagged stage) (failures_at stage.conf (memory_in c) number entry) (phase stage one (opens_in c) (triggers_at stage.conf (memory_in c) number entry)) (failures_tagged stage (memory_in c) number entry)
    (phase_tagged stage (occasion_of (c TickKey) number entry) own (histories_after stage.conf c number entry) (opens_in c) (triggers_at stage.conf (memory_in c) number entry)))
    (due_tagged stage entry (grown stage (opens_in c) (judged_at stage c number entry)))
  where
    one : (ℕ → List Open) → ℕ → List Rec
    one = evaluated stage (occasion_of (c TickKey) number entry) (histories_after stage.conf c number entry)

pub stays_tidy : (stage : Stage) (c : Cells) (e : Numbered) → OwnsEvents stage e.number → IsTidy stage c → IsTidy stage (after stage c e)
unfolding after
stays_tidy stage c e own tidy = record {
  homes = λ id. home_all stage id (c (TriggerKey id)) (records stage c e) (tidy.homes id);
  tagged = λ id. tagged_all stage id (c (TriggerKey id)) (records stage c e) (records_tagged stage c e.number e.entry own) (tidy.tagged id);
  absent = λ i q. absent_after stage (memory_in c) c e.number e.entry i tidy q;
}

pub tidy_rows : (stage : Stage) (number : ℕ) (held : CellsView) (c : Cells) → OwnsEvents stage number → Represents stage held c → AreTidy stage number held.problems
tidy_rows stage number held c own r = record { own = own; size = r.triggers; homes = λ id. subst (AllAtHome stage id) (sym (r.problems id)) (r.tidy.homes id) }

-- What is kept behind an entry
seen_later : (b : Bool) (now seen : ℕ) → (b ≡ true → seen ≤ now) → seen ≤ cond b now seen
seen_later true now seen h = h refl
seen_later false now seen h = omega arith

-- what is kept of the steps is what they remember
pub memory_is : (stage : Stage) (held : CellsView) (c : Cells) → Represents stage held c → memory_kept held.memories ≡ memory_in c
memory_is stage held c r = fun_ext (λ i. fun_ext (λ k. ap (λ marks. memory_at marks k) (r.marks i)))

-- where rows are as many as items, one that isn't there is of none
none_there : {A : Type 0} (rows : List A) (items : List Item) (id : ℕ) → length rows ≡ length items → at_id rows id ≡ None → at_id items id ≡ None
none_there rows items id e q = none_same rows items id e q

pub failures_land : (stage : Stage) (memory : Memory) (number : ℕ) (entry : Entry) → LandIn stage (λ id. false) (failures_at stage.conf memory number entry)
unfolding failures_at
failures_land stage memory number entry = go (visits_at stage.conf memory number entry)
  where
    by : (v : Visit) (rest : List Rec) → LandIn stage (λ id. false) rest → (x : Option Item) (why : List ℕ) → LandIn stage (λ id. false) (cons_option (failure_by stage.conf number why x) rest)
    by v rest h None why = h
    by v rest h (Some item) why = (λ id e. refl, h)

    one : (v : Visit) (rest : List Rec) → LandIn stage (λ id. false) rest → (o : ItemOutcome) → LandIn stage (λ id. false) (cons_option (failure_of stage.conf number v o) rest)
    one v rest h (outcome.Stored s) = h
    one v rest h outcome.Discarded = h
    one v rest h (outcome.Failed why) = by v rest h (at_id stage.conf.items v.item) why

    go : (visits : List Visit) → LandIn stage (λ id. false) (failures_of stage.conf number visits)
    go [] = tt
    go (v ∷ visits) = one v (failures_of stage.conf number visits) (go visits) v.outcome

module _ (stage : Stage) (held : CellsView) (c : Cells) (e : Numbered) (its : OwnsEvents stage e.number) (r : Represents stage held c) (comes : ComesAfter stage.conf c e) where
  abbrev behind : ℕ → ItemCell
  behind i = item_after stage.conf (memory_in c) e.number e.entry i (c (ItemKey i))

  abbrev stored : ℕ → Option Stored
  stored = stored_of stage.conf (memory_in c) e.number e.entry

  later : (i : ℕ) → (c (ItemKey i)).seen ≤ (behind i).seen
  unfolding item_after
  later i = seen_later (touches stage.conf e.entry (ItemKey i)) (moment_of e.entry) (c (ItemKey i)).seen (comes i)

  -- where nothing is kept of an item, nothing is stored, and it has no history
  none_stored : (i : ℕ) → at_id held.items i ≡ None → stored i ≡ None
  none_stored i q = unstored stage.conf (memory_in c) e.number e.entry i (absent stage.conf (memory_in c) e.number e.entry i (none_there held.items stage.conf.items i r.items q))

  nothing : (i : ℕ) → at_id held.items i ≡ None → (behind i).history ≡ []
  unfolding item_after
  nothing i q =
      let empty : (c (ItemKey i)).history ≡ [] = subst (Keeps stage.conf i (c (ItemKey i)).seen (c (ItemKey i)).history) q (r.histories i) in
      ap (λ o. with_stored o (c (ItemKey i)).history) (none_stored i q) ∙ empty

  -- what is stored is of the foot
  moments : (i : ℕ) → stored i ≢ None → ((c (ItemKey i)).seen ≤ moment_of e.entry) × (moment_of e.entry ≤ (behind i).seen)
  unfolding item_after
  moments i some = go (touches stage.conf e.entry (ItemKey i)) refl
    where
      go : (b : Bool) → touches stage.conf e.entry (ItemKey i) ≡ b → ((c (ItemKey i)).seen ≤ moment_of e.entry) × (moment_of e.entry ≤ cond b (moment_of e.entry) (c (ItemKey i)).seen)
      go true t = (comes i t, omega arith)
      go false f = absurd (some (unstored stage.conf (memory_in c) e.number e.entry i (untouched stage.conf (memory_in c) e.number e.entry i f)))

  -- what is kept of an item, with what the entry stores of it
  pub still_kept : (i : ℕ) (next : Option CellView) → Became (at_id held.items i) (stored i) (moment_of e.entry) next → Keeps stage.conf i (behind i).seen (behind i).history next
  unfolding item_after
  still_kept i next came =
      keeps_with stage.conf i (c (ItemKey i)).seen (behind i).seen (moment_of e.entry) (c (ItemKey i)).history (stored i) (at_id held.items i) next (later i) (moments i) (none_stored i) (r.ordered i) came (r.histories i)

  -- what the evaluation sees is the histories behind the entry
  sees_one : (i : ℕ) → (is_one stage.conf.items i ≡ true → touches stage.conf e.entry (ItemKey i) ≡ true) → Sees stage.conf i (at_id held.items i) (stored i) (moment_of e.entry) (behind i).history
  sees_one i touched = go (at_id held.items i) refl
    where
      go : (o : Option CellView) → at_id held.items i ≡ o → Sees stage.conf i o (stored i) (moment_of e.entry) (behind i).history
      go None q = nothing i q
      go (Some cell) q = record {
        seen = (c (ItemKey i)).seen;
        before = (c (ItemKey i)).history;
        by = comes i (touched (ap (λ n. is_in (n + 1) i) (sym r.items) ∙ there held.items i cell q));
        keeps = subst (Keeps stage.conf i (c (ItemKey i)).seen (c (ItemKey i)).history) q (r.histories i);
        is = unfold item_after in refl;
      }

  sees_all : Each (SeesFor stage.conf held.items stored (moment_of e.entry) (histories_after stage.conf c e.number e.entry)) (triggers_at stage.conf (memory_in c) e.number e.entry)
  sees_all =
      each_sub (λ id. (i : ℕ) → IsCalled stage.conf id i → is_one stage.conf.items i ≡ true → touches stage.conf e.entry (ItemKey i) ≡ true)
      (SeesFor stage.conf held.items stored (moment_of e.entry) (histories_after stage.conf c e.number e.entry)) (triggers_at stage.conf (memory_in c) e.number e.entry)
      (λ id h i calls. sees_one i (h i calls)) (touched_calls stage.conf (memory_in c) e.number e.entry)

  -- what steps remember
  marked : (next : List (List StepMemory)) → ((id : ℕ) → at_id next id ≡ option_map (marks_after (visit_at (visits_at stage.conf (memory_in c) e.number e.entry) id)) (at_id held.memories id)) → (id : ℕ) → listed next id ≡ (behind id).marks
  unfolding item_after
  marked next marks id =
      marks_listed held.memories next (visit_at (visits_at stage.conf (memory_in c) e.number e.entry) id) id (λ q. absent stage.conf (memory_in c) e.number e.entry id (none_there held.memories stage.conf.items id r.memories q)) (marks id)
      ∙ ap (marks_after (visit_at (visits_at stage.conf (memory_in c) e.number e.entry) id)) (r.marks id)

  -- an entry that makes its failures, evaluates its triggers, which leaves these rows, and runs the steps that are due
  module _ (next : CellsView) (rows : List (List Open)) (judged made : List Rec)
      (runs : RunsOver stage (occasion_of held.tick e.number e.entry) held.items stored held.problems (triggers_at stage.conf (memory_in c) e.number e.entry) judged rows)
      (is : made ≡ (failures_at stage.conf (memory_in c) e.number e.entry ++ judged) ++ due_at stage e.entry (problems_at rows)) (lands : Absorbed stage rows (due_at stage e.entry (problems_at rows)) next.problems)
      (came : CameIn (moment_of e.entry) (visits_at stage.conf (memory_in c) e.number e.entry) held.items next.items held.memories next.memories) (ticks : next.tick ≡ tick_with held.tick e.entry) where
    abbrev run : Runs stage (evaluated stage (occasion_of held.tick e.number e.entry) (histories_after stage.conf c e.number e.entry)) held.problems (triggers_at stage.conf (memory_in c) e.number e.entry) judged rows
    run = runs (histories_after stage.conf c e.number e.entry) sees_all (tidy_rows stage e.number held c its r)

    run_judged : failures_at stage.conf (memory_in c) e.number e.entry ++ judged ≡ judged_at stage c e.number e.entry
    unfolding judged_at
    run_judged = ap (λ xs. failures_at stage.conf (memory_in c) e.number e.entry ++ xs)
        (run.records
        ∙ ap (λ p. phase stage (evaluated stage (occasion_of held.tick e.number e.entry) (histories_after stage.conf c e.number e.entry)) p (triggers_at stage.conf (memory_in c) e.number e.entry)) (fun_ext r.problems)
        ∙ ap (λ t. phase stage (evaluated stage (occasion_of t e.number e.entry) (histories_after stage.conf c e.number e.entry)) (opens_in c) (triggers_at stage.conf (memory_in c) e.number e.entry)) r.tick)

    run_left : problems_at rows ≡ grown stage (opens_in c) (judged_at stage c e.number e.entry)
    run_left = fun_ext (λ id. run.changes id ∙ ap (λ os. absorbed_all stage id os judged) (r.problems id)
        ∙ ap (λ os. absorbed_all stage id os judged) (sym (land_off stage (λ u. false) id (c (TriggerKey id)) (failures_at stage.conf (memory_in c) e.number e.entry) (failures_land stage (memory_in c) e.number e.entry) refl))
        ∙ sym (absorbed_append stage id (c (TriggerKey id)) (failures_at stage.conf (memory_in c) e.number e.entry) judged) ∙ ap (absorbed_all stage id (c (TriggerKey id))) run_judged)

    pub run_records : made ≡ records stage c e
    unfolding records_at
    run_records =
        is ∙ ap (λ rs. rs ++ due_at stage e.entry (problems_at rows)) run_judged
        ∙ ap (λ all. judged_at stage c e.number e.entry ++ due_at stage e.entry all) run_left

    left_is : (id : ℕ) → absorbed_all stage id (problems_at rows id) (due_at stage e.entry (problems_at rows)) ≡ absorbed_all stage id (c (TriggerKey id)) (records stage c e)
    unfolding records_at
    left_is id =
        ap (λ (all : ℕ → List Open). absorbed_all stage id (all id) (due_at stage e.entry all)) run_left
        ∙ sym (absorbed_append stage id (c (TriggerKey id)) (judged_at stage c e.number e.entry) (due_at stage e.entry (grown stage (opens_in c) (judged_at stage c e.number e.entry))))

    pub run_represents : Represents stage next (after stage c e)
    unfolding after stored_of
    run_represents = record {
      items = same_length next.items held.items (λ id. sym (some_map kept_of (at_id next.items id)) ∙ ap is_some (sym (at_map kept_of next.items id) ∙ came.cells id ∙ ap (option_map (kept_after (moment_of e.entry) (visit_at (visits_at stage.conf (memory_in c) e.number e.entry) id))) (at_map kept_of held.items id))
          ∙ some_map (kept_after (moment_of e.entry) (visit_at (visits_at stage.conf (memory_in c) e.number e.entry) id)) (option_map kept_of (at_id held.items id)) ∙ some_map kept_of (at_id held.items id)) ∙ r.items;
      ordered = λ id. still_ordered (at_id held.items id) (at_id next.items id) (stored id) (moment_of e.entry) (own id) (r.ordered id);
      memories = same_length next.memories held.memories (λ id. ap is_some (came.marks id) ∙ some_map (marks_after (visit_at (visits_at stage.conf (memory_in c) e.number e.entry) id)) (at_id held.memories id)) ∙ r.memories;
      triggers = lands.size ∙ run.size ∙ r.triggers;
      histories = λ id. still_kept id (at_id next.items id) (own id);
      marks = marked next.memories came.marks;
      problems = λ id. lands.each id ∙ left_is id;
      tick = ticks ∙ ap (λ t. tick_with t e.entry) r.tick;
      tidy = stays_tidy stage c e its r.tidy;
    }
      where
        own : (id : ℕ) → Became (at_id held.items id) (stored id) (moment_of e.entry) (at_id next.items id)
        own id = became held.items next.items (moment_of e.entry) id (stored id) (came.cells id)

none_option : (o : Option ℕ) → option_or o None ≡ o
none_option None = refl
none_option (Some t) = refl

-- nothing comes into what is kept where nothing is visited
pub still : (now : ℕ) (visits : List Visit) (items : List CellView) (memories : List (List StepMemory)) → visits ≡ [] → CameIn now visits items items memories memories
still now visits items memories none = subst (λ vs. CameIn now vs items items memories memories) (sym none) (record { cells = λ id. same (at_id (map kept_of items) id); marks = λ id. same (at_id memories id) })
  where
    same : {A : Type 0} (o : Option A) → o ≡ option_map (λ x. x) o
    same None = refl
    same (Some x) = refl

pub config_steps : (stage : Stage) (held : CellsView) (e : Numbered) (now : ℕ) (text : List ℕ) (made : List Rec) → e.entry ≡ Config now text → made ≡ [] → StepsTo stage held e made held
config_steps stage held e now text made is none c own r comes fits =
    subst (λ entry. (made ≡ records stage c (record { number = e.number; entry = entry })) × Represents stage held (after stage c (record { number = e.number; entry = entry }))) (sym is) (both (subst (λ entry. ComesAfter stage.conf c (record { number = e.number; entry = entry })) is comes))
  where
    at : Numbered
    at = record { number = e.number; entry = Config now text }

    both : ComesAfter stage.conf c at → (made ≡ records stage c at) × Represents stage held (after stage c at)
    both before =
        let runs : RunsOver stage (occasion_of held.tick e.number (Config now text)) held.items (stored_of stage.conf (memory_in c) e.number (Config now text)) held.problems (triggers_at stage.conf (memory_in c) e.number (Config now text)) [] held.problems =
        unfold triggers_at in λ items sees tidy. record { records = refl; changes = λ id. refl; size = refl } in
        let made_is : made ≡ (failures_at stage.conf (memory_in c) e.number (Config now text) ++ []) ++ due_at stage (Config now text) (problems_at held.problems) = unfold failures_at in unfold due_at in none in
        let lands : Absorbed stage held.problems (due_at stage (Config now text) (problems_at held.problems)) held.problems = unfold due_at in record { each = λ id. refl; size = refl } in
        let came : CameIn now (visits_at stage.conf (memory_in c) e.number (Config now text)) held.items held.items held.memories held.memories = still now [] held.items held.memories refl in (
          run_records stage held c at own r before held held.problems [] made runs made_is lands came (sym (none_option held.tick)),
          run_represents stage held c at own r before held held.problems [] made runs made_is lands came (sym (none_option held.tick)),
        )

-- A Tick
ticks_on : (stage : Stage) (held next : CellsView) (number now : ℕ) (made : List Rec) → TakesTick stage (occasion_of held.tick number (Tick now)) held made next → StepsTo stage held (record { number = number; entry = Tick now }) made next
ticks_on stage held next number now made takes c own r comes fits =
    let runs : RunsOver stage (occasion_of held.tick number (Tick now)) held.items (stored_of stage.conf (memory_in c) number (Tick now)) held.problems (triggers_at stage.conf (memory_in c) number (Tick now)) takes.judged takes.rows =
    unfold stored_of in unfold triggers_at in takes.runs in
    let is : made ≡ (failures_at stage.conf (memory_in c) number (Tick now) ++ takes.judged) ++ due_at stage (Tick now) (problems_at takes.rows) = unfold failures_at in unfold due_at in takes.records in
    let lands : Absorbed stage takes.rows (due_at stage (Tick now) (problems_at takes.rows)) next.problems = unfold due_at in takes.changes in
    let came : CameIn now (visits_at stage.conf (memory_in c) number (Tick now)) held.items next.items held.memories next.memories =
    subst (λ items. CameIn now [] held.items items held.memories next.memories) (sym takes.items) (subst (λ memories. CameIn now [] held.items held.items held.memories memories) (sym takes.memories) (still now [] held.items held.memories refl)) in (
      run_records stage held c (record { number = number; entry = Tick now }) own r comes next takes.rows takes.judged made runs is lands came takes.tick,
      run_represents stage held c (record { number = number; entry = Tick now }) own r comes next takes.rows takes.judged made runs is lands came takes.tick,
    )

pub tick_taken : (stage : Stage) (held next : CellsView) (e : Numbered) (now : ℕ) (made : List Rec) (occasion : Occasion) → e.entry ≡ Tick now → occasion ≡ occasion_of held.tick e.number e.entry → TakesTick stage occasion held made next → StepsTo stage held e made next
tick_taken stage held next e now made occasion is on takes =
    subst (λ entry. StepsTo stage held (record { number = e.number; entry = entry }) made next) (sym is)
    (ticks_on stage held next e.number now made (subst (λ entry. TakesTick stage (occasion_of held.tick e.number entry) held made next) is (subst (λ o. TakesTick stage o held made next) on takes)))

pub own_touched : (conf : Conf) (now item time : ℕ) (value : List ℕ) → touches conf (Value now item time value) (ItemKey item) ≡ true
unfolding touches
own_touched conf now item time value = or_left (item == item) (has_id ((feet_of conf).items item) item) (eq-eqb item item refl)

-- A value: its visits are those over the memories that are kept
value_on : (stage : Stage) (held next : CellsView) (number now item time : ℕ) (value : List ℕ) (made : List Rec)
    → TakesIn stage (occasion_of held.tick number (Value now item time value)) (visits_at stage.conf (memory_kept held.memories) number (Value now item time value)) (triggers_at stage.conf (memory_kept held.memories) number (Value now item time value)) held made next
    → StepsTo stage held (record { number = number; entry = Value now item time value }) made next
value_on stage held next number now item time value made takes c own r comes fits = taken (memory_kept held.memories) (memory_is stage held c r) takes
  where
    entry : Entry
    entry = Value now item time value

    e : Numbered
    e = record { number = number; entry = entry }

    both : TakesIn stage (occasion_of held.tick number entry) (visits_at stage.conf (memory_in c) number entry) (triggers_at stage.conf (memory_in c) number entry) held made next → (made ≡ records stage c e) × Represents stage next (after stage c e)
    both t =
        let runs : RunsOver stage (occasion_of held.tick number entry) held.items (stored_of stage.conf (memory_in c) number entry) held.problems (triggers_at stage.conf (memory_in c) number entry) t.judged next.problems = unfold stored_of in t.runs in
        let is : made ≡ (failures_at stage.conf (memory_in c) number entry ++ t.judged) ++ due_at stage entry (problems_at next.problems) =
        unfold failures_at in unfold due_at in t.records ∙ sym (append-nil (failures_of stage.conf number (visits_at stage.conf (memory_in c) number entry) ++ t.judged)) in
        let lands : Absorbed stage next.problems (due_at stage entry (problems_at next.problems)) next.problems = unfold due_at in record { each = λ id. refl; size = refl } in (
          run_records stage held c e own r comes next next.problems t.judged made runs is lands t.came (t.tick ∙ sym (none_option held.tick)),
          run_represents stage held c e own r comes next next.problems t.judged made runs is lands t.came (t.tick ∙ sym (none_option held.tick)),
        )

    taken : (memory : Memory) → memory ≡ memory_in c → TakesIn stage (occasion_of held.tick number entry) (visits_at stage.conf memory number entry) (triggers_at stage.conf memory number entry) held made next → (made ≡ records stage c e) × Represents stage next (after stage c e)
    taken memory same t = both (subst (λ m. TakesIn stage (occasion_of held.tick number entry) (visits_at stage.conf m number entry) (triggers_at stage.conf m number entry) held made next) same t)

-- the same, on the occasion of the entry
pub value_taken : (stage : Stage) (held next : CellsView) (e : Numbered) (now item time : ℕ) (value : List ℕ) (made : List Rec) (occasion : Occasion) → e.entry ≡ Value now item time value → occasion ≡ occasion_of held.tick e.number e.entry
    → TakesIn stage occasion (visits_at stage.conf (memory_kept held.memories) occasion.number (Value occasion.now item time value)) (triggers_at stage.conf (memory_kept held.memories) occasion.number (Value occasion.now item time value)) held made next → StepsTo stage held e made next
value_taken stage held next e now item time value made occasion is on takes =
    subst (λ entry. StepsTo stage held (record { number = e.number; entry = entry }) made next) (sym is)
    (value_on stage held next e.number now item time value made
    (subst (λ o. TakesIn stage o (visits_at stage.conf (memory_kept held.memories) o.number (Value o.now item time value)) (triggers_at stage.conf (memory_kept held.memories) o.number (Value o.now item time value)) held made next) (on ∙ ap (occasion_of held.tick e.number) is) takes))

-- Over logs
seen_by : (start : Start) (log : List Numbered) (i : ℕ) → Suits start log → seen_of start log i ≤ last_moment start log
seen_by start [] i h = omega arith
seen_by start (e ∷ log) i h = go (touches start.stage.conf e.entry (ItemKey i)) (seen_by start log i h.0)
  where
    go : (b : Bool) → seen_of start log i ≤ last_moment start log → cond b (moment_of e.entry) (seen_of start log i) ≤ moment_of e.entry
    go true k = omega arith
    go false k = let m = h.1 in omega arith

pub comes_after : (start : Start) (c : Cells) (log : List Numbered) (e : Numbered) → AreCellsOf start c log → Suits start (e ∷ log) → ComesAfter start.stage.conf c e
unfolding AreCellsOf look
comes_after start c log e stand h id t =
    let k = seen_by start log id h.0 in
    let m = h.1 in
    let s : (c (ItemKey id)).seen ≡ seen_of start log id = ap (λ x. (x (ItemKey id)).seen) stand in omega arith

judged_are : (start : Start) (log : List Numbered) (rs : List Rec) (e : Numbered) → judged_at start.stage (look start log rs) e.number e.entry ≡ judged_of start log e e.entry rs
unfolding judged_at judged_of look item_after
judged_are start log rs e =
    ap (λ xs. failures ++ xs)
    (ap (λ p. phase start.stage one p ids) (sym quietly) ∙ phase_is start.stage one (rs ++ failures) ids)
  where
    failures : List Rec
    failures = failures_at start.stage.conf (memory_of start log) e.number e.entry

    ids : List ℕ
    ids = triggers_at start.stage.conf (memory_of start log) e.number e.entry

    one : (ℕ → List Open) → ℕ → List Rec
    one = evaluated start.stage (occasion_of (first_tick start log) e.number e.entry) (λ i. with_stored (stored_of start.stage.conf (memory_of start log) e.number e.entry i) (history_of start log i))

    quietly : open_of start.stage (rs ++ failures) ≡ open_of start.stage rs
    quietly = fun_ext (λ id. open_append start.stage id rs failures ∙ land_off start.stage (λ id. false) id (open_of start.stage rs id) failures (failures_land start.stage (memory_of start log) e.number e.entry) refl)

pub records_are : (start : Start) (log : List Numbered) (rs : List Rec) (e : Numbered) → records start.stage (look start log rs) e ≡ out_of start log e e.entry rs
unfolding records_at out_of look
records_are start log rs e =
    let more : List Rec = judged_of start log e e.entry rs in
    ap (λ xs. xs ++ due_at start.stage e.entry (grown start.stage (opens_in (look start log rs)) xs)) (judged_are start log rs e)
    ∙ ap (λ all. more ++ due_at start.stage e.entry all) (fun_ext (λ id. sym (open_append start.stage id rs more)))

pub after_is : (start : Start) (log : List Numbered) (rs : List Rec) (e : Numbered) → after start.stage (look start log rs) e ≡ look start (e ∷ log) (rs ++ out_of start log e e.entry rs)
unfolding after look item_after marks_of
after_is start log rs e = fun_ext go
  where
    go : (k : Key) → after start.stage (look start log rs) e k ≡ look start (e ∷ log) (rs ++ out_of start log e e.entry rs) k
    go (ItemKey i) = refl
    go (TriggerKey id) = ap (absorbed_all start.stage id (open_of start.stage rs id)) (records_are start log rs e) ∙ sym (open_append start.stage id rs (out_of start log e e.entry rs))
    go TickKey = refl

-- One entry over cells that stand for a log
pub one_entry : (start : Start) (c : Cells) (log : List Numbered) (e : Numbered) → AreCellsOf start c log → (records start.stage c e ≡ out_of start log e e.entry (start.records ++ replay start log)) × AreCellsOf start (after start.stage c e) (e ∷ log)
unfolding AreCellsOf
one_entry start c log e h =
    let rs = start.records ++ replay start log in (
      ap (λ x. records start.stage x e) h ∙ records_are start log rs e,
      ap (λ x. after start.stage x e) h ∙ after_is start log rs e ∙ ap (look start (e ∷ log)) (append_assoc start.records (replay start log) (out_of start log e e.entry rs)),
    )

pub steps_out : (start : Start) (held next : CellsView) (e : Numbered) (made : List Rec) → StepsTo start.stage held e made next → OwnsEvents start.stage e.number → (log : List Numbered) → Holds start held log → Suits start (e ∷ log)
    → (made ≡ out_of start log e e.entry (start.records ++ replay start log)) × Holds start next (e ∷ log)
steps_out start held next e made steps own log h suit =
    let both = steps h.cells own h.represented (comes_after start h.cells log e h.stand suit) suit.2 in
    let one = one_entry start h.cells log e h.stand in
    (both.0 ∙ one.0, record { cells = after start.stage h.cells e; stand = one.1; represented = both.1 })

-- Cells of a configuration, before its first entry
replicated_rows : (n id : ℕ) → problems_at (replicate n []) id ≡ []
unfolding problems_at
replicated_rows n zero = ap (λ o. unwrap_or o []) (at_zero (replicate n []))
replicated_rows n (suc k) = ap (λ o. unwrap_or o []) (at_suc (replicate n []) k) ∙ go n k
  where
    at : ℕ → ℕ → Option (List Open)
    at n k = slice_get (replicate n []) k

    go : (n k : ℕ) → unwrap_or (at n k) [] ≡ []
    go zero k = refl
    go (suc n) zero = refl
    go (suc n) (suc k) = go n k

pub length_replicated : {A : Type 0} (n : ℕ) (x : A) → length (replicate n x) ≡ n
length_replicated zero x = refl
length_replicated (suc n) x = ap suc (length_replicated n x)

pub holds_nothing : (conf : Conf) (made : ItemCells) (problems : List (List Open)) (cache : CacheId) → AreNew conf made → problems ≡ replicate (length conf.triggers) []
    → Holds (first_start conf) (record { items = map roomless made.cells.items; memories = made.memories.items; problems = problems; tick = None; cache = cache }) []
unfolding AreCellsOf look marks_of Rattle.preprocess.specs.Laws.marks_behind
holds_nothing conf made problems cache new none = record {
  cells = look (first_start conf) [] [];
  stand = refl;
  represented = record {
    items = size_roomless made.cells.items ∙ same_length made.cells.items conf.items (λ id. sym (some_map kept_of (at_id made.cells.items id)) ∙ ap is_some (sym (at_map kept_of made.cells.items id) ∙ holds.kept id) ∙ some_map (λ (item : Item). kept_behind conf [] id) (at_id conf.items id));
    ordered = empty_ordered conf made holds;
    memories = same_length made.memories.items conf.items (λ id. ap is_some (holds.memories id) ∙ some_map (λ (item : Item). marks_behind conf [] id) (at_id conf.items id));
    triggers = ap length none ∙ length_replicated (length conf.triggers) [];
    histories = empty_keeps conf made holds;
    marks = λ id. ap (λ o. unwrap_or o []) (holds.memories id) ∙ first (at_id conf.items id) (marks_behind conf [] id) (λ q. ap (λ o. option_map_or no_marks o []) q);
    problems = λ id. ap (λ xs. problems_at xs id) none ∙ replicated_rows (length conf.triggers) id;
    tick = refl;
    tidy = record { homes = λ id. tt; tagged = λ id. tt; absent = λ id q. refl };
  };
}
  where
    holds : HoldLog conf [] made
    holds = hold_nothing conf made new

    first : (o : Option Item) (marks : List StepMemory) → (o ≡ None → marks ≡ []) → unwrap_or (option_map (λ (item : Item). marks) o) [] ≡ marks
    first None marks h = sym (h refl)
    first (Some item) marks h = refl

pub ok_sub : {T E : Type 0} (r : Result T E) (P Q : T → Type 0) → ((x : T) → P x → Q x) → IfOk r P → IfOk r Q
ok_sub (Ok x) P Q f p = f x p
ok_sub (Err x) P Q f p = tt

pub ok_const : {T E : Type 0} (r : Result T E) (P : Type 0) → P → OnOk r P
ok_const (Ok x) P p = p
ok_const (Err x) P p = tt

pub config_counted : (conf : Conf) (memory : Memory) (number steps now : ℕ) (text : List ℕ) (entry : Entry) → entry ≡ Config now text → steps ≡ steps + length (triggers_at conf memory number entry)
unfolding triggers_at
config_counted conf memory number steps now text entry is = let t : length (triggers_at conf memory number entry) ≡ 0 = ap (λ x. length (triggers_at conf memory number x)) is in omega arith

pub tick_counted : (conf : Conf) (memory : Memory) (number now : ℕ) (entry : Entry) → entry ≡ Tick now → length (timed_triggers conf) ≡ length (triggers_at conf memory number entry)
unfolding triggers_at
tick_counted conf memory number now entry is = sym (ap (λ x. length (triggers_at conf memory number x)) is)

pub put_back_none : (rows : List (List Open)) (taken : List Row) → taken ≡ [] → put_back rows taken ≡ rows
unfolding put_back
put_back_none rows taken e = ap (λ t. with_rows rows (reverse t)) e

pub on_ok : {T E : Type 0} (r : Result T E) (P : T → Type 0) (Q : Type 0) → ((x : T) → P x → Q) → IfOk r P → OnOk r Q
on_ok (Ok x) P Q f p = f x p
on_ok (Err x) P Q f p = tt
