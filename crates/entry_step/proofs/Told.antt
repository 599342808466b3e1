-- Problems that are told right, and that each entry leaves them so.
use Rattle.std.proofs.Common.{◌≡◌, ◌≤◌, ℕ, true, Option, Some, None, List, [], ◌∷◌, ◌++◌, refl, sym, ◌∙◌, subst, eqb-true, arith}
use Rattle.std.specs.Prelude.{flat_map}
use Rattle.zbx_types.specs.Ids.{at_id}
use Rattle.zbx_types.specs.declared.conf.Conf.{Conf}
use Rattle.zbx_types.specs.declared.entries.Cause2.TheVariants as causes
use Rattle.zbx_types.specs.declared.entries.Entry.{Entry}
use Rattle.zbx_types.specs.declared.entries.Entry.TheVariants.{Config, Value, Tick}
use Rattle.zbx_types.specs.declared.entries.Held.{Held}
use Rattle.zbx_types.specs.declared.entries.Rec.{Rec}
use Rattle.zbx_types.specs.declared.entries.Rec.TheVariants.{Failure, Problem, Recovery, Step, Message}
use Rattle.zbx_types.specs.declared.entries.Stored.{Stored}
use Rattle.zbx_types.specs.declared.triggers.Trigger.{Trigger}
use Rattle.trigger_state.specs.Stages.{Stage, OwnsEvents, home}
use Rattle.trigger_state.specs.Problems.{event_in, opens, open_of, grown}
use Rattle.trigger_state.specs.Verdicts.{is_held}
use Rattle.trigger_state.specs.declared.answer.Verdict.{Verdict}
use Rattle.trigger_state.specs.declared.answer.Verdict.TheVariants.{Nothing, New, Close}
use Rattle.trigger_state.specs.declared.problems.Open.{Open}
use Rattle.entry_step.specs.Cells.{Cells, TickKey, opens_in, memory_in, histories_after, judged_at, records_at}
use Rattle.entry_step.specs.Due.{by_making, due_for, due_over, due_at}
use Rattle.entry_step.specs.Each.{Each}
use Rattle.entry_step.specs.Occasions.{occasion_of}
use Rattle.entry_step.specs.Records.{problem_of, closed_records, ruled, verdict_records, evaluated, phase, triggers_at, failures_at}
use Rattle.entry_step.specs.Seen.{shown_values, seen_in}
use Rattle.entry_step.specs.Whole.{IsTold, AreTold}
use Rattle.entry_step.specs.declared.occasions.Occasion.{Occasion}
use Rattle.entry_step.proofs.Covered.{problem_tagged}
use Rattle.entry_step.proofs.Landing.{judged_is, judged_has, evaluated_none}
use Rattle.entry_step.proofs.Members.{each_append, each_from, each_sub}
pub use Rattle.entry_step.proofs.Owning.{own_home}
use Rattle.entry_step.proofs.Problems.{open_append, each_open}
use Rattle.entry_step.proofs.Replays.{failures_quiet}
use Rattle.entry_step.proofs.Said.{each_flat_map, due_about, IsQuiet, about_quiet, closed_quiet, begun_quiet}

-- a record makes no problem but one that is told right
abbrev pub MakesTold : Stage → ℕ → Rec → Type 0
MakesTold stage number r = (id : ℕ) → opens stage id r ≡ true → IsTold stage.conf number id r

quiet_told : (stage : Stage) (number : ℕ) (rs : List Rec) → Each IsQuiet rs → Each (MakesTold stage number) rs
quiet_told stage number rs q = each_sub IsQuiet (MakesTold stage number) rs one q
  where
    one : (r : Rec) → IsQuiet r → (id : ℕ) → opens stage id r ≡ true → IsTold stage.conf number id r
    one (Problem event now severity suppressed host trigger name tags) is id e = absurd is
    one (Recovery event by now cause) is id e = cc
    one (Failure n host key why) is id e = cc
    one (Step event action step now) is id e = cc
    one (Message event action step recipient subject body) is id e = cc

-- where the events of this entry are of the triggers whose ids are in them
module _ (stage : Stage) (number : ℕ) (own : OwnsEvents stage number) where
  problem_told : (now : ℕ) (values : List (Option Held)) (id : ℕ) (trigger : Trigger) → at_id stage.conf.triggers id ≡ Some trigger → MakesTold stage number (problem_of stage.conf number now values id trigger)
  unfolding problem_of
  problem_told now values id trigger there j e =
      subst (λ k. IsTold stage.conf number k (problem_of stage.conf number now values id trigger)) (sym (own id) ∙ eqb-true (home stage (record { number = number; trigger = id })) j e)
      (record { trigger = trigger; there = there; host = refl; name = refl; tags = problem_tagged stage.conf number now values id trigger there; upto = omega arith })

  verdict_told : (now : ℕ) (values : List (Option Held)) (all : ℕ → List Open) (id : ℕ) (trigger : Trigger) → at_id stage.conf.triggers id ≡ Some trigger → (v : Verdict) → Each (MakesTold stage number) (verdict_records stage number now values id trigger all v)
  unfolding verdict_records
  verdict_told now values all id trigger there Nothing = tt
  verdict_told now values all id trigger there New =
      let problem : Rec = problem_of stage.conf number now values id trigger in
      (problem_told now values id trigger there, quiet_told stage number _ (begun_quiet stage number now all id problem (ruled stage problem all)))
  verdict_told now values all id trigger there (Close events) =
      quiet_told stage number (flat_map (closed_records stage.conf number now causes.Expression (all id)) events) (closed_quiet stage.conf number now causes.Expression (λ e. all id) events)

module _ (stage : Stage) (occasion : Occasion) (own : OwnsEvents stage occasion.number) (items : ℕ → List Stored) where
  evaluated_told : (all : ℕ → List Open) (id : ℕ) → Each (MakesTold stage occasion.number) (evaluated stage occasion items all id)
  evaluated_told all id = go (at_id stage.conf.triggers id) refl
    where
      go : (t : Option Trigger) → at_id stage.conf.triggers id ≡ t → Each (MakesTold stage occasion.number) (evaluated stage occasion items all id)
      go None e = subst (Each (MakesTold stage occasion.number)) (sym (evaluated_none stage occasion items all id e)) tt
      go (Some trigger) e =
          subst (Each (MakesTold stage occasion.number)) (sym (judged_is stage occasion items all id trigger e))
          (judged_has (λ x. Unit {0}) (Each (MakesTold stage occasion.number)) stage occasion (seen_in items occasion stage.conf.utc_offset trigger) id trigger (is_held stage.conf all id) all
          (λ v c. verdict_told stage occasion.number own occasion.now (shown_values items occasion.now trigger) all id trigger e v) (each_from (λ o. Unit {0}) (all id) (λ o i. tt)))

  phase_told : (all : ℕ → List Open) (ids : List ℕ) → Each (MakesTold stage occasion.number) (phase stage (evaluated stage occasion items) all ids)
  phase_told all [] = tt
  phase_told all (id ∷ ids) =
      let rs = evaluated stage occasion items all id in
      each_append (MakesTold stage occasion.number) rs (phase stage (evaluated stage occasion items) (grown stage all rs) ids) (evaluated_told all id) (phase_told (grown stage all rs) ids)

due_quiet : (stage : Stage) (entry : Entry) (all : ℕ → List Open) → Each IsQuiet (due_at stage entry all)
unfolding due_at due_over
due_quiet stage (Config now text) all = tt
due_quiet stage (Value now item time value) all = tt
due_quiet stage (Tick now) all =
    each_flat_map IsQuiet (due_for stage now) (by_making stage all)
    (λ o. about_quiet (event_in o) (due_for stage now o) (due_about stage.conf (home stage (event_in o)) o.problem o.steps now))

-- so does no record of an entry
pub records_told : (stage : Stage) (c : Cells) (number : ℕ) (entry : Entry) → OwnsEvents stage number → Each (MakesTold stage number) (records_at stage c number entry)
unfolding records_at judged_at
records_told stage c number entry own =
    each_append (MakesTold stage number) (judged_at stage c number entry) (due_at stage entry (grown stage (opens_in c) (judged_at stage c number entry)))
    (each_append (MakesTold stage number) (failures_at stage.conf (memory_in c) number entry) (phase stage one (opens_in c) (triggers_at stage.conf (memory_in c) number entry))
    (quiet_told stage number (failures_at stage.conf (memory_in c) number entry) (failures_quiet stage.conf (memory_in c) number entry).0)
    (phase_told stage (occasion_of (c TickKey) number entry) own (histories_after stage.conf c number entry) (opens_in c) (triggers_at stage.conf (memory_in c) number entry)))
    (quiet_told stage number (due_at stage entry (grown stage (opens_in c) (judged_at stage c number entry))) (due_quiet stage entry (grown stage (opens_in c) (judged_at stage c number entry))))
  where
    one : (ℕ → List Open) → ℕ → List Rec
    one = evaluated stage (occasion_of (c TickKey) number entry) (histories_after stage.conf c number entry)

pub told_later : (conf : Conf) (number later id : ℕ) (problem : Rec) → number ≤ later → IsTold conf number id problem → IsTold conf later id problem
told_later conf number later id problem l told =
    record { trigger = told.trigger; there = told.there; host = told.host; name = told.name; tags = told.tags; upto = let u = told.upto in omega arith }

-- open problems that are told right, and some more records
pub told_with : (stage : Stage) (number later : ℕ) (rs more : List Rec) → number ≤ later → AreTold stage number rs → Each (MakesTold stage later) more → AreTold stage later (rs ++ more)
told_with stage number later rs more l told makes = λ id.
    subst (Each (λ (o : Open). IsTold stage.conf later id o.problem)) (sym (open_append stage id rs more))
    (each_open (IsTold stage.conf later id) stage id (open_of stage rs id) more (each_sub (MakesTold stage later) (λ r. opens stage id r ≡ true → IsTold stage.conf later id r) more (λ r t. t id) makes)
    (each_sub (λ (o : Open). IsTold stage.conf number id o.problem) (λ (o : Open). IsTold stage.conf later id o.problem) (open_of stage rs id) (λ o t. told_later stage.conf number later id o.problem l t) (told id)))
