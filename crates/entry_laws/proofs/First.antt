-- The first Config of a log carries nothing over.
use Rattle.std.proofs.Common.{◌≡◌, ℕ, zero, suc, Bool, true, false, cond, not, Option, Some, None, List, [], ◌∷◌, ◌++◌, map, filter, take, refl, sym, ◌∙◌, ap}
use mathlib.Core.Path.{fun_ext}
use Rattle.std.specs.Prelude.{flat_map, option_and_then}
use Rattle.std.specs.Option.{option_map_or}
use Rattle.zbx_types.specs.Ids.{at_id}
use Rattle.zbx_types.specs.declared.conf.Conf.{Conf}
use Rattle.zbx_types.specs.declared.entries.Cause2.TheVariants as causes
use Rattle.zbx_types.specs.declared.entries.Entry.TheVariants.{Config}
use Rattle.zbx_types.specs.declared.entries.Numbered.{Numbered}
use Rattle.zbx_types.specs.declared.entries.Rec.{Rec}
use Rattle.zbx_types.specs.declared.entries.Stored.{Stored}
use Rattle.zbx_types.specs.declared.items.Item.{Item}
use Rattle.zbx_types.specs.declared.steps.StepSpec.{StepSpec}
use Rattle.prep_steps.specs.Outcomes.{unmarked}
use Rattle.prep_steps.specs.declared.memory.StepMemory.{StepMemory}
use Rattle.preprocess.specs.Cells.{no_marks}
use Rattle.value_cache.specs.Cells.{trim}
use Rattle.value_cache.specs.Keeps.{keep_of}
use Rattle.value_cache.specs.declared.keeping.Keep.{Keep}
use Rattle.trigger_state.specs.Carry.{is_gone, origin_in}
use Rattle.trigger_state.specs.Problems.{event_in, open_of}
use Rattle.trigger_state.specs.Stages.{Stage, first_stage}
use Rattle.trigger_state.specs.declared.stage.Origin.{Origin}
use Rattle.trigger_state.specs.declared.problems.Open.{Open}
use Rattle.preprocess.specs.Carry.{old_item, carried_history, same_step, carried_along, steps_of, carried_for, carried_marks}
use Rattle.entry_step.specs.Carry.{removed}
use Rattle.entry_step.specs.Due.{by_making, due_at}
use Rattle.entry_laws.specs.FirstConfig.{FirstConfig}
use Rattle.entry_step.specs.History.{stored_of, marks_of, history_of}
use Rattle.conf_index.specs.Order.{order}
use Rattle.entry_step.specs.Records.{triggers_at, failures_at, judged_of, out_of, replay, recovery_of}
use Rattle.entry_step.specs.Start.{Start, first_start}

nothing_open : (stage : Stage) (ids : List ℕ) → flat_map (open_of stage []) ids ≡ []
nothing_open stage [] = refl
nothing_open stage (id ∷ ids) = nothing_open stage ids

nothing_made : (stage : Stage) → by_making stage (open_of stage []) ≡ []
unfolding by_making
nothing_made stage = rw (nothing_open stage (order stage.conf)) refl

take_nothing : (n : ℕ) → ◌≡◌ {A = List Stored} (take n []) []
take_nothing zero = refl
take_nothing (suc n) = refl

trim_nothing : (keep : Keep) (now : ℕ) → trim keep now [] ≡ []
unfolding trim
trim_nothing keep now = take_nothing keep.count

no_history : (conf : Conf) (now : ℕ) (x : Option ℕ) → option_map_or (λ before. trim (keep_of conf before) now []) x [] ≡ []
no_history conf now None = refl
no_history conf now (Some before) = trim_nothing (keep_of conf before) now

-- steps that remember nothing go on so
all_unmarked : (olds steps : List StepSpec) → carried_along olds (map (λ s. unmarked) olds) steps ≡ map (λ s. unmarked) steps
all_unmarked olds [] = refl
all_unmarked [] (step ∷ steps) = refl
all_unmarked (old ∷ olds) (step ∷ steps) = go (same_step old step) (all_unmarked olds steps)
  where
    go : (b : Bool) → carried_along olds (map (λ s. unmarked) olds) steps ≡ map (λ s. unmarked) steps
        → cond b (unmarked ∷ carried_along olds (map (λ s. unmarked) olds) steps) (map (λ s. unmarked) (step ∷ steps)) ≡ map (λ s. unmarked) (step ∷ steps)
    go true ih = ap (λ ms. unmarked ∷ ms) ih
    go false ih = refl

no_steps_marked : (item : Item) (x : Option Item) → carried_along (option_map_or (λ (i : Item). i.steps) x []) (option_map_or no_marks x []) item.steps ≡ no_marks item
no_steps_marked item None = all_unmarked [] item.steps
no_steps_marked item (Some old) = all_unmarked old.steps item.steps

module _ (conf : Conf) where
  abbrev nothing : ℕ → List StepMemory
  nothing id = option_map_or no_marks (at_id conf.items id) []

  for_item : (item : Item) (x : Option ℕ) → option_map_or (λ before. carried_along (steps_of conf before) (nothing before) item.steps) x (no_marks item) ≡ no_marks item
  for_item item None = refl
  for_item item (Some before) = no_steps_marked item (at_id conf.items before)

  no_marks_yet : (x : Option Item) → option_map_or (carried_for conf conf nothing) x [] ≡ option_map_or no_marks x []
  no_marks_yet None = refl
  no_marks_yet (Some item) = for_item item (old_item conf conf item)

  abbrev made : ℕ → ℕ → List Origin → (ℕ → List Stored) → (ℕ → List StepMemory) → List Rec → Start
  made number now origins histories marks rs = record {
    stage = record { conf = conf; origins = origins };
    number = number;
    moment = now;
    tick = None;
    histories = histories;
    marks = marks;
    records = rs;
  }

nothing_behind : (conf : Conf) (e : Numbered) (now : ℕ) (text : List ℕ) → e.entry ≡ Config now text → replay (first_start conf) (e ∷ []) ≡ []
unfolding out_of judged_of failures_at triggers_at due_at
nothing_behind conf e now text same = ap (λ entry. out_of (first_start conf) [] e entry []) same

pub first_config : FirstConfig
unfolding marks_of stored_of
first_config conf number now text =
    let stage = first_stage conf in
    let config : Numbered = record { number = number; entry = Config now text } in
    let problems : List Open = by_making stage (open_of stage []) in
    let none : problems ≡ [] = nothing_made stage in
    ap (λ (os : List Open). made conf number now (map origin_in (filter (λ o. not (is_gone conf o)) os)) (carried_history conf conf now (history_of (first_start conf) [])) (carried_marks conf conf (marks_of (first_start conf) [])) ([] ++ removed stage conf number now (open_of stage []))) none
    ∙ ap (λ (h : ℕ → List Stored). made conf number now [] h (carried_marks conf conf (marks_of (first_start conf) [])) ([] ++ removed stage conf number now (open_of stage []))) (fun_ext (λ id. history id))
    ∙ ap (λ (m : ℕ → List StepMemory). made conf number now [] (history_of (first_start conf) (config ∷ [])) m ([] ++ removed stage conf number now (open_of stage []))) (fun_ext (λ id. no_marks_yet conf (at_id conf.items id)))
    ∙ ap (λ (rs : List Rec). made conf number now [] (history_of (first_start conf) (config ∷ [])) (marks_of (first_start conf) (config ∷ [])) rs) (records none)
  where
    history : (id : ℕ) → carried_history conf conf now (history_of (first_start conf) []) id ≡ history_of (first_start conf) (record { number = number; entry = Config now text } ∷ []) id
    history id = by_item (at_id conf.items id)
      where
        by_item : (x : Option Item) → option_map_or (λ before. trim (keep_of conf before) now []) (option_and_then (old_item conf conf) x) [] ≡ []
        by_item x = no_history conf now (option_and_then (old_item conf conf) x)

    records : by_making (first_stage conf) (open_of (first_stage conf) []) ≡ [] → [] ++ removed (first_stage conf) conf number now (open_of (first_stage conf) []) ≡ [] ++ replay (first_start conf) (record { number = number; entry = Config now text } ∷ [])
    records none =
        ap (λ (os : List Open). map (λ o. recovery_of number now causes.Removed (event_in o)) (filter (is_gone conf) os)) none
        ∙ sym (nothing_behind conf (record { number = number; entry = Config now text }) now text refl)
