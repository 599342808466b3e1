-- What a trigger adds where it is evaluated: over which cells it is the same, in which it lands, and that its problems have
-- the names of its tags.
use Rattle.std.proofs.Common.{◌≡◌, ℕ, Bool, true, not, ◌||◌, Option, Some, None, List, [], ◌∷◌, ◌++◌, map, refl, sym, ◌∙◌, ap, subst, eqb-true}
use Rattle.std.specs.Prelude.{flat_map}
use Rattle.std.specs.Option.{option_map_or}
use Rattle.zbx_types.specs.Ids.{at_id}
use Rattle.zbx_types.specs.Masters.{masters_of}
use Rattle.zbx_types.specs.declared.conf.Conf.{Conf}
use Rattle.zbx_types.specs.declared.entries.Cause2.TheVariants as causes
use Rattle.zbx_types.specs.declared.entries.Held.{Held}
use Rattle.zbx_types.specs.declared.entries.EventId.{EventId}
use Rattle.zbx_types.specs.declared.entries.Rec.{Rec}
use Rattle.zbx_types.specs.declared.entries.Rec.TheVariants.{Failure, Problem, Recovery, Step, Message}
use Rattle.zbx_types.specs.declared.entries.Stored.{Stored}
use Rattle.zbx_types.specs.declared.entries.Tag.{Tag}
use Rattle.zbx_types.specs.declared.triggers.Trigger.{Trigger}
use Rattle.event_text.specs.Titles.{host_name, event_tag, tags_with, event_tags}
use Rattle.event_correlation.specs.Laws.{HasTagsOf}
use Rattle.trigger_state.specs.Stages.{Stage, OwnsEvents, home}
use Rattle.trigger_state.specs.Problems.{event_in, opens, absorbed_all, grown}
use Rattle.trigger_state.specs.Verdicts.{is_none, some_open, is_held, verdict_over}
use Rattle.trigger_state.specs.declared.answer.Verdict.{Verdict}
use Rattle.trigger_state.specs.declared.answer.Verdict.TheVariants.{Nothing, New, Close}
use Rattle.trigger_state.specs.declared.problems.Open.{Open}
use Rattle.entry_step.specs.Each.{Each}
use Rattle.entry_step.specs.Seen.{shown_values, Seen, seen_in}
use Rattle.entry_step.specs.Records.{problem_of, closed_records, ruled, verdict_records, evaluated, phase}
use Rattle.conf_index.specs.Evaluation.{expression_value, recovery_value}
use Rattle.entry_step.specs.Represents.{IsTagged}
use Rattle.entry_step.specs.Changes.{judged}
use Rattle.entry_step.specs.declared.occasions.Occasion.{Occasion}
use Rattle.entry_step.proofs.Members.{each_append, each_from, each_sub}
use Rattle.entry_step.proofs.Problems.{each_open, home_all}
use Rattle.entry_step.proofs.Said.{IsQuiet, closed_quiet, begun_quiet}
use Rattle.entry_step.proofs.Histories.{SameTo, sight_same}
use Rattle.entry_step.proofs.Landing.{LandIn, land_append, verdict_lands, judged_is, judged_has, evaluated_none}
use Rattle.entry_step.proofs.Closing.{AllTidy, AgreeOn, Covers, events_in, begun_same}

-- Problems have the names of their triggers' tags
event_names : (host : List ℕ) (values : List (Option Held)) (tags : List Tag) → map (λ tag. tag.tag) (map (event_tag host values) tags) ≡ map (λ tag. tag.tag) tags
event_names host values [] = refl
event_names host values (tag ∷ tags) = ap (λ names. tag.tag ∷ names) (event_names host values tags)

pub problem_tagged : (conf : Conf) (number now : ℕ) (values : List (Option Held)) (id : ℕ) (trigger : Trigger) → at_id conf.triggers id ≡ Some trigger → HasTagsOf trigger (problem_of conf number now values id trigger)
unfolding problem_of
problem_tagged conf number now values id trigger there =
    ap (λ t. map (λ (tag : Tag). tag.tag) (option_map_or (tags_with conf values) t [])) there ∙ event_names (host_name conf trigger) values trigger.tags

-- a record makes no problem but of a trigger that is there, with the names of its tags
abbrev pub MakesTagged : Stage → Rec → Type 0
MakesTagged stage r = (id : ℕ) → opens stage id r ≡ true → IsTagged stage.conf id r

pub quiet_tagged : (stage : Stage) (rs : List Rec) → Each IsQuiet rs → Each (MakesTagged stage) rs
quiet_tagged stage rs q = each_sub IsQuiet (MakesTagged stage) rs one q
  where
    one : (r : Rec) → IsQuiet r → (id : ℕ) → opens stage id r ≡ true → IsTagged stage.conf id r
    one (Problem event now severity suppressed host trigger name tags) is id e = absurd is
    one (Recovery event by now cause) is id e = cc
    one (Failure number host key why) is id e = cc
    one (Step event action step now) is id e = cc
    one (Message event action step recipient subject body) is id e = cc

problem_makes : (stage : Stage) (number now : ℕ) (values : List (Option Held)) (id : ℕ) (trigger : Trigger) → OwnsEvents stage number → at_id stage.conf.triggers id ≡ Some trigger → MakesTagged stage (problem_of stage.conf number now values id trigger)
unfolding problem_of
problem_makes stage number now values id trigger own there j e =
    let event : EventId = record { number = number; trigger = id } in
    subst (λ k. IsTagged stage.conf k (problem_of stage.conf number now values id trigger)) (sym (own id) ∙ eqb-true (home stage event) j e) (trigger, there, problem_tagged stage.conf number now values id trigger there)

verdict_tagged : (stage : Stage) (number now : ℕ) (values : List (Option Held)) (all : ℕ → List Open) (id : ℕ) (trigger : Trigger) → OwnsEvents stage number → at_id stage.conf.triggers id ≡ Some trigger → (v : Verdict) → Each (MakesTagged stage) (verdict_records stage number now values id trigger all v)
unfolding verdict_records
verdict_tagged stage number now values all id trigger own there Nothing = tt
verdict_tagged stage number now values all id trigger own there New =
    let problem : Rec = problem_of stage.conf number now values id trigger in
    (problem_makes stage number now values id trigger own there, quiet_tagged stage _ (begun_quiet stage number now all id problem (ruled stage problem all)))
verdict_tagged stage number now values all id trigger own there (Close events) =
    quiet_tagged stage (flat_map (closed_records stage.conf number now causes.Expression (all id)) events) (closed_quiet stage.conf number now causes.Expression (λ e. all id) events)

pub evaluated_tagged : (stage : Stage) (occasion : Occasion) → OwnsEvents stage occasion.number → (items : ℕ → List Stored) (all : ℕ → List Open) (id : ℕ) → Each (MakesTagged stage) (evaluated stage occasion items all id)
evaluated_tagged stage occasion own items all id = go (at_id stage.conf.triggers id) refl
  where
    go : (t : Option Trigger) → at_id stage.conf.triggers id ≡ t → Each (MakesTagged stage) (evaluated stage occasion items all id)
    go None e = subst (Each (MakesTagged stage)) (sym (evaluated_none stage occasion items all id e)) tt
    go (Some trigger) e =
        subst (Each (MakesTagged stage)) (sym (judged_is stage occasion items all id trigger e))
        (judged_has (λ x. Unit {0}) (Each (MakesTagged stage)) stage occasion (seen_in items occasion stage.conf.utc_offset trigger) id trigger (is_held stage.conf all id) all
        (λ v c. verdict_tagged stage occasion.number occasion.now (shown_values items occasion.now trigger) all id trigger own e v) (each_from (λ o. Unit {0}) (all id) (λ o i. tt)))

pub phase_tagged : (stage : Stage) (occasion : Occasion) → OwnsEvents stage occasion.number → (items : ℕ → List Stored) (all : ℕ → List Open) (ids : List ℕ) → Each (MakesTagged stage) (phase stage (evaluated stage occasion items) all ids)
phase_tagged stage occasion own items all [] = tt
phase_tagged stage occasion own items all (id ∷ ids) =
    let rs = evaluated stage occasion items all id in
    each_append (MakesTagged stage) rs (phase stage (evaluated stage occasion items) (grown stage all rs) ids) (evaluated_tagged stage occasion own items all id) (phase_tagged stage occasion own items (grown stage all rs) ids)

-- open problems stay in order with such records
pub tagged_all : (stage : Stage) (id : ℕ) (os : List Open) (rs : List Rec) → Each (MakesTagged stage) rs → Each (λ o. IsTagged stage.conf id o.problem) os → Each (λ o. IsTagged stage.conf id o.problem) (absorbed_all stage id os rs)
tagged_all stage id os rs m h = each_open (IsTagged stage.conf id) stage id os rs (each_sub (MakesTagged stage) (λ r. opens stage id r ≡ true → IsTagged stage.conf id r) rs (λ r t. t id) m) h

tidy_grown : (stage : Stage) (all : ℕ → List Open) (rs : List Rec) → Each (MakesTagged stage) rs → AllTidy stage all → AllTidy stage (grown stage all rs)
tidy_grown stage all rs m tidy = record { homes = λ id. home_all stage id (all id) rs (tidy.homes id); tagged = λ id. tagged_all stage id (all id) rs m (tidy.tagged id) }

-- In which cells its records land
module _ (stage : Stage) (occasion : Occasion) (own : OwnsEvents stage occasion.number) (items : ℕ → List Stored) (K : ℕ → Bool) where
  evaluated_lands : (all : ℕ → List Open) → AllTidy stage all → (id : ℕ) → Covers stage.conf K id → LandIn stage K (evaluated stage occasion items all id)
  evaluated_lands all tidy id covers = go (at_id stage.conf.triggers id) refl
    where
      go : (t : Option Trigger) → at_id stage.conf.triggers id ≡ t → LandIn stage K (evaluated stage occasion items all id)
      go None e = subst (LandIn stage K) (sym (evaluated_none stage occasion items all id e)) tt
      go (Some trigger) e =
          let values = shown_values items occasion.now trigger in
          let problem = problem_of stage.conf occasion.number occasion.now values id trigger in
          let old = events_in stage id trigger e problem (problem_tagged stage.conf occasion.number occasion.now values id trigger e) K covers all tidy in
          subst (LandIn stage K) (sym (judged_is stage occasion items all id trigger e))
          (judged_has (λ x. K (home stage x) ≡ true) (LandIn stage K) stage occasion (seen_in items occasion stage.conf.utc_offset trigger) id trigger (is_held stage.conf all id) all
          (verdict_lands stage occasion.number occasion.now values all id trigger K own covers.self old)
          (each_sub (λ o. home stage (event_in o) ≡ id) (λ o. K (home stage (event_in o)) ≡ true) (all id) (λ o h. ap K h ∙ covers.self) (tidy.homes id)))

  pub phase_lands : (all : ℕ → List Open) → AllTidy stage all → (ids : List ℕ) → Each (Covers stage.conf K) ids → LandIn stage K (phase stage (evaluated stage occasion items) all ids)
  phase_lands all tidy [] covers = tt
  phase_lands all tidy (id ∷ ids) covers =
      let rs = evaluated stage occasion items all id in
      land_append stage K rs (phase stage (evaluated stage occasion items) (grown stage all rs) ids) (evaluated_lands all tidy id covers.0)
      (phase_lands (grown stage all rs) (tidy_grown stage all rs (evaluated_tagged stage occasion own items all id) tidy) ids covers.1)

-- Over which cells they are the same
held_same : (K : ℕ → Bool) (p q : ℕ → List Open) → AgreeOn K p q → (ms : List ℕ) → Each (λ m. K m ≡ true) ms → some_open p ms ≡ some_open q ms
held_same K p q agree [] h = refl
held_same K p q agree (m ∷ ms) h = ap (λ os. not (is_none os) || some_open p ms) (agree m h.0) ∙ ap (λ b. not (is_none (q m)) || b) (held_same K p q agree ms h.1)

module _ (stage : Stage) (occasion : Occasion) (K : ℕ → Bool) (p q : ℕ → List Open) (tidy_p : AllTidy stage p) (tidy_q : AllTidy stage q) (agree : AgreeOn K p q) (id : ℕ) (covers : Covers stage.conf K id) where
  module _ (trigger : Trigger) (there : at_id stage.conf.triggers id ≡ Some trigger) where
    verdict_same : (values : List (Option Held)) (v : Verdict) → verdict_records stage occasion.number occasion.now values id trigger p v ≡ verdict_records stage occasion.number occasion.now values id trigger q v
    unfolding verdict_records
    verdict_same values Nothing = refl
    verdict_same values New =
        let problem = problem_of stage.conf occasion.number occasion.now values id trigger in
        begun_same stage id trigger there problem (problem_tagged stage.conf occasion.number occasion.now values id trigger there) K covers p q tidy_p tidy_q agree occasion.number occasion.now
    verdict_same values (Close events) = ap (λ os. flat_map (closed_records stage.conf occasion.number occasion.now causes.Expression os) events) (agree id covers.self)

    judged_same : (seen : Seen) (held : Bool) → judged stage occasion seen id trigger held p ≡ judged stage occasion seen id trigger held q
    judged_same seen held =
        let verdict : List Open → Verdict = λ os. verdict_over trigger held os (expression_value seen.calls trigger.expr) (recovery_value seen.calls trigger.recovery_expr) (event_tags stage.conf id seen.values) occasion.is_value in
        ap (λ os. verdict_records stage occasion.number occasion.now seen.values id trigger p (verdict os)) (agree id covers.self) ∙ verdict_same seen.values (verdict (q id))

  evaluated_same : (a b : ℕ → List Stored) → SameTo stage.conf a b id → evaluated stage occasion a p id ≡ evaluated stage occasion b q id
  evaluated_same a b same = go (at_id stage.conf.triggers id) refl
    where
      go : (t : Option Trigger) → at_id stage.conf.triggers id ≡ t → evaluated stage occasion a p id ≡ evaluated stage occasion b q id
      go None w = evaluated_none stage occasion a p id w ∙ sym (evaluated_none stage occasion b q id w)
      go (Some trigger) w =
          let sight : (ℕ → List Stored) → Seen = λ items. seen_in items occasion stage.conf.utc_offset trigger in
          judged_is stage occasion a p id trigger w
          ∙ ap (λ t. judged stage occasion (sight a) id trigger t p) (held_same K p q agree (masters_of stage.conf id) covers.masters)
          ∙ judged_same trigger w (sight a) (is_held stage.conf q id)
          ∙ ap (λ v. judged stage occasion v id trigger (is_held stage.conf q id) q) (sight_same occasion stage.conf.utc_offset a b trigger (λ item i. same item (trigger, w, i)))
          ∙ sym (judged_is stage occasion b q id trigger w)

pub phase_same : (stage : Stage) (occasion : Occasion) → OwnsEvents stage occasion.number → (K : ℕ → Bool) (a b : ℕ → List Stored) (p q : ℕ → List Open) (ids : List ℕ) → AllTidy stage p → AllTidy stage q → AgreeOn K p q → Each (λ id. Covers stage.conf K id × SameTo stage.conf a b id) ids
    → phase stage (evaluated stage occasion a) p ids ≡ phase stage (evaluated stage occasion b) q ids
phase_same stage occasion own K a b p q [] tidy_p tidy_q agree h = refl
phase_same stage occasion own K a b p q (id ∷ ids) tidy_p tidy_q agree h =
    let rs = evaluated stage occasion a p id in
    let made = evaluated_tagged stage occasion own a p id in
    let e = evaluated_same stage occasion K p q tidy_p tidy_q agree id h.0.0 a b h.0.1 in
    ap (λ xs. rs ++ xs) (phase_same stage occasion own K a b (grown stage p rs) (grown stage q rs) ids (tidy_grown stage p rs made tidy_p) (tidy_grown stage q rs made tidy_q) (λ u k. ap (λ os. absorbed_all stage u os rs) (agree u k)) h.1)
    ∙ ap (λ xs. xs ++ phase stage (evaluated stage occasion b) (grown stage q xs) ids) e
