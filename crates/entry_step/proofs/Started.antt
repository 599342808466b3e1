-- What the outcome of a verdict makes of the rows.
use Rattle.std.proofs.Common.{◌≡◌, ◌<◌, ◌+◌, ◌⊎◌, inl, inr, get_or, take, ℕ, suc, ◌==◌, Bool, true, false, ◌||◌, Option, Some, None, List, [], ◌∷◌, ◌++◌, length, refl, sym, ◌∙◌, ap, subst, eqb-true, eq-eqb, arith}
use Rattle.std.specs.Prelude.{flat_map}
use Rattle.zbx_types.specs.Ids.{at_id}
use Rattle.zbx_types.specs.declared.entries.Cause2.TheVariants as causes
use Rattle.zbx_types.specs.declared.entries.EventId.{EventId}
use Rattle.zbx_types.specs.declared.entries.Held.{Held}
use Rattle.zbx_types.specs.declared.entries.Rec.{Rec}
use Rattle.zbx_types.specs.declared.triggers.Trigger.{Trigger}
use Rattle.event_correlation.specs.Laws.{HasTagsOf}
use Rattle.event_correlation.specs.declared.answer.Closes.{Closes}
use Rattle.trigger_state.specs.Stages.{Stage, OwnsEvents, home, rank_of}
use Rattle.trigger_state.specs.Problems.{opens, absorbed_all}
use Rattle.trigger_state.specs.declared.problems.Open.{Open}
use Rattle.entry_step.specs.Each.{Each}
use Rattle.entry_step.specs.Records.{problem_of, closed_records, ruled, ruled_records, last_records, begun_with}
use Rattle.entry_step.specs.Represents.{problems_at}
use Rattle.entry_step.specs.Changes.{with_row, with_all, changed, outcome_rows, IsAbsorbed, has_fresh, Absorbed, Adds, Leaves, Lands}
use Rattle.entry_step.specs.declared.changes.Change.TheVariants as change
use Rattle.entry_step.specs.declared.changes.TriggerOutcome.{TriggerOutcome}
use Rattle.entry_step.specs.declared.changes.Fresh.{Fresh}
use Rattle.entry_step.proofs.Members.{or_left, or_right, or_cases, or_false_left, each_append, each_sub}
use Rattle.std.proofs.lemmas.List.{take_more}
use Rattle.entry_step.proofs.Problems.{none_open, one_begun}
use Rattle.entry_step.proofs.Said.{closed_quiet, begun_quiet, quiet_opens}
use Rattle.entry_step.proofs.Landing.{LandIn, only, closed_lands, begun_lands}
use Rattle.entry_step.proofs.Phases.{none_same, rows_absorbed}
use Rattle.entry_step.proofs.Covered.{problem_tagged}

-- Fresh open problems of one trigger more
fresh_push : (fs : List Fresh) (f : Fresh) (j : ℕ) → has_fresh (fs ++ f ∷ []) j ≡ (has_fresh fs j || (f.id == j))
fresh_push [] f j = go (f.id == j)
  where
    go : (b : Bool) → (b || false) ≡ b
    go true = refl
    go false = refl
fresh_push (x ∷ fs) f j = go (x.id == j) (fresh_push fs f j)
  where
    go : (b : Bool) → has_fresh (fs ++ f ∷ []) j ≡ (has_fresh fs j || (f.id == j)) → (b || has_fresh (fs ++ f ∷ []) j) ≡ ((b || has_fresh fs j) || (f.id == j))
    go true e = refl
    go false e = e

pub absorbed_push : (stage : Stage) (rows : List (List Open)) (more : List Rec) (fs next : List Fresh) (f : Fresh) → next ≡ fs ++ f ∷ [] → f.opens ≡ absorbed_all stage f.id (problems_at rows f.id) more → Each (IsAbsorbed stage rows more) fs
    → Each (IsAbsorbed stage rows more) next
absorbed_push stage rows more fs next f e is each = subst (Each (IsAbsorbed stage rows more)) (sym e) (each_append (IsAbsorbed stage rows more) fs (f ∷ []) each (is, tt))

pub fresh_own : (id j : ℕ) (fs : List Fresh) → id ≡ j → ((id == j) || has_fresh fs j) ≡ true
fresh_own id j fs e = or_left (id == j) (has_fresh fs j) (eq-eqb id j e)

pub fresh_before : (id j : ℕ) (fs : List Fresh) → has_fresh fs j ≡ true → ((id == j) || has_fresh fs j) ≡ true
fresh_before id j fs e = or_right (id == j) (has_fresh fs j) e

pub fresh_here : (id j : ℕ) (fs next : List Fresh) (f : Fresh) → next ≡ fs ++ f ∷ [] → f.id ≡ j → ((id == j) || has_fresh next j) ≡ true
fresh_here id j fs next f e is = or_right (id == j) (has_fresh next j) (ap (λ xs. has_fresh xs j) e ∙ fresh_push fs f j ∙ or_right (has_fresh fs j) (f.id == j) (eq-eqb f.id j is))

pub fresh_kept : (fs next : List Fresh) (f : Fresh) → next ≡ fs ++ f ∷ [] → (j : ℕ) → has_fresh fs j ≡ true → has_fresh next j ≡ true
fresh_kept fs next f e j h = ap (λ xs. has_fresh xs j) e ∙ fresh_push fs f j ∙ or_left (has_fresh fs j) (f.id == j) h

pub whole_more : (stage : Stage) (id : ℕ) (before after : List Fresh) (events : List EventId) (k : ℕ) (d : EventId) → k < length events → ((id == home stage (get_or events k d)) || has_fresh after (home stage (get_or events k d))) ≡ true → ((j : ℕ) → has_fresh before j ≡ true → has_fresh after j ≡ true)
    → Each (λ (x : EventId). ((id == home stage x) || has_fresh before (home stage x)) ≡ true) (take k events) → Each (λ (x : EventId). ((id == home stage x) || has_fresh after (home stage x)) ≡ true) (take (k + 1) events)
whole_more stage id before after events k d l here kept each =
    subst (Each P) (sym (take_more events k d l))
    (each_append P (take k events) (get_or events k d ∷ []) (each_sub (λ (x : EventId). ((id == home stage x) || has_fresh before (home stage x)) ≡ true) P (take k events) (λ x h. one x (or_cases (id == home stage x) (has_fresh before (home stage x)) h)) each) (here, tt))
  where
    P : EventId → Type 0
    P x = ((id == home stage x) || has_fresh after (home stage x)) ≡ true

    one : (x : EventId) → ((id == home stage x) ≡ true) ⊎ (has_fresh before (home stage x) ≡ true) → P x
    one x (inl t) = or_left (id == home stage x) (has_fresh after (home stage x)) t
    one x (inr t) = or_right (id == home stage x) (has_fresh after (home stage x)) (kept (home stage x) t)

-- A new problem begins with what the rules close for it
pub begun_is : (stage ready : Stage) (number now : ℕ) (values : List (Option Held)) (id : ℕ) (trigger : Trigger) (all : ℕ → List Open) (problem : Rec) (closes : Closes) (records : List Rec) → stage ≡ ready → at_id ready.conf.triggers id ≡ Some trigger
    → problem ≡ problem_of ready.conf number now values id trigger → ((t : Trigger) → at_id ready.conf.triggers id ≡ Some t → HasTagsOf t problem → closes ≡ ruled ready problem all) → records ≡ begun_with stage number now all id problem closes
    → (records ≡ begun_with ready number now all id (problem_of ready.conf number now values id trigger) closes) × (closes ≡ ruled ready (problem_of ready.conf number now values id trigger) all)
begun_is stage ready number now values id trigger all problem closes records c there p closed is = (
  is ∙ ap (λ x. begun_with x number now all id problem closes) c ∙ ap (λ x. begun_with ready number now all id x closes) p,
  closed trigger there (subst (HasTagsOf trigger) (sym p) (problem_tagged ready.conf number now values id trigger there)) ∙ ap (λ x. ruled ready x all) p,
)

-- A new problem, as these close
module _ (stage : Stage) (number now : ℕ) (values : List (Option Held)) (id : ℕ) (trigger : Trigger) (rows : List (List Open)) (closes : Closes) (records : List Rec)
    (homes : OwnsEvents stage number) (there : at_id stage.conf.triggers id ≡ Some trigger) (size : length rows ≡ length stage.conf.triggers)
    (is : records ≡ begun_with stage number now (problems_at rows) id (problem_of stage.conf number now values id trigger) closes) where
  abbrev problem : Rec
  problem = problem_of stage.conf number now values id trigger

  abbrev more : List Rec
  more = ruled_records stage number now (problems_at rows) closes.old ++ last_records stage.conf number now id problem closes.new

  -- it is of a trigger that has a row
  opens_here : (j : ℕ) → at_id rows j ≡ None → opens stage j problem ≡ false
  opens_here j none = unfold problem_of in go (home stage event == j) refl
    where
      event : EventId
      event = record { number = number; trigger = id }

      go : (b : Bool) → (home stage event == j) ≡ b → b ≡ false
      go true e = let n : at_id stage.conf.triggers id ≡ None = ap (at_id stage.conf.triggers) (sym (homes id) ∙ eqb-true (home stage event) j e) ∙ none_same rows stage.conf.triggers j size none in let m : Some trigger ≡ None = sym there ∙ n in absurd (cc)
      go false e = refl

  gone : (j : ℕ) → at_id rows j ≡ None → absorbed_all stage j [] records ≡ []
  gone j none =
      ap (absorbed_all stage j []) is
      ∙ none_open stage j (problem ∷ more) (opens_here j none, quiet_opens stage j more (begun_quiet stage number now (problems_at rows) id problem closes))

  pub starts : (own : List Open) (others : List Fresh) → own ≡ absorbed_all stage id (problems_at rows id) records → Each (IsAbsorbed stage rows records) others
      → Each (λ (e : EventId). ((id == home stage e) || has_fresh others (home stage e)) ≡ true) closes.old → Absorbed stage rows records (with_all (with_row rows id own) others)
  starts own others made each whole =
      rows_absorbed stage rows records gone id own others made each
      (subst (LandIn stage (λ j. only id j || has_fresh others j)) (sym is)
      (begun_lands stage number now values (problems_at rows) id trigger (λ j. only id j || has_fresh others j) closes homes (or_left (only id id) (has_fresh others id) (eq-eqb id id refl)) whole))

  -- about which nothing is done
  pub starts_alone : length records ≡ 1 → Absorbed stage rows records (with_all (with_row rows id (problems_at rows id ++ record { problem = problem; steps = []; rank = rank_of stage (record { number = number; trigger = id }) } ∷ [])) [])
  starts_alone one =
      rows_absorbed stage rows records gone id (problems_at rows id ++ record { problem = problem; steps = []; rank = rank_of stage (record { number = number; trigger = id }) } ∷ []) []
      (one_begun stage number now values id trigger (problems_at rows id) records alone homes) tt
      (subst (LandIn stage (λ j. only id j || false)) (sym alone) (λ j q. unfold problem_of in ap (λ i. i == j) (homes id) ∙ or_false_left (only id j) false q, tt))
    where
      none : (rs : List Rec) → suc (length rs) ≡ 1 → problem ∷ rs ≡ problem ∷ []
      none [] q = refl
      none (r ∷ rs) q = absurd (omega arith)

      alone : records ≡ problem ∷ []
      alone = is ∙ none more (sym (ap length is) ∙ one)

  -- as the code has them
  leaves_from : (other : Stage) (o : TriggerOutcome) → other ≡ stage → Leaves other rows id closes.old records o → Absorbed stage rows o.records (outcome_rows rows id (Some o))
  leaves_from other o c l =
      subst (λ rs. Absorbed stage rows rs (outcome_rows rows id (Some o))) (sym l.made)
      (subst (λ ch. Absorbed stage rows records (with_all (with_row rows id (changed (problems_at rows id) ch)) o.others)) (sym l.own)
      (starts (absorbed_all other id (problems_at rows id) records) o.others (ap (λ x. absorbed_all x id (problems_at rows id) records) c) (subst (λ x. Each (IsAbsorbed x rows records) o.others) c l.others)
      (subst (λ (x : Stage). Each (λ (e : EventId). ((id == home x e) || has_fresh o.others (home x e)) ≡ true) closes.old) c l.whole)))

  alone_from : (made : Rec) (steps : List Rec) (others : List Fresh) → length records ≡ 1 → made ≡ problem → steps ≡ [] → others ≡ []
      → Absorbed stage rows records (with_all (with_row rows id (problems_at rows id ++ record { problem = made; steps = steps; rank = rank_of stage (record { number = number; trigger = id }) } ∷ [])) others)
  alone_from made steps others one p s o =
      subst (λ fs. Absorbed stage rows records (with_all (with_row rows id (problems_at rows id ++ open_with made steps ∷ [])) fs)) (sym o)
      (subst (λ ss. Absorbed stage rows records (with_all (with_row rows id (problems_at rows id ++ open_with made ss ∷ [])) [])) (sym s)
      (subst (λ x. Absorbed stage rows records (with_all (with_row rows id (problems_at rows id ++ open_with x [] ∷ [])) [])) (sym p) (starts_alone one)))
    where
      open_with : Rec → List Rec → Open
      open_with x ss = record { problem = x; steps = ss; rank = rank_of stage (record { number = number; trigger = id }) }

  adds_from : (made : Rec) (rank : ℕ) (o : TriggerOutcome) → made ≡ problem → rank ≡ rank_of stage (record { number = number; trigger = id }) → Adds (record { problem = made; steps = []; rank = rank }) records o → Absorbed stage rows o.records (outcome_rows rows id (Some o))
  adds_from made rank o p at a =
      subst (λ rs. Absorbed stage rows rs (outcome_rows rows id (Some o))) (sym a.made)
      (subst (λ ch. Absorbed stage rows records (with_all (with_row rows id (changed (problems_at rows id) ch)) o.others)) (sym a.own)
      (subst (λ (k : ℕ). Absorbed stage rows records (with_all (with_row rows id (problems_at rows id ++ record { problem = made; steps = []; rank = k } ∷ [])) o.others)) (sym at)
      (alone_from made [] o.others a.alone p refl a.others)))

  pub lands_from : (other : Stage) (made : Rec) (rank : ℕ) (o : TriggerOutcome) → other ≡ stage → made ≡ problem → rank ≡ rank_of stage (record { number = number; trigger = id }) → Lands other rows id (record { problem = made; steps = []; rank = rank }) closes.old records o
      → Absorbed stage rows o.records (outcome_rows rows id (Some o))
  lands_from other made rank o c p at (inl a) = adds_from made rank o p at a
  lands_from other made rank o c p at (inr l) = leaves_from other o c l

-- the records of an outcome
pub lands_made : (stage : Stage) (rows : List (List Open)) (id : ℕ) (one : Open) (events : List EventId) (records : List Rec) (o : TriggerOutcome) → Lands stage rows id one events records o → o.records ≡ records
lands_made stage rows id one events records o (inl a) = a.made
lands_made stage rows id one events records o (inr l) = l.made

pub leaves_with : (stage : Stage) (rows : List (List Open)) (id : ℕ) (events : List EventId) (records more : List Rec) (all : List Open) (others : List Fresh) → more ≡ records → all ≡ absorbed_all stage id (problems_at rows id) more
    → Each (IsAbsorbed stage rows more) others → Each (λ (e : EventId). ((id == home stage e) || has_fresh others (home stage e)) ≡ true) events
    → Leaves stage rows id events records (record { records = records; change = change.Leave all; others = others })
leaves_with stage rows id events records more all others e own each whole = record {
  made = refl;
  own = ap (λ os. change.Leave os) (own ∙ ap (absorbed_all stage id (problems_at rows id)) e);
  others = subst (λ rs. Each (IsAbsorbed stage rows rs) others) e each;
  whole = whole;
}

-- The ends of a trigger's own problems
pub ends : (stage : Stage) (number now id : ℕ) (rows : List (List Open)) (events : List EventId) (records : List Rec) (own : List Open) → records ≡ flat_map (closed_records stage.conf number now causes.Expression (problems_at rows id)) events
    → own ≡ absorbed_all stage id (problems_at rows id) records → Each (λ e. home stage e ≡ id) events → Absorbed stage rows records (with_all (with_row rows id own) [])
ends stage number now id rows events records own is made homes =
    rows_absorbed stage rows records gone id own [] made tt
    (subst (LandIn stage K) (sym is)
    (closed_lands stage number now causes.Expression K (λ e. problems_at rows id) events (each_sub (λ e. home stage e ≡ id) (λ e. K (home stage e) ≡ true) events (λ e h. or_left (only id (home stage e)) false (eq-eqb id (home stage e) (sym h))) homes)))
  where
    K : ℕ → Bool
    K j = only id j || false

    gone : (j : ℕ) → at_id rows j ≡ None → absorbed_all stage j [] records ≡ []
    gone j none =
        ap (absorbed_all stage j []) is
        ∙ none_open stage j (flat_map (closed_records stage.conf number now causes.Expression (problems_at rows id)) events)
        (quiet_opens stage j (flat_map (closed_records stage.conf number now causes.Expression (problems_at rows id)) events) (closed_quiet stage.conf number now causes.Expression (λ e. problems_at rows id) events))
