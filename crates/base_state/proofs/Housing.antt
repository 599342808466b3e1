-- Rows that are brought up to the records of a base.
use Rattle.std.proofs.Common.{◌≡◌, ◌≢◌, ◌≤◌, ◌<◌, ◌+◌, ◌-◌, ◌==◌, ℕ, zero, suc, Bool, true, false, cond, not, Some, None, is_some, List, [], ◌∷◌, ◌++◌, length, map, filter, take, get_or, slice_get, slice_set, slice_index_or, refl, sym, ◌∙◌, ap, subst, eqb-true, eq-eqb, ne_eqb, append-nil, flat_map, arith}
use Rattle.std.specs.Option.{unwrap_or}
use Rattle.std.proofs.lemmas.List.{take_more, map-append}
use Rattle.std.proofs.lemmas.List.Concat.{flat_map-append}
use Rattle.zbx_types.specs.Ids.{at_id}
use Rattle.zbx_types.specs.Records.{same_event, event_of}
use Rattle.zbx_types.specs.declared.base.BaseProblem.{BaseProblem}
use Rattle.zbx_types.specs.declared.base.Ran.{Ran}
use Rattle.zbx_types.specs.declared.entries.EventId.{EventId}
use Rattle.zbx_types.specs.declared.entries.Rec.{Rec}
use Rattle.zbx_types.specs.declared.entries.Rec.TheVariants.{Failure, Problem, Recovery, Step, Message}
use Rattle.zbx_types.proofs.RowLemmas.{at_zero, at_suc}
use Rattle.trigger_state.specs.Stages.{Stage, home}
use Rattle.trigger_state.specs.Problems.{event_in, stepped, opened, absorbed, absorbed_all}
use Rattle.trigger_state.specs.declared.problems.Open.{Open}
use Rattle.base_laws.specs.Bases.{read_ran, read_problem}
use Rattle.entry_step.specs.Changes.{Absorbed}
use Rattle.entry_step.specs.Each.{Each}
use Rattle.entry_step.specs.Represents.{problems_at}
use Rattle.base_laws.specs.Restoring.{IsHoused, AreHoused}
use Rattle.entry_step.proofs.Problems.{absorbed_append}

-- a record leaves the row of another trigger alone
elsewhere : (stage : Stage) (id : ℕ) (os : List Open) (rec : Rec) → home stage (event_of rec) ≢ id → absorbed stage id os rec ≡ os
unfolding absorbed
elsewhere stage id os (Problem event now severity suppressed host trigger name tags) ne =
    ap (λ b. cond b (os ++ opened stage (Problem event now severity suppressed host trigger name tags) [] ∷ []) os) (ne_eqb (home stage event) id ne)
elsewhere stage id os (Recovery event by now cause) ne = ap (λ b. cond b (filter (λ o. not (same_event (event_in o) event)) os) os) (ne_eqb (home stage event) id ne)
elsewhere stage id os (Step event action step now) ne = ap (λ b. cond b (map (stepped (Step event action step now)) os) os) (ne_eqb (home stage event) id ne)
elsewhere stage id os (Failure number host key why) ne = refl
elsewhere stage id os (Message event action step recipient subject body) ne = refl

-- the rows where the one of a trigger is exchanged for another one
get_same : (rows : List (List Open)) (k : ℕ) (row : List Open) → k < length rows → slice_get (slice_set rows k row) k ≡ Some row
get_same [] k row l = absurd (omega arith)
get_same (x ∷ rows) zero row l = refl
get_same (x ∷ rows) (suc k) row l = get_same rows k row (omega arith)

get_other : (rows : List (List Open)) (k j : ℕ) (row : List Open) → k ≢ j → slice_get (slice_set rows k row) j ≡ slice_get rows j
get_other [] k j row ne = refl
get_other (x ∷ rows) zero zero row ne = absurd (ne refl)
get_other (x ∷ rows) zero (suc j) row ne = refl
get_other (x ∷ rows) (suc k) zero row ne = refl
get_other (x ∷ rows) (suc k) (suc j) row ne = get_other rows k j row (λ e. ne (ap suc e))

set_long : (rows : List (List Open)) (k : ℕ) (row : List Open) → length (slice_set rows k row) ≡ length rows
set_long [] k row = refl
set_long (x ∷ rows) zero row = refl
set_long (x ∷ rows) (suc k) row = ap suc (set_long rows k row)

index_is : (rows : List (List Open)) (k : ℕ) → slice_index_or rows k [] ≡ unwrap_or (slice_get rows k) []
index_is [] k = refl
index_is (x ∷ rows) zero = refl
index_is (x ∷ rows) (suc k) = index_is rows k

pub taken_in : (stage : Stage) (rows next : List (List Open)) (rec : Rec) (id index : ℕ) → id ≡ home stage (event_of rec) → id ≢ 0 → index ≡ id - 1 → index < length rows
    → next ≡ slice_set rows index (absorbed stage id (slice_index_or rows index []) rec) → IsHoused stage rows (event_of rec) → Absorbed stage rows (rec ∷ []) next
unfolding problems_at
taken_in stage rows next rec id index is some at l made housed = record { each = each; size = ap length made ∙ set_long rows index (absorbed stage id (slice_index_or rows index []) rec) }
  where
    row : List Open
    row = absorbed stage id (slice_index_or rows index []) rec

    same : id ≡ suc index
    same = omega (arith, at, some)

    here : unwrap_or (at_id next id) [] ≡ absorbed stage id (unwrap_or (at_id rows id) []) rec
    here =
        ap (λ xs. unwrap_or (at_id xs id) []) made ∙ ap (λ j. unwrap_or (at_id (slice_set rows index row) j) []) same
        ∙ ap (λ o. unwrap_or o []) (at_suc (slice_set rows index row) index ∙ get_same rows index row l)
        ∙ ap (λ os. absorbed stage id os rec) (index_is rows index ∙ ap (λ o. unwrap_or o []) (sym (at_suc rows index)) ∙ ap (λ j. unwrap_or (at_id rows j) []) (sym same))

    other : (j : ℕ) → id ≢ j → at_id next j ≡ at_id rows j
    other zero ne = at_zero next ∙ sym (at_zero rows)
    other (suc k) ne = at_suc next k ∙ ap (λ xs. slice_get xs k) made ∙ get_other rows index k row (λ e. ne (same ∙ ap suc e)) ∙ sym (at_suc rows k)

    each : (j : ℕ) → unwrap_or (at_id next j) [] ≡ absorbed stage j (unwrap_or (at_id rows j) []) rec
    each j = go (id == j) refl
      where
        go : (b : Bool) → (id == j) ≡ b → unwrap_or (at_id next j) [] ≡ absorbed stage j (unwrap_or (at_id rows j) []) rec
        go true q = subst (λ k. unwrap_or (at_id next k) [] ≡ absorbed stage k (unwrap_or (at_id rows k) []) rec) (eqb-true id j q) here
        go false q =
            let ne : id ≢ j = λ e. (let t : (id == j) ≡ true = eq-eqb id j e in cc) in
            ap (λ o. unwrap_or o []) (other j ne) ∙ sym (elsewhere stage j (unwrap_or (at_id rows j) []) rec (λ e. ne (is ∙ e)))

pub none_housed : (stage : Stage) (rows : List (List Open)) (rec : Rec) (id : ℕ) → id ≡ home stage (event_of rec) → id ≡ 0 → IsHoused stage rows (event_of rec) → Absorbed stage rows (rec ∷ []) rows
none_housed stage rows rec id is none housed =
    let at : at_id rows (home stage (event_of rec)) ≡ None = ap (at_id rows) (sym is ∙ none) ∙ at_zero rows in
    let q : is_some (at_id rows (home stage (event_of rec))) ≡ false = ap is_some at in cc

pub past_housed : (stage : Stage) (rows : List (List Open)) (rec : Rec) (id : ℕ) → id ≡ home stage (event_of rec) → id ≢ 0 → length rows ≤ id - 1 → IsHoused stage rows (event_of rec) → Absorbed stage rows (rec ∷ []) rows
past_housed stage rows rec id is some l housed =
    let same : id ≡ suc (id - 1) = omega (arith, some) in
    let none : at_id rows (home stage (event_of rec)) ≡ None = ap (at_id rows) (sym is ∙ same) ∙ at_suc rows (id - 1) ∙ past rows (id - 1) l in
    let q : is_some (at_id rows (home stage (event_of rec))) ≡ false = ap is_some none in cc
  where
    past : (xs : List (List Open)) (k : ℕ) → length xs ≤ k → slice_get xs k ≡ None
    past [] k h = refl
    past (x ∷ xs) zero h = absurd (omega arith)
    past (x ∷ xs) (suc k) h = past xs k (omega arith)

-- rows that have as many, and that are brought up to more
pub housed_on : (stage : Stage) (rows next : List (List Open)) (event : EventId) → length next ≡ length rows → IsHoused stage rows event → IsHoused stage next event
housed_on stage rows next event size housed = there rows next (home stage event) size housed
  where
    get_both : (xs ys : List (List Open)) (k : ℕ) → length ys ≡ length xs → is_some (slice_get xs k) ≡ true → is_some (slice_get ys k) ≡ true
    get_both [] ys k s h = cc
    get_both (x ∷ xs) [] k s h = absurd (omega arith)
    get_both (x ∷ xs) (y ∷ ys) zero s h = refl
    get_both (x ∷ xs) (y ∷ ys) (suc k) s h = get_both xs ys k (omega arith) h

    there : (xs ys : List (List Open)) (id : ℕ) → length ys ≡ length xs → is_some (at_id xs id) ≡ true → is_some (at_id ys id) ≡ true
    there xs ys zero s h = let q : is_some (at_id xs zero) ≡ false = ap is_some (at_zero xs) in cc
    there xs ys (suc k) s h = ap is_some (at_suc ys k) ∙ get_both xs ys k s (sym (ap is_some (at_suc xs k)) ∙ h)

pub taken_both : (stage : Stage) (rows between next : List (List Open)) (event : EventId) (some more : List Rec) → (IsHoused stage rows event → Absorbed stage rows some between) → (IsHoused stage between event → Absorbed stage between more next)
    → IsHoused stage rows event → Absorbed stage rows (some ++ more) next
taken_both stage rows between next event some more first second housed =
    let a = first housed in
    let b = second (housed_on stage rows between event a.size housed) in record {
      each = λ id. b.each id ∙ ap (λ os. absorbed_all stage id os more) (a.each id) ∙ sym (absorbed_append stage id (problems_at rows id) some more);
      size = b.size ∙ a.size;
    }

-- one step more, and one problem more
pub taken_step : (stage : Stage) (rows between next : List (List Open)) (event : EventId) (ran : List Ran) (k : ℕ) (x : Ran) → k < length ran → x ≡ get_or ran k x
    → (IsHoused stage rows event → Absorbed stage rows (map (read_ran event) (take k ran)) between) → (IsHoused stage between event → Absorbed stage between (read_ran event x ∷ []) next)
    → IsHoused stage rows event → Absorbed stage rows (map (read_ran event) (take (k + 1) ran)) next
taken_step stage rows between next event ran k x l is first second housed =
    subst (λ more. Absorbed stage rows more next) (sym (ap (map (read_ran event)) (take_more ran k x l ∙ ap (λ y. take k ran ++ y ∷ []) (sym is)) ∙ map-append (read_ran event) (take k ran) (x ∷ [])))
    (taken_both stage rows between next event (map (read_ran event) (take k ran)) (read_ran event x ∷ []) first second housed)

each_get : (P : BaseProblem → Type 0) (xs : List BaseProblem) (k : ℕ) (x : BaseProblem) → k < length xs → x ≡ get_or xs k x → Each P xs → P x
each_get P [] k x l is e = absurd (omega arith)
each_get P (y ∷ ys) zero x l is e = subst P (sym is) e.0
each_get P (y ∷ ys) (suc k) x l is e = each_get P ys k x (omega arith) is e.1

pub taken_problem : (stage : Stage) (rows between next : List (List Open)) (problems : List BaseProblem) (k : ℕ) (p : BaseProblem) → k < length problems → p ≡ get_or problems k p
    → (AreHoused stage rows problems → Absorbed stage rows (flat_map read_problem (take k problems)) between) → (IsHoused stage between (event_of p.problem) → Absorbed stage between (read_problem p) next)
    → AreHoused stage rows problems → Absorbed stage rows (flat_map read_problem (take (k + 1) problems)) next
taken_problem stage rows between next problems k p l is first second all =
    let own : IsHoused stage rows (event_of p.problem) = each_get (λ (x : BaseProblem). IsHoused stage rows (event_of x.problem)) problems k p l is all in
    subst (λ more. Absorbed stage rows more next)
    (sym (ap (flat_map read_problem) (take_more problems k p l ∙ ap (λ y. take k problems ++ y ∷ []) (sym is)) ∙ flat_map-append read_problem (take k problems) (p ∷ []) ∙ ap (λ rs. flat_map read_problem (take k problems) ++ rs) (append-nil (read_problem p))))
    (taken_both stage rows between next (event_of p.problem) (flat_map read_problem (take k problems)) (read_problem p) (λ h. first all) second own)
