-- Triggers evaluated one after another.
use Rattle.std.proofs.Common.{◌≡◌, ◌≢◌, ℕ, zero, suc, ◌+◌, ◌<◌, ◌==◌, inl, inr, option_map, ne_eqb, Bool, true, false, cond, ◌||◌, Option, Some, None, List, [], ◌∷◌, ◌++◌, length, get_or, take, set, ◌-◌, slice_get, refl, sym, ◌∙◌, ap, subst, append_assoc, append-nil, eqb-true, eq-eqb, arith}
use mathlib.Core.Path.{fun_ext}
use Rattle.std.specs.Option.{unwrap_or}
use Rattle.std.proofs.lemmas.List.{take_more, length-set}
use Rattle.zbx_types.specs.Ids.{at_id}
use Rattle.trigger_state.specs.Stages.{Stage}
use Rattle.zbx_types.specs.declared.entries.Rec.{Rec}
use Rattle.trigger_state.specs.Problems.{absorbed_all, grown, open_of}
use Rattle.zbx_types.specs.declared.entries.Stored.{Stored}
use Rattle.entry_step.specs.Records.{evaluated, phase, phase_over}
use Rattle.std.proofs.lemmas.Bool.Decides.{leb_tells}
use Rattle.std.proofs.lemmas.Option.{slice_get_past}
use Rattle.entry_step.proofs.Landing.{LandIn, only, land_off}
use Rattle.entry_step.specs.Represents.{problems_at, AllAtHome}
use Rattle.entry_step.specs.Each.{Each}
use Rattle.entry_step.specs.Changes.{with_row, with_all, outcome_records, outcome_rows, IsAbsorbed, has_fresh, AreTidy, Absorbed, Runs}
use Rattle.entry_step.specs.declared.changes.Fresh.{Fresh}
use Rattle.trigger_state.specs.declared.problems.Open.{Open}
use Rattle.entry_step.specs.declared.changes.TriggerOutcome.{TriggerOutcome}
use Rattle.zbx_types.proofs.RowLemmas.{at_zero, at_suc, slice_get_set_same, slice_get_set_other}
use Rattle.entry_step.proofs.Problems.{open_append, absorbed_append, home_all}
use Rattle.entry_step.specs.declared.occasions.Occasion.{Occasion}

-- by search, the same is made
pub phase_is : (stage : Stage) (one : (ℕ → List Open) → ℕ → List Rec) (rs : List Rec) (ids : List ℕ) → phase stage one (open_of stage rs) ids ≡ phase_over stage one rs ids
phase_is stage one rs [] = refl
phase_is stage one rs (id ∷ ids) =
    ap (λ xs. one (open_of stage rs) id ++ xs)
    (ap (λ p. phase stage one p ids) (fun_ext (λ u. sym (open_append stage u rs (one (open_of stage rs) id)))) ∙ phase_is stage one (rs ++ one (open_of stage rs) id) ids)

-- one trigger more
pub phase_push : (stage : Stage) (one : (ℕ → List Open) → ℕ → List Rec) (all : ℕ → List Open) (ids : List ℕ) (id : ℕ)
    → phase stage one all (ids ++ id ∷ []) ≡ phase stage one all ids ++ one (grown stage all (phase stage one all ids)) id
phase_push stage one all [] id = append-nil (one all id)
phase_push stage one all (x ∷ ids) id =
    let rs = one all x in
    let more = phase stage one (grown stage all rs) ids in
    ap (λ xs. rs ++ xs) (phase_push stage one (grown stage all rs) ids id)
    ∙ sym (append_assoc rs more (one (grown stage (grown stage all rs) more) id))
    ∙ ap (λ p. (rs ++ more) ++ one p id) (fun_ext (λ u. sym (absorbed_append stage u (all u) rs more)))

-- a row that is put in
with_suc : (rows : List (List Open)) (k : ℕ) (os : List Open) → with_row rows (suc k) os ≡ set rows k os
unfolding with_row
with_suc rows k os =
    let t : (suc k == 0) ≡ false = ne_eqb (suc k) 0 (λ q. absurd (omega arith)) in
    let m : suc k - 1 ≡ k = omega arith in
    rw (t, m) refl

pub row_other : (rows : List (List Open)) (id j : ℕ) (os : List Open) → id ≢ j → problems_at (with_row rows id os) j ≡ problems_at rows j
unfolding problems_at with_row
row_other rows zero j os ne = refl
row_other rows (suc i) zero os ne = ap (λ o. unwrap_or o []) (at_zero (with_row rows (suc i) os) ∙ sym (at_zero rows))
row_other rows (suc i) (suc j) os ne =
    ap (λ o. unwrap_or o [])
    (ap (λ xs. at_id xs (suc j)) (with_suc rows i os) ∙ at_suc (set rows i os) j ∙ slice_get_set_other rows i j os (λ e. ne (ap suc e)) ∙ sym (at_suc rows j))

pub row_same : (rows : List (List Open)) (id : ℕ) (os : List Open) → problems_at (with_row rows id os) id ≡ unwrap_or (option_map (λ _. os) (at_id rows id)) []
unfolding problems_at with_row
row_same rows zero os = ap (λ o. unwrap_or o []) (at_zero rows ∙ ap (option_map (λ _. os)) (sym (at_zero rows)))
row_same rows (suc k) os =
    ap (λ o. unwrap_or o [])
    (ap (λ xs. at_id xs (suc k)) (with_suc rows k os) ∙ at_suc (set rows k os) k ∙ slice_get_set_same rows k os ∙ ap (option_map (λ _. os)) (sym (at_suc rows k)))

pub length_row : (rows : List (List Open)) (id : ℕ) (os : List Open) → length (with_row rows id os) ≡ length rows
length_row rows zero os = unfold with_row in refl
length_row rows (suc k) os = ap length (with_suc rows k os) ∙ length-set rows k os

length_all : (rows : List (List Open)) (fresh : List Fresh) → length (with_all rows fresh) ≡ length rows
length_all rows [] = refl
length_all rows (f ∷ fs) = length_all (with_row rows f.id f.opens) fs ∙ length_row rows f.id f.opens

pub none_same : {A B : Type 0} (xs : List A) (ys : List B) (id : ℕ) → length xs ≡ length ys → at_id xs id ≡ None → at_id ys id ≡ None
none_same xs ys zero l e = at_zero ys
none_same {A} {B} xs ys (suc k) l e = elim (leb_tells (length xs) k) [
  | inl p ↦ at_suc ys k ∙ slice_get_past ys k (omega arith)
  | inr p ↦ let q = go xs k p.1 (sym (at_suc xs k) ∙ e) in absurd q
]
  where
    go : (xs : List A) (k : ℕ) → k < length xs → slice_get xs k ≡ None → ⊥
    go [] k l e = omega arith
    go (x ∷ xs) zero l e = cc
    go (x ∷ xs) (suc k) l e = go xs k (omega arith) e

-- Rows with more records, of one trigger and of some others: those in which the records land
module _ (stage : Stage) (rows : List (List Open)) (rs : List Rec) (gone : (j : ℕ) → at_id rows j ≡ None → absorbed_all stage j [] rs ≡ []) where
  abbrev goal : ℕ → List Open
  goal j = absorbed_all stage j (problems_at rows j) rs

  one_put : (now : List (List Open)) (i : ℕ) (os : List Open) → length now ≡ length rows → os ≡ goal i → (j : ℕ) → problems_at (with_row now i os) j ≡ cond (i == j) (goal j) (problems_at now j)
  one_put now i os size is j = go (i == j) refl
    where
      own : (o : Option (List Open)) → at_id now i ≡ o → unwrap_or (option_map (λ _. os) (at_id now i)) [] ≡ goal i
      own None q = unfold problems_at in
          ap (λ o. unwrap_or (option_map (λ _. os) o) []) q
          ∙ sym (ap (λ o. absorbed_all stage i (unwrap_or o []) rs) (none_same now rows i size q) ∙ gone i (none_same now rows i size q))
      own (Some x) q = ap (λ o. unwrap_or (option_map (λ _. os) o) []) q ∙ is

      go : (b : Bool) → (i == j) ≡ b → problems_at (with_row now i os) j ≡ cond b (goal j) (problems_at now j)
      go true e = subst (λ k. problems_at (with_row now i os) k ≡ goal k) (eqb-true i j e) (row_same now i os ∙ own (at_id now i) refl)
      go false e = row_other now i j os (λ q. let t : (i == j) ≡ true = eq-eqb i j q in cc)

  all_put : (now : List (List Open)) (fresh : List Fresh) → length now ≡ length rows → Each (IsAbsorbed stage rows rs) fresh → (j : ℕ) → problems_at (with_all now fresh) j ≡ cond (has_fresh fresh j) (goal j) (problems_at now j)
  all_put now [] size each j = refl
  all_put now (f ∷ fs) size each j =
      all_put (with_row now f.id f.opens) fs (length_row now f.id f.opens ∙ size) each.1 j
      ∙ ap (λ os. cond (has_fresh fs j) (goal j) os) (one_put now f.id f.opens size each.0 j) ∙ go (f.id == j) (has_fresh fs j)
    where
      go : (a b : Bool) → cond b (goal j) (cond a (goal j) (problems_at now j)) ≡ cond (a || b) (goal j) (problems_at now j)
      go true true = refl
      go true false = refl
      go false b = refl

  pub rows_absorbed : (id : ℕ) (own : List Open) (fresh : List Fresh) → own ≡ goal id → Each (IsAbsorbed stage rows rs) fresh → LandIn stage (λ j. only id j || has_fresh fresh j) rs → Absorbed stage rows rs (with_all (with_row rows id own) fresh)
  rows_absorbed id own fresh is each land = record {
    each = λ j. all_put (with_row rows id own) fresh (length_row rows id own) each j ∙ ap (λ os. cond (has_fresh fresh j) (goal j) os) (one_put rows id own refl is j) ∙ go j (only id j) (has_fresh fresh j) refl refl;
    size = length_all (with_row rows id own) fresh ∙ length_row rows id own;
  }
    where
      go : (j : ℕ) (a b : Bool) → only id j ≡ a → has_fresh fresh j ≡ b → cond b (goal j) (cond a (goal j) (problems_at rows j)) ≡ goal j
      go j true true p q = refl
      go j true false p q = refl
      go j false true p q = refl
      go j false false p q = sym (land_off stage (λ k. only id k || has_fresh fresh k) j (problems_at rows j) rs land (ap (λ a. a || has_fresh fresh j) p ∙ q))

-- No trigger yet
pub run_none : (stage : Stage) (one : (ℕ → List Open) → ℕ → List Rec) (rows : List (List Open)) (made : List Rec) → made ≡ [] → Runs stage one rows [] made rows
run_none stage one rows made e = record { records = e; changes = λ id. ap (absorbed_all stage id (problems_at rows id)) (sym e); size = refl }

-- One trigger more, as the loop has it
pub run_more : (stage : Stage) (occasion : Occasion) (items : ℕ → List Stored) (before rows next : List (List Open)) (ids : List ℕ) (k id : ℕ) (made more : List Rec) (o : Option TriggerOutcome)
    → k < length ids → id ≡ get_or ids k 0 → outcome_records o ≡ evaluated stage occasion items (problems_at rows) id
    → (AreTidy stage occasion.number rows → Absorbed stage rows (outcome_records o) (outcome_rows rows id o))
    → more ≡ made ++ outcome_records o → next ≡ outcome_rows rows id o
    → AreTidy stage occasion.number before → Runs stage (evaluated stage occasion items) before (take k ids) made rows → Runs stage (evaluated stage occasion items) before (take (k + 1) ids) more next
run_more stage occasion items before rows next ids k id made more o l is r lands m n tidy runs =
    record {
      records = m ∙ ap (λ xs. xs ++ outcome_records o) runs.records ∙ ap (λ xs. so_far ++ xs) (r ∙ ap (λ p. one p id) all) ∙ sym (phase_push stage one (problems_at before) (take k ids) id) ∙ ap (phase stage one (problems_at before)) (sym front);
      changes = λ j. ap (λ rs. problems_at rs j) n ∙ absorbed.each j
          ∙ ap (λ os. absorbed_all stage j os (outcome_records o)) (runs.changes j)
          ∙ sym (absorbed_append stage j (problems_at before j) made (outcome_records o)) ∙ ap (absorbed_all stage j (problems_at before j)) (sym m);
      size = ap length n ∙ absorbed.size ∙ runs.size;
    }
  where
    one : (ℕ → List Open) → ℕ → List Rec
    one = evaluated stage occasion items

    so_far : List Rec
    so_far = phase stage one (problems_at before) (take k ids)

    all : problems_at rows ≡ grown stage (problems_at before) so_far
    all = fun_ext (λ j. runs.changes j ∙ ap (absorbed_all stage j (problems_at before j)) runs.records)

    absorbed : Absorbed stage rows (outcome_records o) (outcome_rows rows id o)
    absorbed = lands (record { own = tidy.own; size = runs.size ∙ tidy.size; homes = λ j. subst (AllAtHome stage j) (sym (runs.changes j)) (home_all stage j (problems_at before j) made (tidy.homes j)) })

    front : take (k + 1) ids ≡ take k ids ++ id ∷ []
    front = take_more ids k 0 l ∙ ap (λ i. take k ids ++ i ∷ []) (sym is)
