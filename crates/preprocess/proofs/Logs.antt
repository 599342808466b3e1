-- What the cells hold behind a log of values.
use Rattle.std.proofs.Common.{◌≡◌, ℕ, zero, suc, ◌+◌, List, [], ◌∷◌, ◌++◌, map, slice_get, Option, Some, None, option_map, refl, ap, sym, ◌∙◌, arith}
use Rattle.zbx_types.specs.Ids.{at_id, ids_from}
use Rattle.zbx_types.specs.declared.conf.Conf.{Conf}
use Rattle.zbx_types.specs.declared.entries.Stored.{Stored}
use Rattle.zbx_types.specs.declared.items.Item.{Item}
use Rattle.prep_steps.specs.declared.memory.StepMemory.{StepMemory}
use Rattle.value_cache.specs.Keeps.{keep_of, keeps_of}
use Rattle.value_cache.specs.Laws.{kept_of as trimmed_of}
use Rattle.preprocess.specs.Ways.{memory_at}
use Rattle.preprocess.specs.Chains.{listed}
use Rattle.preprocess.specs.Visits.{memory_in, visits_of}
use Rattle.preprocess.specs.Draft.{Kept, stored_of, kept_with, kept_after, marks_after, visit_at}
use Rattle.preprocess.specs.Cells.{kept_in, no_marks, empty, visits_in}
use Rattle.preprocess.specs.Laws.{Taken, marks_behind, memory_behind, visit_behind, insert_of, inserts_behind, kept_behind, HoldNothing, HoldOneMore}
use Rattle.preprocess.specs.declared.visit.Visit.{Visit}
use Rattle.zbx_types.proofs.RowLemmas.{at_zero, at_suc}
use Rattle.preprocess.proofs.Keeping.{map_get}

pub at_map : {A B : Type 0} (f : A → B) (xs : List A) (id : ℕ) → at_id (map f xs) id ≡ option_map f (at_id xs id)
at_map f xs zero = rw (at_zero (map f xs), at_zero xs) refl
at_map f xs (suc k) = rw (at_suc (map f xs) k, at_suc xs k) (map_get f xs k)

-- what is made of ids, in the order of the items that have them
ids_get : {A B : Type 0} (f : ℕ → B) (from : ℕ) (xs : List A) (k : ℕ) → slice_get (map f (ids_from from xs)) k ≡ option_map (λ x. f (k + from)) (slice_get xs k)
ids_get f from [] k = refl
ids_get f from (x ∷ xs) zero =
    let none : from ≡ zero + from = omega arith in ap (λ n. Some (f n)) none
ids_get f from (x ∷ xs) (suc k) =
    let next : k + (from + 1) ≡ suc k + from = omega arith in
    ids_get f (from + 1) xs k ∙ ap (λ n. option_map (λ y. f n) (slice_get xs k)) next

at_ids : {A B : Type 0} (f : ℕ → B) (xs : List A) (id : ℕ) → at_id (map f (ids_from 1 xs)) id ≡ option_map (λ x. f id) (at_id xs id)
at_ids f xs zero = rw (at_zero (map f (ids_from 1 xs)), at_zero xs) refl
at_ids f xs (suc k) =
    let next : k + 1 ≡ suc k = omega arith in
    rw (at_suc (map f (ids_from 1 xs)) k, at_suc xs k) (ids_get f 1 xs k ∙ ap (λ n. option_map (λ x. f n) (slice_get xs k)) next)

-- where one value stands for each item
mapped : {A B C : Type 0} (f : B → C) (b : B) (c : C) (o : Option A) → f b ≡ c → option_map f (option_map (λ x. b) o) ≡ option_map (λ x. c) o
mapped f b c None e = refl
mapped f b c (Some x) e = ap Some e

-- the steps of an item that isn't there remember nothing
marks_none : (conf : Conf) (log : List Taken) (id : ℕ) → at_id conf.items id ≡ None → marks_behind conf log id ≡ []
unfolding marks_behind
marks_none conf [] id e = rw e refl
marks_none conf (t ∷ log) id e = rw e refl

begun : (conf : Conf) (id : ℕ) (o : Option Item) → at_id conf.items id ≡ o → option_map no_marks o ≡ option_map (λ item. marks_behind conf [] id) o
unfolding marks_behind
begun conf id None e = refl
begun conf id (Some item) e = rw e refl

pub hold_nothing : HoldNothing
unfolding inserts_behind
hold_nothing conf cells new = record {
  kept = λ id. ap (λ rows. at_id rows id) new.cells ∙ at_map empty (keeps_of conf) id ∙ ap (option_map empty) (at_ids (keep_of conf) conf.items id)
      ∙ mapped empty (keep_of conf id) (kept_behind conf [] id) (at_id conf.items id) refl;
  memories = λ id. ap (λ rows. at_id rows id) new.memories ∙ at_map no_marks conf.items id ∙ begun conf id (at_id conf.items id) refl;
}

-- what an item keeps behind a log and one more value, if there is one
abbrev with_insert : Conf → List Taken → ℕ → ℕ → Option Stored → Kept
with_insert conf log now id s = record { keep = keep_of conf id; values = trimmed_of (keep_of conf id) (insert_of now s ++ inserts_behind conf log id) }

-- a cell with the value that a visit stores
with_stored : (conf : Conf) (log : List Taken) (now id : ℕ) (s : Option Stored) → kept_with now s (kept_behind conf log id) ≡ with_insert conf log now id s
with_stored conf log now id None = refl
with_stored conf log now id (Some s) = refl

with_visit : (conf : Conf) (log : List Taken) (t : Taken) (id : ℕ) (v : Option Visit) → kept_after t.now v (kept_behind conf log id)
    ≡ with_insert conf log t.now id (stored_of v)
with_visit conf log t id None = refl
with_visit conf log t id (Some v) = with_stored conf log t.now id (stored_of (Some v))

kept_more : (conf : Conf) (log : List Taken) (t : Taken) (id : ℕ) → kept_after t.now (visit_behind conf log t id) (kept_behind conf log id) ≡ kept_behind conf (t ∷ log) id
unfolding inserts_behind
kept_more conf log t id = with_visit conf log t id (visit_behind conf log t id)

marks_more : (conf : Conf) (log : List Taken) (t : Taken) (id : ℕ) (o : Option Item) → at_id conf.items id ≡ o
    → option_map (marks_after (visit_behind conf log t id)) (option_map (λ item. marks_behind conf log id) o) ≡ option_map (λ item. marks_behind conf (t ∷ log) id) o
unfolding marks_behind
marks_more conf log t id None e = refl
marks_more conf log t id (Some item) e = rw e refl

-- what a row holds that stands for an item's marks
row_of : (conf : Conf) (log : List Taken) (id : ℕ) (rows : List (List StepMemory)) (o : Option Item) → at_id conf.items id ≡ o
    → at_id rows id ≡ option_map (λ item. marks_behind conf log id) o → listed rows id ≡ marks_behind conf log id
row_of conf log id rows None none e = rw e (sym (marks_none conf log id none))
row_of conf log id rows (Some item) some e = rw e refl

pub hold_one_more : HoldOneMore
hold_one_more conf log t before after holds becomes =
    let row : (i : ℕ) → listed before.memories.items i ≡ marks_behind conf log i = λ i. row_of conf log i before.memories.items (at_id conf.items i) refl (holds.memories i) in
    let memory : memory_in before.memories.items ≡ memory_behind conf log = λ j i k. memory_at (row i j) k in
    let visits : (id : ℕ) → visit_at (visits_in conf before t.arrival) id ≡ visit_behind conf log t id = λ id. ap (λ m. visit_at (visits_of conf m t.arrival) id) memory in
    record {
      kept = λ id. becomes.cells id ∙ ap (λ v. option_map (kept_after t.now v) (at_id (kept_in before) id)) (visits id)
          ∙ ap (option_map (kept_after t.now (visit_behind conf log t id))) (holds.kept id)
          ∙ mapped (kept_after t.now (visit_behind conf log t id)) (kept_behind conf log id) (kept_behind conf (t ∷ log) id) (at_id conf.items id) (kept_more conf log t id);
      memories = λ id. becomes.memories id ∙ ap (λ v. option_map (marks_after v) (at_id before.memories.items id)) (visits id)
          ∙ ap (option_map (marks_after (visit_behind conf log t id))) (holds.memories id)
          ∙ marks_more conf log t id (at_id conf.items id) refl;
    }
