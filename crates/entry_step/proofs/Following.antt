-- What is kept of the items behind a configuration that follows another one.
use Rattle.std.proofs.Common.{◌≡◌, ◌∙◌, ◌+◌, ℕ, suc, List, [], ◌∷◌, length, map, Option, Some, None, refl, sym, ap, subst}
use Rattle.zbx_types.specs.Ids.{at_id, ids_from}
use Rattle.zbx_types.specs.declared.conf.Conf.{Conf}
use Rattle.zbx_types.specs.declared.entries.Stored.{Stored}
use Rattle.value_cache.specs.Cells.{CellView, IsCellOf}
use Rattle.value_cache.specs.Keeps.{keep_of}
use Rattle.preprocess.specs.Carry.{carried_history, carried_for}
use Rattle.preprocess.specs.Chains.{listed}
use Rattle.preprocess.specs.Standing.{StandFor}
use Rattle.preprocess.proofs.Stands.{carried_stand, carried_remember}
use Rattle.entry_step.specs.Following.{KeepsOn}
use Rattle.entry_step.specs.Kept.{Keeps}

count_map : {A B : Type 0} (f : A → B) (xs : List A) → length (map f xs) ≡ length xs
count_map f [] = refl
count_map f (x ∷ xs) = ap suc (count_map f xs)

count_ids : {A : Type 0} (id : ℕ) (xs : List A) → length (ids_from id xs) ≡ length xs
count_ids id [] = refl
count_ids id (x ∷ xs) = ap suc (count_ids (id + 1) xs)

stand_from : (conf : Conf) (cells : List CellView) (seen : ℕ → ℕ) (histories : ℕ → List Stored) → ((id : ℕ) → Keeps conf id (seen id) (histories id) (at_id cells id)) → StandFor conf cells seen histories
stand_from conf cells seen histories keeps = record {
  there = λ id cell e. there id (at_id cells id) cell e (keeps id);
  absent = λ id e. absent id (at_id cells id) e (keeps id);
}
  where
    there : (id : ℕ) (o : Option CellView) (cell : CellView) → o ≡ Some cell → Keeps conf id (seen id) (histories id) o → (cell.keep ≡ keep_of conf id) × IsCellOf cell (seen id) (histories id)
    there id None cell e k = absurd (cc)
    there id (Some c) cell e k = subst (λ (x : CellView). (x.keep ≡ keep_of conf id) × IsCellOf x (seen id) (histories id)) (same c cell e) k
      where
        same : (a b : CellView) → Some a ≡ Some b → a ≡ b
        same a b i = cc

    absent : (id : ℕ) (o : Option CellView) → o ≡ None → Keeps conf id (seen id) (histories id) o → histories id ≡ []
    absent id None e k = k
    absent id (Some c) e k = absurd (cc)

keeps_from : (conf : Conf) (cells : List CellView) (seen : ℕ → ℕ) (histories : ℕ → List Stored) → StandFor conf cells seen histories → (id : ℕ) → Keeps conf id (seen id) (histories id) (at_id cells id)
keeps_from conf cells seen histories stand id = go (at_id cells id) refl
  where
    go : (o : Option CellView) → at_id cells id ≡ o → Keeps conf id (seen id) (histories id) o
    go None e = stand.absent id e
    go (Some cell) e = stand.there id cell e

pub keeps_on : KeepsOn
keeps_on old new now seen histories marks before after carried by keeps = record {
  items = sym (count_map (λ (c : CellView). c.keep) after.cells.items) ∙ ap length carried.keeps ∙ count_map (keep_of new) (ids_from 1 new.items) ∙ count_ids 1 new.items;
  memories = ap length carried.memories ∙ count_map (carried_for old new (listed before.memories.items)) new.items;
  histories_are =
      keeps_from new after.cells.items (λ id. now) (carried_history old new now histories)
      (carried_stand old new now before after seen histories carried (stand_from old before.cells.items seen histories keeps.histories_are) by);
  marks_are = carried_remember old new now before after marks carried keeps.marks_are;
}
