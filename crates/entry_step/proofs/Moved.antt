-- Cells whose values stand in another cache.
use Rattle.std.proofs.Common.{◌≡◌, ◌∙◌, ℕ, List, length, map, option_map, Option, Some, None, is_some, sym, ap}
use Rattle.zbx_types.specs.Ids.{at_id}
use Rattle.zbx_types.specs.declared.conf.Conf.{Conf}
use Rattle.zbx_types.specs.declared.entries.Stored.{Stored}
use Rattle.prep_steps.specs.declared.memory.StepMemory.{StepMemory}
use Rattle.trigger_state.specs.Stages.{Stage}
use Rattle.trigger_state.specs.declared.problems.Open.{Open}
use Rattle.value_cache.specs.Cells.{CellView}
use Rattle.preprocess.specs.Chains.{listed}
use Rattle.preprocess.specs.Draft.{kept_of, roomless}
use Rattle.preprocess.proofs.Logs.{at_map}
use Rattle.entry_step.specs.Cells.{Cells}
use Rattle.entry_step.specs.Kept.{Keeps}
use Rattle.entry_step.specs.Represents.{CellsView, Represents, StillRepresents, problems_at}
use Rattle.entry_step.proofs.Coming.{Became, same_length, some_map, still_ordered, keeps_same, kept_roomless}

-- an item keeps the same
still : (o p : Option CellView) → option_map kept_of p ≡ option_map kept_of o → Became o None 0 p
still None None e = tt
still None (Some p) e = absurd cc
still (Some o) None e = absurd cc
still (Some o) (Some p) e = cc

-- so it stands for the same history
keeps_still : (conf : Conf) (id seen : ℕ) (history : List Stored) (o p : Option CellView) → Became o None 0 p → Keeps conf id seen history o → Keeps conf id seen history p
keeps_still conf id seen history None None b k = k
keeps_still conf id seen history None (Some p) b k = absurd b
keeps_still conf id seen history (Some o) None b k = absurd b
keeps_still conf id seen history (Some o) (Some p) b k = keeps_same conf id seen history o p b k

-- what a run keeps, where each item keeps the same
pub still_represents : (before after : CellsView) → map kept_of after.items ≡ map kept_of before.items → after.memories ≡ before.memories → after.problems ≡ before.problems → after.tick ≡ before.tick → StillRepresents before after
still_represents before after items memories problems tick stage c r = record {
  items = same_length after.items before.items (λ id. sym (some_map kept_of (at_id after.items id)) ∙ ap is_some (at id) ∙ some_map kept_of (at_id before.items id)) ∙ r.items;
  ordered = λ id. still_ordered (at_id before.items id) (at_id after.items id) None 0 (still (at_id before.items id) (at_id after.items id) (at id)) (r.ordered id);
  memories = ap (λ (rows : List (List StepMemory)). length rows) memories ∙ r.memories;
  triggers = ap (λ (rows : List (List Open)). length rows) problems ∙ r.triggers;
  histories = λ id. keeps_still stage.conf id _ _ (at_id before.items id) (at_id after.items id) (still (at_id before.items id) (at_id after.items id) (at id)) (r.histories id);
  marks = λ id. ap (λ rows. listed rows id) memories ∙ r.marks id;
  problems = λ id. ap (λ rows. problems_at rows id) problems ∙ r.problems id;
  tick = tick ∙ r.tick;
  tidy = r.tidy;
}
  where
    at : (id : ℕ) → option_map kept_of (at_id after.items id) ≡ option_map kept_of (at_id before.items id)
    at id = sym (at_map kept_of after.items id) ∙ ap (λ rows. at_id rows id) items ∙ at_map kept_of before.items id

-- the same by items with their room
pub same_kept : (before after : List CellView) → map kept_of after ≡ map kept_of before → map kept_of (map roomless after) ≡ map kept_of (map roomless before)
same_kept before after e = kept_roomless after ∙ e ∙ sym (kept_roomless before)
