-- Cells that keep the same become the same.
use Rattle.std.proofs.Common.{ℕ, List, option_map, ap, ◌∙◌}
use Rattle.zbx_types.specs.Ids.{at_id}
use Rattle.preprocess.specs.Cells.{AreSame, Becomes}
use Rattle.preprocess.specs.Draft.{kept_after, marks_after, visit_at}
use Rattle.preprocess.specs.declared.cells.Cells.{Cells}
use Rattle.preprocess.specs.declared.visit.Visit.{Visit}
use Rattle.preprocess.proofs.Keeping.{same_kept}

pub same_becomes : (now : ℕ) (visits : List Visit) (before between after : Cells) → AreSame between before → Becomes now visits between after → Becomes now visits before after
same_becomes now visits before between after same is = record {
  cells = λ id. is.cells id ∙ ap (λ rows. option_map (kept_after now (visit_at visits id)) (at_id rows id)) (same_kept between.cells.items before.cells.items same.cells);
  memories = λ id. is.memories id ∙ ap (λ rows. option_map (marks_after (visit_at visits id)) (at_id rows id)) same.memories;
}
