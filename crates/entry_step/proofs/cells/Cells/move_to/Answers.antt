use Rattle.std.proofs.Common.{◌∙◌, ap, map}
use Rattle.preprocess.specs.Draft.{kept_of}
use Rattle.entry_step.specs.Represents.{CellsView}
use Rattle.entry_step.proofs.Moved.{same_kept, still_represents}
use Rattle.entry_step.proofs.cells.Cells.move_to.Goals as goal

pub returns-clause-represented : goal.returns-clause-represented
returns-clause-represented c =
    let before = c.self.inside in
    let held = c.self.view_is in
    still_represents c.args.self.now _
    (same_kept before.items.cells.items c.move_to.new.self.cells.items c.in_ok-move_to.ensures.kept ∙ ap (λ (view : CellsView). map kept_of view.items) held)
    (ap (λ rows. rows.items) c.move_to.ensures.memories ∙ ap (λ (view : CellsView). view.memories) held)
    (ap (λ (view : CellsView). view.problems) held)
    (ap (λ (view : CellsView). view.tick) held)
