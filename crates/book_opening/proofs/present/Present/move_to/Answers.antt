use Rattle.book_opening.proofs.Growing.{on_ok}
use Rattle.book_opening.proofs.present.Present.move_to.Goals as goal

pub returns-clause-still : goal.returns-clause-still
returns-clause-still c = on_ok c.move_to.result _ _ (λ represented flat base log present. record { stage = present.stage; cells = represented _ _ present.cells }) c.move_to.ensures.represented
