use Rattle.std.proofs.Common.{subst, arith}
use Rattle.std.proofs.lemmas.List.{take_all}
use Rattle.std.specs.List.{AllByRecursion}
use Rattle.preprocess.specs.Draft.{HasRoom}
use Rattle.preprocess.proofs.Caching.{rooms_shown}
use Rattle.preprocess.proofs.draft.reserve_all.Goals as goal

pub returns-clause-room : goal.returns-clause-room
returns-clause-room c =
    let cells = c.loop-visit.cells.items in
    rooms_shown cells c.args.visits.now
    (subst (AllByRecursion (λ v. HasRoom cells v.item)) (take_all c.loop-visit.visit-index c.args.visits.now (omega arith)) c.loop-visit.invariant.room)
