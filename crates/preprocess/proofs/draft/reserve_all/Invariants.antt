use Rattle.std.proofs.Common.{◌≡◌, map, take}
use Rattle.std.specs.List.{AllByRecursion}
use Rattle.preprocess.specs.Draft.{roomless, HasRoom}
use Rattle.preprocess.proofs.draft.reserve_all.Given as goal

abbrev pub invariant-loop-visit : goal.invariant-loop-visit
invariant-loop-visit l = record {
  same : map roomless l.cells.items ≡ map roomless l.fn.cells.items;
  room : AllByRecursion (λ v. HasRoom l.cells.items v.item) (take l.visit-index l.visits);
}
