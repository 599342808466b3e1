use Rattle.std.proofs.Common.{◌≡◌, ◌++◌, ◌∙◌, ap, [], length, arith}
use Rattle.std.proofs.lemmas.Grind.{common_steps}
use Rattle.macro_text.specs.Expanded.{expanded}
use Rattle.macro_text.proofs.Fronts.{none_left, all_stays}
use Rattle.macro_text.proofs.replacing.expand.Goals as goal

pub returns-clause-value : goal.returns-clause-value
returns-clause-value c =
    let empty : length c.loop-rest.rest.now ≡ 0 = grind (arith, common_steps) in
    let left : expanded c.args.lookup.now c.loop-rest.rest.now ≡ [] = none_left c.args.lookup.now c.loop-rest.rest.now empty in
    grind (arith, common_steps, ap (λ u. c.loop-rest.made ++ u) left, c.loop-rest.invariant.so_far)

pub returns-clause-same : goal.returns-clause-same
returns-clause-same c free = returns-clause-value c ∙ all_stays c.args.lookup.now c.args.text.now free
