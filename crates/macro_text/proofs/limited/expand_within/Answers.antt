use Rattle.std.proofs.Common.{◌≡◌, ◌++◌, ◌≤◌, ◌∙◌, ap, sym, subst, [], length, arith}
use Rattle.std.proofs.lemmas.Grind.{common_steps}
use Rattle.std.proofs.lemmas.List.{append-nil}
use Rattle.macro_text.specs.Expanded.{expanded}
use Rattle.macro_text.proofs.Fronts.{none_left}
use Rattle.macro_text.proofs.limited.expand_within.Goals as goal

pub returns : goal.returns
returns c =
    let empty : length c.loop-rest.rest.now ≡ 0 = grind (arith, common_steps) in
    let left : expanded c.args.macros.now c.loop-rest.rest.now ≡ [] = none_left c.args.macros.now c.loop-rest.rest.now empty in
    let all : c.loop-rest.made ≡ expanded c.args.macros.now c.args.text.now =
    sym (append-nil c.loop-rest.made) ∙ ap (λ u. c.loop-rest.made ++ u) (sym left) ∙ c.loop-rest.invariant.so_far in
    record { value = (all, subst (λ t. length t ≤ c.args.most) all c.loop-rest.invariant.within) }
