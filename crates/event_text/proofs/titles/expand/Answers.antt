use Rattle.std.proofs.Common.{◌≡◌, [], length, sym, subst, ◌∙◌, arith}
use Rattle.std.proofs.lemmas.Grind.{common_steps}
use Rattle.event_text.specs.Cuts.{IsOnTheWay}
use Rattle.event_text.specs.Titles.{expanded, HasPatterns}
use Rattle.event_text.proofs.CutLemmas.{arrived, cut_arrived}
use Rattle.event_text.proofs.TitleLemmas.{expanded_empty}
use Rattle.event_text.proofs.titles.expand.Goals as goal

pub loop-rest-init : goal.loop-rest-init
loop-rest-init c =
    let all = expanded c.args.host.now c.args.values.now in
    record {
      way = subst (λ t. IsOnTheWay c.args.limit c.new-front.result (all t) (all c.args.text.now)) (sym c.as_str-rest.ensures) (c.new-front.ensures (all c.args.text.now));
      patterns = subst (λ t. HasPatterns c.args.patterns.now t) (sym c.as_str-rest.ensures) c.requires;
      utf8 = c.as_str-rest.utf8;
    }

pub returns-then-is_cut : goal.returns-then-is_cut
returns-then-is_cut c =
    let all = expanded c.args.host.now c.args.values.now in
    c.into_text.ensures
    ∙ cut_arrived c.args.limit c.loop-rest.front.left c.loop-rest.front.made (all c.loop-rest.rest.now) (all c.args.text.now)
    (sym c.is_cut.ensures ∙ c.if-is_cut.true) c.loop-rest.invariant.way

pub returns : goal.returns
returns c =
    let all = expanded c.args.host.now c.args.values.now in
    let empty : length c.loop-rest.rest.now ≡ 0 = grind (arith, common_steps) in
    let none : all c.loop-rest.rest.now ≡ [] = expanded_empty c.args.host.now c.args.values.now c.loop-rest.rest.now empty in
    c.into_text-2.ensures
    ∙ arrived c.args.limit c.loop-rest.front.left c.loop-rest.front.made (all c.args.text.now)
    (subst (λ t. IsOnTheWay c.args.limit c.loop-rest.front t (all c.args.text.now)) none c.loop-rest.invariant.way)
