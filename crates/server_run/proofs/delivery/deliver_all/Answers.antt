use Rattle.std.proofs.Common.{◌≡◌, ◌∷◌, ◌∙◌, ap, sym, subst, refl, drop, suc, add-one, ◌+◌, rules, arith, ◌<◌, ◌≤◌, length}
use Rattle.std.proofs.Math.Seq.{drop-cons}
use Rattle.std.proofs.lemmas.List.{drop_all}
use Rattle.server_run.specs.Sending.{Outgoing, nothing_out, with_answer, outgoing_from, outgoing, Shows}
use Rattle.server_run.proofs.Sending.{shows_none, shows_more}
use Rattle.server_run.proofs.delivery.deliver_all.Goals as goal

pub loop-answer-init : goal.loop-answer-init
loop-answer-init g c = record { out = (nothing_out, refl, shows_none _, refl); later = omega arith; left = refl; given = refl; faults = refl }

pub loop-answer-preserved : goal.loop-answer-preserved
loop-answer-preserved g c =
    let i = c.loop-answer.answer-index in
    let all = c.args.answers.now in
    let a = c.answer-item.result in
    let v = c.loop-answer.invariant in
    let o = v.out.0 in
    let below : i < length all = c.loop-answer-test.true in
    let next : drop i all ≡ a ∷ drop (i + 1) all = drop-cons all i a below ∙ ap (λ x. x ∷ drop (suc i) all) (sym c.answer-item.is) ∙ ap (λ n. a ∷ drop n all) (sym (add-one i)) in
    record {
      out = (with_answer o a, sym (ap (outgoing_from o) next) ∙ v.out.1, shows_more _ _ _ o.replies o.shut a v.out.2 c.deliver.ensures.delivers, refl);
      later = omega (arith, v.later, c.deliver.ensures.delivers.later);
      left = c.deliver.ensures.left ∙ v.left;
      given = c.deliver.ensures.given ∙ v.given;
      faults = c.deliver.ensures.faults ∙ v.faults;
    }

pub returns : goal.returns
returns g c =
    let all = c.args.answers.now in
    let v = c.loop-answer.invariant in
    let past : length all ≤ c.loop-answer.answer-index = search rules in
    let done : v.out.0 ≡ outgoing all = sym (ap (outgoing_from v.out.0) (drop_all c.loop-answer.answer-index all past)) ∙ v.out.1 in
    record {
      stop = v.out.3 ∙ ap (λ (o : Outgoing). o.stop) done;
      shows = subst (λ (o : Outgoing). Shows (g.W.Wire.tells c.args.wire.now) (g.W.Wire.tells c.loop-answer.wire) o.replies o.shut) done v.out.2;
      later = v.later;
      left = v.left;
      given = v.given;
      faults = v.faults;
    }
