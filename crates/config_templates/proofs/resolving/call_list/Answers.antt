use Rattle.std.proofs.Common.{◌≡◌, ◌∙◌, ap, sym}
use Rattle.std.proofs.lemmas.Iterator.Adapters.{YieldsList-from_vec}
use Rattle.std.proofs.lemmas.Iterator.Consumers.{YieldsList-end}
use Rattle.std.proofs.lemmas.List.{map-id}
use Rattle.config_templates.specs.Expressions.{call_cause, first_cause}
use Rattle.config_templates.specs.Scopes.{seen_by}
use Rattle.config_templates.proofs.resolving.call_list.Goals as goal

pub returns-clause-cause : goal.returns-clause-cause
returns-clause-cause c =
    let gives = c.into_iter-call-iterator.ensures.into_iter_gives in
    let all = YieldsList-end (YieldsList-from_vec {s = c.into_iter-call-iterator.result} _ gives.0 (gives.1 ∙ c.into_vec-call-items.result.ok.0)) c.loop-call.yielded c.loop-call.call-iterator c.loop-call.yielded_by c.next.result c.next.new.self c.in-None.is c.next.ensures.steps in
    c.loop-call.invariant.cause ∙ ap (first_cause (λ k. call_cause k (seen_by c.args.scope.now c.args.owner.now k))) (sym (map-id c.loop-call.yielded) ∙ all.0 ∙ c.into_vec-call-items.ensures)
