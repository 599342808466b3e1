use Rattle.std.proofs.Common.{◌∙◌, ap, not, filter, rules}
use Rattle.std.proofs.lemmas.Fn.{filter_same}
use Rattle.zbx_types.specs.Records.{same_event}
use Rattle.trigger_state.specs.Problems.{event_in}
use Rattle.trigger_state.specs.declared.problems.Open.{Open}
use Rattle.trigger_state.proofs.absorbing.without.Goals as goal

pub returns : goal.returns
returns c =
    c.from_vec.ensures ∙ filter_same _ (λ (o : Open). not (same_event (event_in o) c.args.event)) _ (λ x b f' k. search rules) _ _ c.retain.ensures.filtered
    ∙ ap (λ xs. filter (λ (o : Open). not (same_event (event_in o) c.args.event)) xs) c.into_vec-kept.ensures
