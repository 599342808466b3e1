use Rattle.std.proofs.Common.{◌∙◌, List, All, ap, map, subst}
use Rattle.zbx_types.specs.Operators.{call_pattern}
use Rattle.zbx_types.specs.declared.calls.Call.{Call}
use Rattle.history_functions.specs.Matching.{pattern_place}
use Rattle.conf_index.specs.Asked.{places_of, IsAsked}
use Rattle.conf_index.proofs.Asking.{map_more, all_more}
use Rattle.conf_index.proofs.asked.rows_of.Goals as goal

pub loop-trigger-preserved : goal.loop-trigger-preserved
loop-trigger-preserved c = (
  map_more (places_of c.args.patterns.now) c.args.triggers.now c.loop-trigger.trigger-index c.trigger-item.result c.loop-trigger.rows.items c.push.new.self.items c.in_ok-places_of.field-0 c.loop-trigger-test.true c.trigger-item.is
      c.in_ok-push.ensures.items (c.in_ok-places_of.ensures.places ∙ ap (λ (calls : List Call). map (λ call. pattern_place (call_pattern call) c.args.patterns.now) calls) c.as_slice.ensures) c.loop-trigger.invariant.0,
  all_more (λ trigger. All (IsAsked c.args.patterns.now) trigger.calls) c.args.triggers.now c.loop-trigger.trigger-index c.trigger-item.result c.loop-trigger-test.true c.trigger-item.is
      (subst (λ (calls : List Call). All (IsAsked c.args.patterns.now) calls) c.as_slice.ensures c.in_ok-places_of.ensures.asked) c.loop-trigger.invariant.1,
)
