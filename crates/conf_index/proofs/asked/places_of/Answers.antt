use Rattle.zbx_types.specs.Operators.{call_pattern}
use Rattle.history_functions.specs.Matching.{pattern_place}
use Rattle.conf_index.specs.Asked.{IsAsked}
use Rattle.conf_index.proofs.Asking.{map_more, all_more}
use Rattle.conf_index.proofs.asked.places_of.Goals as goal

pub loop-call-preserved : goal.loop-call-preserved
loop-call-preserved c = (
  map_more (λ call. pattern_place (call_pattern call) c.args.patterns.now) c.args.calls.now c.loop-call.call-index c.call-item.result c.loop-call.made c.push.new.self c.in_ok-place_of.field-0 c.loop-call-test.true c.call-item.is
      c.in_ok-push.ensures.ok c.in_ok-place_of.ensures.place c.loop-call.invariant.0,
  all_more (IsAsked c.args.patterns.now) c.args.calls.now c.loop-call.call-index c.call-item.result c.loop-call-test.true c.call-item.is c.in_ok-place_of.ensures.asked c.loop-call.invariant.1,
)
