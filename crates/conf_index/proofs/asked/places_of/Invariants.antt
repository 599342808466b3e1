use Rattle.std.proofs.Common.{◌≡◌, All, map, take}
use Rattle.zbx_types.specs.Operators.{call_pattern}
use Rattle.history_functions.specs.Matching.{pattern_place}
use Rattle.conf_index.specs.Asked.{IsAsked}
use Rattle.conf_index.proofs.asked.places_of.Given as goal

abbrev pub invariant-loop-call : goal.invariant-loop-call
invariant-loop-call l = (l.made ≡ map (λ call. pattern_place (call_pattern call) l.patterns) (take l.call-index l.calls)) × All (IsAsked l.patterns) (take l.call-index l.calls)
