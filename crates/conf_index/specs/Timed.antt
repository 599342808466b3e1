-- The triggers that a Tick evaluates.
use Rattle.std.specs.Prelude.{ℕ, Bool, false, true, ◌&&◌, List, filter, Option, Some, None}
use Rattle.std.specs.List.{list_any}
use Rattle.zbx_types.specs.Ids.{at_id}
use Rattle.zbx_types.specs.Operators.{is_dated}
use Rattle.zbx_types.specs.declared.calls.Fun.{Fun}
use Rattle.zbx_types.specs.declared.calls.Fun.TheVariants.{NoData}
use Rattle.zbx_types.specs.declared.conf.Conf.{Conf}
use Rattle.zbx_types.specs.declared.triggers.Trigger.{Trigger}
use Rattle.conf_index.specs.Order.{order}

-- a function's value may change with time alone: `nodata`, and those of date or time
abbrev pub is_timed : Fun → Bool
is_timed NoData = true
is_timed fun = is_dated fun

-- a trigger is enabled and one of its expressions calls such a function
abbrev pub is_timed_trigger : Option Trigger → Bool
is_timed_trigger None = false
is_timed_trigger (Some trigger) = trigger.enabled && list_any (λ call. is_timed call.fun) trigger.calls

-- the triggers that a Tick evaluates, in the order of evaluation
unfoldable pub timed_triggers : Conf → List ℕ
timed_triggers conf = filter (λ id. is_timed_trigger (at_id conf.triggers id)) (order conf)
