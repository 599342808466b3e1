-- Which items the functions of expressions take (the Zabbix 6.0 manual, "Supported functions", "History functions").
use Rattle.std.specs.Prelude.{Bool, true, false, not, ◌&&◌, is_some}
use Rattle.zbx_types.specs.Operators.{operator_of}
use Rattle.zbx_types.specs.Suffixes.{read_suffixed}
use Rattle.zbx_types.specs.declared.calls.Call.{Call}
use Rattle.zbx_types.specs.declared.calls.Fun.{Fun}
use Rattle.zbx_types.specs.declared.calls.Fun.TheVariants.{Change, Count, Find, NoData, ChangeCount}
use Rattle.zbx_types.specs.declared.items.ValueType.{ValueType}
use Rattle.zbx_types.specs.declared.items.ValueType.TheVariants.{Number, Words}
use Rattle.zbx_types.specs.declared.operators.Operator.{Operator}
use Rattle.zbx_types.specs.declared.operators.Operator.TheVariants.{Any, Unwritten, Eq, Ne, Gt, Ge, Lt, Le, Like}

-- the function takes items of text, and not numbers alone
abbrev pub takes_text : Fun → Bool
takes_text Change = true
takes_text Count = true
takes_text Find = true
takes_text NoData = true
takes_text ChangeCount = true
takes_text fun = false

-- the operator of `count` and `find`; of another function any value matches
abbrev pub operator_in : Fun → Call → Operator
operator_in Count call = operator_of call.op call.arg
operator_in Find call = operator_of call.op call.arg
operator_in fun call = Any

-- the operator asks which of two values is greater
abbrev pub is_order : Operator → Bool
is_order Gt = true
is_order Ge = true
is_order Lt = true
is_order Le = true
is_order operator = false

-- of numbers the operator compares with one
abbrev pub is_comparison : Operator → Bool
is_comparison Unwritten = true
is_comparison Eq = true
is_comparison Ne = true
is_comparison operator = is_order operator

-- the operator looks for a part of a text, not by a pattern
abbrev pub is_like : Operator → Bool
is_like Like = true
is_like operator = false

-- a call takes an item of this type
abbrev pub takes : Call → ValueType → Bool
takes call Number = not (is_like (operator_in call.fun call))
takes call Words = takes_text call.fun && not (is_order (operator_in call.fun call))

-- a call of an item of this type compares numbers with an argument that is none
abbrev pub lacks_number : Call → ValueType → Bool
lacks_number call Number = is_comparison (operator_in call.fun call) && not (is_some (read_suffixed call.arg))
lacks_number call Words = false
