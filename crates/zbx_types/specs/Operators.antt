-- The operators of `count` and `find`, and the patterns of calls (the Zabbix 6.0 manual, "History functions").
use Rattle.std.specs.Prelude.{ℕ, ◌==◌, Bool, true, false, List, ◌++◌, length, codes, bytes_eq, Option, Some, None, if◌then◌else◌}
use Rattle.zbx_types.specs.declared.calls.Call.{Call}
use Rattle.zbx_types.specs.declared.calls.Fun.{Fun}
use Rattle.zbx_types.specs.declared.calls.Fun.TheVariants.{Last, First, Min, Max, Avg, Sum, Change, Count, Find, NoData, Percentile, ChangeCount, MonoInc, MonoDec, Now, Time, Date, DayOfWeek, DayOfMonth}
use Rattle.zbx_types.specs.declared.operators.Operator.{Operator}
use Rattle.zbx_types.specs.declared.operators.Operator.TheVariants.{Any, Unwritten, Eq, Ne, Gt, Ge, Lt, Le, Like, Regexp, Iregexp, Other}

-- an operator by its name
abbrev pub named : List ℕ → Operator
named op =
    if bytes_eq op (codes "eq") then Eq else if bytes_eq op (codes "ne") then Ne
    else if bytes_eq op (codes "gt") then Gt else if bytes_eq op (codes "ge") then Ge
    else if bytes_eq op (codes "lt") then Lt else if bytes_eq op (codes "le") then Le
    else if bytes_eq op (codes "like") then Like else if bytes_eq op (codes "regexp") then Regexp
    else if bytes_eq op (codes "iregexp") then Iregexp else Other

-- the operator of a call; where neither name nor argument is written, any value matches
abbrev pub operator_of : List ℕ → List ℕ → Operator
operator_of op arg =
    if length op == 0 then (if length arg == 0 then Any else Unwritten) else named op

-- the pattern that an operator searches for: of `iregexp` the argument behind `(?i)`
abbrev pub pattern_of : Operator → List ℕ → Option (List ℕ)
pattern_of Any arg = None
pattern_of Unwritten arg = None
pattern_of Eq arg = None
pattern_of Ne arg = None
pattern_of Gt arg = None
pattern_of Ge arg = None
pattern_of Lt arg = None
pattern_of Le arg = None
pattern_of Like arg = None
pattern_of Regexp arg = Some arg
pattern_of Iregexp arg = Some (codes "(?i)" ++ arg)
pattern_of Other arg = None

-- the pattern that a function searches for
abbrev pub function_pattern : Fun → Call → Option (List ℕ)
function_pattern Count call = pattern_of (operator_of call.op call.arg) call.arg
function_pattern Find call = pattern_of (operator_of call.op call.arg) call.arg
function_pattern fun call = None

-- the pattern of a call
unfoldable pub call_pattern : Call → Option (List ℕ)
call_pattern call = function_pattern call.fun call

-- a function of date or time, which looks at no item
abbrev pub is_dated : Fun → Bool
is_dated Now = true
is_dated Time = true
is_dated Date = true
is_dated DayOfWeek = true
is_dated DayOfMonth = true
is_dated Last = false
is_dated First = false
is_dated Min = false
is_dated Max = false
is_dated Avg = false
is_dated Sum = false
is_dated Change = false
is_dated Count = false
is_dated Find = false
is_dated NoData = false
is_dated Percentile = false
is_dated ChangeCount = false
is_dated MonoInc = false
is_dated MonoDec = false
