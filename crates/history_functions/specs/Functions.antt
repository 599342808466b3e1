-- The value of a call of a function (the Zabbix 6.0 manual, "Supported functions").
use Rattle.std.specs.Prelude.{ℕ, ℤ, List, Option, None}
use Rattle.zbx_types.specs.declared.calls.Call.{Call}
use Rattle.zbx_types.specs.declared.calls.Fun.{Fun}
use Rattle.zbx_types.specs.declared.calls.Fun.TheVariants.{Last, First, Min, Max, Avg, Sum, Change, Count, Find, NoData}
use Rattle.zbx_types.specs.declared.calls.Fun.TheVariants.{Percentile, ChangeCount, MonoInc, MonoDec, Now, Time, Date, DayOfWeek, DayOfMonth}
use Rattle.zbx_types.specs.declared.entries.Stored.{Stored}
use Rattle.history_functions.specs.Values.{numbers}
use Rattle.history_functions.specs.Numbers.{last_of, first_of, min_of, max_of, avg_of, sum_of_numbers}
use Rattle.history_functions.specs.Ranks.{percentile_of}
use Rattle.history_functions.specs.Changes.{change_of, changecount_of, monoinc_of, monodec_of}
use Rattle.history_functions.specs.Matching.{count_of, find_of}
use Rattle.history_functions.specs.Absence.{nodata_of}
use Rattle.history_functions.specs.Clock.{now_of, time_of, date_of, dayofweek_of, dayofmonth_of}

-- the functions of numbers
abbrev pub of_numbers : Fun → Call → List ℤ → Option ℤ
of_numbers Last call zs = last_of call.range zs
of_numbers First call zs = first_of zs
of_numbers Min call zs = min_of zs
of_numbers Max call zs = max_of zs
of_numbers Avg call zs = avg_of zs
of_numbers Sum call zs = sum_of_numbers zs
of_numbers Percentile call zs = percentile_of call.op zs
of_numbers MonoInc call zs = monoinc_of call.op zs
of_numbers MonoDec call zs = monodec_of call.op zs
of_numbers fun call zs = None

-- the functions of the moment, at an offset from UTC in seconds
abbrev pub of_clock : Fun → ℕ → ℤ → Option ℤ
of_clock Now now offset = now_of now
of_clock Time now offset = time_of now offset
of_clock Date now offset = date_of now offset
of_clock DayOfWeek now offset = dayofweek_of now offset
of_clock DayOfMonth now offset = dayofmonth_of now offset
of_clock fun now offset = None

-- a function over the window of its item, oldest first; None is unknown
abbrev pub function_value : Fun → Call → List Stored → ℕ → Option ℕ → ℤ → Option ℤ
function_value Change call window now first_tick offset = change_of window
function_value ChangeCount call window now first_tick offset = changecount_of call.op window
function_value Count call window now first_tick offset = count_of call.op call.arg window
function_value Find call window now first_tick offset = find_of call.op call.arg window
function_value NoData call window now first_tick offset = nodata_of call.range window now first_tick
function_value Now call window now first_tick offset = of_clock Now now offset
function_value Time call window now first_tick offset = of_clock Time now offset
function_value Date call window now first_tick offset = of_clock Date now offset
function_value DayOfWeek call window now first_tick offset = of_clock DayOfWeek now offset
function_value DayOfMonth call window now first_tick offset = of_clock DayOfMonth now offset
function_value fun call window now first_tick offset = of_numbers fun call (numbers window)

-- the value of a call
unfoldable pub value_of : Call → List Stored → ℕ → Option ℕ → ℤ → Option ℤ
value_of call window now first_tick offset = function_value call.fun call window now first_tick offset
