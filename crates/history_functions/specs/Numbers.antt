-- Functions of the numbers of a window, oldest first (the Zabbix 6.0 manual, "Aggregate functions", "History
-- functions").
use Rattle.std.specs.Prelude.{◌*◌, ℤ, pos, List, [], ◌∷◌, length, Option, Some, None, option_and_then, int_lt, if◌then◌else◌}
use Rattle.zbx_types.specs.Arithmetic.{in_range, quotient_of}
use Rattle.zbx_types.specs.Ids.{at_id}
use Rattle.zbx_types.specs.Numbers.{least, greatest, total}
use Rattle.zbx_types.specs.declared.calls.Range.{Range}
use Rattle.zbx_types.specs.declared.calls.Range.TheVariants.{Count, Period}
use Rattle.history_functions.specs.Values.{nth_last}

-- `last`: the n-th latest number; a period names none
abbrev pub last_of : Range → List ℤ → Option ℤ
last_of (Count n) zs = nth_last n zs
last_of (Period seconds) zs = None

-- `first`: the oldest
abbrev pub first_of : List ℤ → Option ℤ
first_of zs = at_id zs 1

-- the less of two numbers, of which none, one or both are there
abbrev pub lesser : Option ℤ → Option ℤ → Option ℤ
lesser None other = other
lesser (Some z) None = Some z
lesser (Some z) (Some x) = Some (if int_lt x z then x else z)

-- the greater of them
abbrev pub greater : Option ℤ → Option ℤ → Option ℤ
greater None other = other
greater (Some z) None = Some z
greater (Some z) (Some x) = Some (if int_lt z x then x else z)

-- `min`: of no number unknown
abbrev pub min_of : List ℤ → Option ℤ
min_of [] = None
min_of (z ∷ zs) = Some (least z zs)

-- `max`: of no number unknown
abbrev pub max_of : List ℤ → Option ℤ
max_of [] = None
max_of (z ∷ zs) = Some (greatest z zs)

-- `sum`: exact, and of no number unknown
abbrev pub sum_of_numbers : List ℤ → Option ℤ
sum_of_numbers [] = None
sum_of_numbers (z ∷ zs) = in_range (total (z ∷ zs))

-- `avg`: the sum divided by how many there are
abbrev pub avg_of : List ℤ → Option ℤ
avg_of zs = option_and_then (λ sum. quotient_of sum (pos (length zs * 1000000))) (sum_of_numbers zs)
