-- The values of a window, which stand oldest first.
use Rattle.std.specs.Prelude.{ℕ, ◌+◌, ◌-◌, ◌*◌, ℤ, pos, List, [], ◌∷◌, Option, Some, None, drop, length}
use Rattle.std.specs.List.{zip}
use Rattle.zbx_types.specs.Arithmetic.{in_range}
use Rattle.zbx_types.specs.Ids.{at_id}
use Rattle.zbx_types.specs.declared.entries.Stored.{Stored}
use Rattle.zbx_types.specs.declared.entries.Held.{Held}
use Rattle.zbx_types.specs.declared.entries.Held.TheVariants.{Number, Words}

-- a value before numbers, where it is one
abbrev pub number_before : Held → List ℤ → List ℤ
number_before (Number z) zs = z ∷ zs
number_before (Words text) zs = zs

-- the numbers among the values, in their order
abbrev pub numbers : List Stored → List ℤ
numbers [] = []
numbers (s ∷ ss) = number_before s.value (numbers ss)

-- a value as a number, where it is one
abbrev pub number_of : Held → Option ℤ
number_of (Number z) = Some z
number_of (Words text) = None

-- the same where there may be no value
abbrev pub number_in : Option Stored → Option ℤ
number_in None = None
number_in (Some s) = number_of s.value

-- each value with the next one in time
abbrev pub neighbours : {A : Type 0} → List A → List (A × A)
neighbours xs = zip xs (drop 1 xs)

-- the n-th from the end, where 1 is the last
abbrev pub nth_last : {A : Type 0} → ℕ → List A → Option A
nth_last n xs = at_id xs (length xs + 1 - n)

-- a whole number, where it is in range
abbrev pub whole : ℕ → Option ℤ
whole n = in_range (pos (n * 1000000))
