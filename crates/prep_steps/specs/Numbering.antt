-- Steps on numbers: the custom multiplier and the range.
use Rattle.std.specs.Prelude.{ℕ, Bool, true, ◌&&◌, List, [], ◌∷◌, Option, Some, None, option_and_then, option_map, if◌then◌else◌, ℤ, int_le, codes}
use Rattle.zbx_types.specs.Arithmetic.{product_of}
use Rattle.zbx_types.specs.Blanks.{unpadded}
use Rattle.zbx_types.specs.Numerals.{read_number}
use Rattle.zbx_types.specs.Written.{written}
use Rattle.prep_steps.specs.Outcomes.{passed}
use Rattle.prep_steps.specs.declared.outcome.Outcome.{Outcome}
use Rattle.prep_steps.specs.declared.outcome.Outcome.TheVariants.{Fail}

-- the number that a value writes between blanks
unfoldable pub number_of : List ℕ → Option ℤ
number_of value = read_number (unpadded value)

-- the text of the failure of a value that is no number
abbrev pub not_a_number : List ℕ
not_a_number = codes "not a number"

-- the outcome of a value that is no number
abbrev pub no_number : Outcome
no_number = Fail not_a_number

-- the written result of a number step, which fails where the result is unknown
abbrev pub result_of : Option ℤ → Outcome
result_of None = Fail (codes "number range")
result_of (Some z) = passed (written z)

-- what a number step makes of the number that a value writes
abbrev pub on_number : (ℤ → Outcome) → Option ℤ → Outcome
on_number step None = no_number
on_number step (Some z) = step z

-- the product with a factor, which is unknown where the factor is no number
abbrev pub times_factor : List ℕ → ℤ → Outcome
times_factor factor z = result_of (option_and_then (λ f. product_of z f) (read_number factor))

-- the custom multiplier (the Zabbix 6.0 manual, "Preprocessing details")
unfoldable pub multiplied : List ℕ → List ℕ → Outcome
multiplied factor value = on_number (times_factor factor) (number_of value)

-- whether a number passes the test against a bound: an empty bound isn't given, and one that is no number says nothing
unfoldable pub passes_bound : (ℤ → Bool) → List ℕ → Option Bool
passes_bound test [] = Some true
passes_bound test (c ∷ rest) = option_map test (read_number (c ∷ rest))

-- a number that passes both bounds is the result, which is unknown where a bound says nothing
abbrev pub between : Option Bool → Option Bool → ℤ → Outcome
between (Some above) (Some below) z = if above && below then result_of (Some z) else Fail (codes "out of range")
between (Some above) None z = result_of None
between None below z = result_of None

-- whether a number is at least one bound, and at most the other
abbrev pub within : List ℕ → List ℕ → ℤ → Outcome
within low high z = between (passes_bound (λ b. int_le b z) low) (passes_bound (λ b. int_le z b) high) z

-- the range (the Zabbix 6.0 manual, "Preprocessing details")
unfoldable pub ranged : List ℕ → List ℕ → List ℕ → Outcome
ranged low high value = on_number (within low high) (number_of value)
