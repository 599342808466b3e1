-- The written form of numbers.
use Rattle.std.specs.Prelude.{ℕ, suc, ◌/◌, ◌%◌, ◌==◌, List, [], ◌∷◌, ◌++◌, if◌then◌else◌, ℤ, pos, negsuc, codes}
use Rattle.std.specs.List.{list_all}
use Rattle.std.specs.Fmt.{decimal}
use Rattle.zbx_types.specs.Digits.{last_six_digits}

-- digits without the zeros at their end: nothing where all are zeros
abbrev pub without_last_zeros : List ℕ → List ℕ
without_last_zeros [] = []
without_last_zeros (c ∷ cs) = if list_all (λ d. d == 48) (c ∷ cs) then [] else c ∷ without_last_zeros cs

-- millionths without a sign: the whole part and, where the fraction isn't zero, a point and its six decimals without the
-- zeros at their end
abbrev pub written_unsigned : ℕ → List ℕ
written_unsigned n =
    if n % 1000000 == 0 then decimal (n / 1000000)
    else decimal (n / 1000000) ++ codes "." ++ without_last_zeros (last_six_digits (n % 1000000))

-- millionths: a minus where they are negative, and then what stands without it
unfoldable pub written : ℤ → List ℕ
written (pos n) = written_unsigned n
written (negsuc n) = codes "-" ++ written_unsigned (suc n)
