-- Operators over values, each a number of millionths or unknown.
use Rattle.std.specs.Prelude.{Bool, true, false, not, ◌&&◌, ◌||◌, Option, Some, None, if◌then◌else◌, ℤ, int_lt, int_le}
use Rattle.std.specs.Ordering.{int_eq}
use Rattle.std.specs.Option.{option_map}
use Rattle.zbx_types.specs.Arithmetic.{truth, is_true, sum_of, difference_of, product_of, quotient_of}
use Rattle.zbx_types.specs.declared.expr.Op.{Op}
use Rattle.zbx_types.specs.declared.expr.Op.TheVariants.{Or, And, Eq, Ne, Lt, Le, Gt, Ge, Add, Sub, Mul, Div}

-- `not`: of an unknown operand unknown
unfoldable pub negation_of : Option ℤ → Option ℤ
negation_of x = option_map (λ a. truth (not (is_true a))) x

-- `or`: a true operand is enough, also beside an unknown one
unfoldable pub or_of : Option ℤ → Option ℤ → Option ℤ
or_of (Some a) (Some b) = Some (truth (is_true a || is_true b))
or_of (Some a) None = if is_true a then Some (truth true) else None
or_of None (Some b) = if is_true b then Some (truth true) else None
or_of None None = None

-- `and`: a 0 is enough for 0, also beside an unknown operand
unfoldable pub and_of : Option ℤ → Option ℤ → Option ℤ
and_of (Some a) (Some b) = Some (truth (is_true a && is_true b))
and_of (Some a) None = if is_true a then None else Some (truth false)
and_of None (Some b) = if is_true b then None else Some (truth false)
and_of None None = None

-- what takes two known operands: unknown where one is
abbrev pub of_both : (ℤ → ℤ → Option ℤ) → Option ℤ → Option ℤ → Option ℤ
of_both f None y = None
of_both f (Some a) None = None
of_both f (Some a) (Some b) = f a b

-- a comparison of two known operands
abbrev pub compared : (ℤ → ℤ → Bool) → Option ℤ → Option ℤ → Option ℤ
compared test x y = of_both (λ a b. Some (truth (test a b))) x y

-- a comparison of two numbers holds; no other operator is one
abbrev pub holds : Op → ℤ → ℤ → Bool
holds Eq a b = int_eq a b
holds Ne a b = not (int_eq a b)
holds Lt a b = int_lt a b
holds Le a b = int_le a b
holds Gt a b = int_lt b a
holds Ge a b = int_le b a
holds _ a b = false

-- a binary operator over the values of its operands
unfoldable pub operation : Op → Option ℤ → Option ℤ → Option ℤ
operation Or x y = or_of x y
operation And x y = and_of x y
operation Eq x y = compared int_eq x y
operation Ne x y = compared (λ a b. not (int_eq a b)) x y
operation Lt x y = compared int_lt x y
operation Le x y = compared int_le x y
operation Gt x y = compared (λ a b. int_lt b a) x y
operation Ge x y = compared (λ a b. int_le b a) x y
operation Add x y = of_both sum_of x y
operation Sub x y = of_both difference_of x y
operation Mul x y = of_both product_of x y
operation Div x y = of_both quotient_of x y
