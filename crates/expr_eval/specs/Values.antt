-- The value of an expression, over the values of its calls.
use Rattle.std.specs.Prelude.{ℕ, ◌<◌, List, Option, Some, None, ℤ, neg_ℤ, slice_index_or}
use Rattle.std.specs.Option.{option_map}
use Rattle.zbx_types.specs.Tree.{Tree, constant, call, negative, negation, binary}
use Rattle.expr_eval.specs.Operations.{negation_of, operation}

-- the millionths of an expression's value over the values of its calls by their places, or None where it is unknown, by
-- cases on its tree
abbrev pub value_over : (ℕ → Option ℤ) → Tree → Option ℤ
value_over calls (constant z) = Some z
value_over calls (call place) = calls place
value_over calls (negative a) = option_map neg_ℤ (value_over calls a)
value_over calls (negation a) = negation_of (value_over calls a)
value_over calls (binary op a b) = operation op (value_over calls a) (value_over calls b)

-- and over a list of them. A call that names no place in it is unknown.
abbrev pub value_of : Tree → List (Option ℤ) → Option ℤ
value_of t results = value_over (λ place. slice_index_or results place None) t
