-- An argument as a pattern, in both ways, serves each call with that argument.
use Rattle.std.proofs.Common.{◌≡◌, ℕ, List, [], ◌∷◌, ◌++◌, sym, subst, refl, arith, codes}
use Rattle.std.specs.Prelude.{IfSome, Contains}
use Rattle.zbx_types.specs.declared.calls.Call.{Call}
use Rattle.zbx_types.specs.declared.calls.Fun.{Fun}
use Rattle.zbx_types.specs.declared.calls.Fun.TheVariants.{Count, Find}
use Rattle.zbx_types.specs.declared.operators.Operator.{Operator}
use Rattle.zbx_types.specs.declared.operators.Operator.TheVariants.{Regexp, Iregexp}
use Rattle.zbx_types.specs.Operators.{operator_of, pattern_of, function_pattern, call_pattern}

abbrev both_ways : List ℕ → List (List ℕ)
both_ways arg = arg ∷ (codes "(?i)" ++ arg) ∷ []

of_operator : (operator : Operator) (arg : List ℕ) → IfSome (pattern_of operator arg) (Contains (both_ways arg))
of_operator Regexp arg = (0, omega arith, refl)
of_operator Iregexp arg = (1, omega arith, refl)
of_operator operator arg = tt

of_function : (fun : Fun) (call : Call) → IfSome (function_pattern fun call) (Contains (both_ways call.arg))
of_function Count call = of_operator (operator_of call.op call.arg) call.arg
of_function Find call = of_operator (operator_of call.op call.arg) call.arg
of_function fun call = tt

pub either_way : (call : Call) (patterns : List (List ℕ)) → patterns ≡ both_ways call.arg → IfSome (call_pattern call) (Contains patterns)
unfolding call_pattern
either_way call patterns is = subst (λ ps. IfSome (call_pattern call) (Contains ps)) (sym is) (of_function call.fun call)
