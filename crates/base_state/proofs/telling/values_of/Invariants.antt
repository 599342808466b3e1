use Rattle.std.proofs.Common.{◌≡◌, ◌++◌, map, drop}
use Rattle.value_cache.specs.Tokens.{values_of}
use Rattle.base_laws.specs.Bases.{told_value}
use Rattle.base_state.proofs.telling.values_of.Given as goal

abbrev pub invariant-loop-token : goal.invariant-loop-token
invariant-loop-token l = l.made ++ map told_value (values_of (drop l.token-index l.tokens)) ≡ map told_value (values_of l.tokens)
