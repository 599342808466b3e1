use Rattle.std.proofs.Common.{◌≡◌, take}
use Rattle.value_cache.specs.Tokens.{AreOf, values_of}
use Rattle.value_cache.proofs.same.tokens_moved.Given as goal

abbrev pub invariant-loop-token : goal.invariant-loop-token
invariant-loop-token l = (values_of l.made.items ≡ values_of (take l.token-index l.tokens)) × AreOf l.to l.made.items
