-- A sink over a writer keeps the law of a sink.
use Rattle.std.specs.Prelude.{◌≡◌, ℕ, List, length, Option, Some, None, IfSome}
use Rattle.std.proofs.Common.{arith}
use Rattle.wire_mio.specs.Adapters.{counted}

-- as many bytes as it tells were counted
pub counted_held : (held : ℕ) (contents : Option (List ℕ)) → IfSome (counted held contents) (λ b. held ≡ length b)
counted_held held None = tt
counted_held held (Some bytes) = grind arith
