use Rattle.std.proofs.Common.{rules, ◌≡◌, ◌≤◌, ◌<◌, ◌+◌, ℕ, length, drop, Option, IfSome, sym, subst}
use Rattle.outside.specs.Others.{first_other}
use Rattle.outside.proofs.OtherLemmas.{inside_held}
use Rattle.outside.proofs.memory.MemSinkSink.differs.Goals as goal

pub returns-clause-within : goal.returns-clause-within
returns-clause-within c =
    let found : c.first_other.result ≡ first_other c.args.at c.args.bytes.now (drop c.args.at c.args.self.now.bytes) = search rules in
    subst (λ (o : Option ℕ). IfSome o (λ place. (c.args.at ≤ place) × (place < c.args.at + length c.args.bytes.now) × (place < length c.args.self.now.bytes)))
    (sym found) (inside_held c.args.at c.args.bytes.now c.args.self.now.bytes)
