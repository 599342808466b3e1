use Rattle.std.proofs.Common.{arith}
use Rattle.value_cache.proofs.Shown.{third_got}
use Rattle.value_cache.proofs.beside.Window.token_at.Goals as goal

pub returns-clause-value : goal.returns-clause-value
returns-clause-value c =
    let w = c.args.self.now in
    third_got w.before.now w.stored.now w.after.now c.args.place _ (omega arith) (omega arith) c.token_in-2.ensures.value
