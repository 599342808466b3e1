use Rattle.base_state.proofs.Restored.{new_restored}
use Rattle.base_state.proofs.values.items_of.Goals as goal

pub put_all-requires-clause-new : goal.put_all-requires-clause-new
put_all-requires-clause-new c = new_restored c.args.conf.now c.args.base.now c.in_ok-items.items c.in_ok-items.ensures.new

pub returns-clause-of : goal.returns-clause-of
returns-clause-of c = c.put_all.ensures.of (c.in_ok-items.ensures.of c.args.cache.now)
