use Rattle.base_state.proofs.values.put_item.Goals as goal

pub returns-clause-of : goal.returns-clause-of
returns-clause-of c = λ h. c.exchange.ensures.of c.args.cache.now h c.in_ok-cell.ensures.of
