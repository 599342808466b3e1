use Rattle.base_state.proofs.telling.kept_values.Goals as goal

pub values_of-requires : goal.values_of-requires
values_of-requires c = c.tokens.ensures.of c.args.cache.now (c.with_keep-kept.ensures.of c.args.cache.now (c.in_ok-copy.ensures.of c.args.cache.now c.requires))
