use Rattle.preprocess.proofs.running.run.Goals as goal

pub returns-in_err-draft-clause-of : goal.returns-in_err-draft-clause-of
returns-in_err-draft-clause-of c h = c.prepare.ensures.of c.args.cache.now h

pub returns-clause-of : goal.returns-clause-of
returns-clause-of c h = c.commit.ensures.of c.args.cache.now c.in_ok-draft.ensures.tokens (c.prepare.ensures.of c.args.cache.now h)
