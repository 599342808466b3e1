use Rattle.intake_journal.proofs.BaseFormed.{read_is_formed}
use Rattle.intake_journal.proofs.base_decoding.decode_base.Goals as goal

pub returns-in-Ok-clause-formed : goal.returns-in-Ok-clause-formed
returns-in-Ok-clause-formed c = read_is_formed c.args.bytes.now c.in-Ok.base c.in-Ok.ensures
