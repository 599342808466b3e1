use Rattle.std.proofs.Common.{sym}
use Rattle.host_layout.proofs.KeyFronts.{length_found, length_none}
use Rattle.host_layout.proofs.keys.key_length.Goals as goal

pub returns-in-Ok-clause-value : goal.returns-in-Ok-clause-value
returns-in-Ok-clause-value c = sym (length_found c.args.text.now c.in-Ok.length c.in-Ok.ensures.key c.in-Ok.ensures.longest)

pub returns-in-Err-clause-value : goal.returns-in-Err-clause-value
returns-in-Err-clause-value c = sym (length_none c.args.text.now c.in-Err.ensures.place.0)
