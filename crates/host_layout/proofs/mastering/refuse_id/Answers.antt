use Rattle.std.proofs.Common.{arith}
use Rattle.host_layout.proofs.Refusing.{no_id}
use Rattle.host_layout.proofs.mastering.refuse_id.Goals as goal

pub returns-then-id-eq0 : goal.returns-then-id-eq0
returns-then-id-eq0 c items = no_id c.args.raw.now c.args.cause c.args.id items (omega arith)
