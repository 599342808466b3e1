-- The bytes of a slice are bytes, so what is found of them is true.
use Rattle.std.proofs.Common.{arith}
use Rattle.zbxd_frame.proofs.FrameLaws.{IsFoundRight-bytes}
use Rattle.zbxd_frame.proofs.seen.see.Goals as goal

pub returns-clause-right : goal.returns-clause-right
returns-clause-right c = IsFoundRight-bytes c.args.bytes.now (λ i. omega (arith, c.type_inv.bytes i))
