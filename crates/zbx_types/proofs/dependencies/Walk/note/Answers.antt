use Rattle.zbx_types.proofs.MasterLemmas.{one_key_more}
use Rattle.std.proofs.Common.{arith}
use Rattle.zbx_types.proofs.dependencies.Walk.note.Goals as goal

pub returns-clause-keys : goal.returns-clause-keys
returns-clause-keys c = one_key_more _ _ _ _ _ _ c.requires c.if-id-eq0.false (omega arith) c.in_ok-insert.ensures.updates c.in_ok-push.ensures.items
