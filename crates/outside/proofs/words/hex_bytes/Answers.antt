use Rattle.std.proofs.Common.{sym, ◌∙◌}
use Rattle.outside.proofs.HexLemmas.{hex_step}
use Rattle.outside.proofs.words.hex_bytes.Goals as goal

pub loop-left-preserved : goal.loop-left-preserved
loop-left-preserved c = rw c.in_ok-push.ensures.items (c.loop-left.invariant ∙ hex_step _ _ _ c.in-len2-up.len_at_least (sym c.in-Some.ensures))
