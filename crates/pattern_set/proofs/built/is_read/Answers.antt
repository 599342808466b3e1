use Rattle.std.proofs.Common.{sym, ◌∙◌}
use Rattle.pattern_set.proofs.Carried.{ok_reads}
use Rattle.pattern_set.proofs.built.is_read.Goals as goal

pub returns : goal.returns
returns c ok = ok_reads c.args.text.now c.default.result c.parse.result c.default.ensures c.parse.ensures.ok (sym c.is_ok.ensures.value ∙ ok)
