use Rattle.journal_copy.proofs.Copies.{prints_line}
use Rattle.journal_copy.proofs.reporting.report.Goals as goal

pub returns-clause-prints : goal.returns-clause-prints
returns-clause-prints g c =
    prints_line c.args.number c.args.lines (g.P.Sink.tells c.args.print.now) (g.P.Sink.tells c.write_all.new.sink) c.args.status c.cut_short.result c.in-Ok.line c.as_bytes.result.now c.requires c.cut_short.ensures c.in-Ok.ensures (search) c.in-Err.ensures.written
