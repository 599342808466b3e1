use Rattle.std.proofs.Common.{rules, ◌≡◌}
use Rattle.server_jobs.specs.Reports.{line_of}
use Rattle.server_jobs.proofs.Printing.{printed_cut}
use Rattle.server_jobs.proofs.reporting.report.Goals as goal

pub returns-clause-printed : goal.returns-clause-printed
returns-clause-printed g c =
    let is : c.as_bytes.result.now ≡ line_of c.args.status c.args.marks.now = search rules in
    printed_cut c.args.status c.cut_short.result c.args.marks.now (g.P.Sink.tells c.args.print.now) (g.P.Sink.tells c.write_all.new.sink) c.as_bytes.result.now
    c.requires c.cut_short.ensures is c.in-Err.ensures.written
