use Rattle.journal_copy.proofs.Copies.{printed_ends}
use Rattle.journal_copy.proofs.copying.run_checkpoint.Goals as goal

pub returns-clause-copy : goal.returns-clause-copy
returns-clause-copy g c =
    let r = c.go-course.result in record {
      number = r.number;
      lines = r.lines;
      ends = printed_ends c.args.words.now
          (record { from = g.D.Disk.tells c.args.from; from' = g.D.Disk.tells r.from; into = g.E.Disk.tells c.args.into; into' = g.E.Disk.tells r.into }) r.number r.lines (g.P.Sink.tells c.args.print.now) (g.P.Sink.tells c.report-status.new.print) r.status c.report-status.result c.go-course.ensures.ends c.report-status.ensures.ends c.report-status.ensures.cause;
      prints = c.report-status.ensures.prints;
      left = c.go-course.ensures.left;
    }
