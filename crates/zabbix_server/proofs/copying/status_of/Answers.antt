-- The status is that of the call for a copy, of which its clauses are true.
use Rattle.journal_copy.specs.Copies.{Disks}
use Rattle.zabbix_server.proofs.Uncopied.{copy_too}
use Rattle.zabbix_server.proofs.copying.status_of.Goals as goal

pub returns : goal.returns
returns g c =
    let r = c.run_checkpoint in
    let disks : Disks = record {
      from = g.D.Disk.tells c.args.from;
      from' = g.D.Disk.tells r.result.from;
      into = g.E.Disk.tells c.args.into;
      into' = g.E.Disk.tells r.result.into;
    } in copy_too c.args.words.now disks (g.P.Sink.tells c.args.printer) (g.P.Sink.tells r.new.print) r.result.status r.ensures.copy
