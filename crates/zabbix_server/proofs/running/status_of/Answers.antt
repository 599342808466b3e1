-- The status is that of the run, of which all its clauses are true.
use Rattle.server_run.specs.Runs.{Objects}
use Rattle.zabbix_server.proofs.Untold.{seen_of, run_too}
use Rattle.zabbix_server.proofs.running.status_of.Goals as goal

pub returns : goal.returns
returns g c =
    let r = c.run_syncers-status in
    let before : Objects = record {
      source = g.S.Source.left c.args.config;
      source_faults = g.S.Source.faults c.args.config;
      wire = g.W.Wire.tells c.args.wire;
      disk = g.D.Disk.tells c.args.disk;
      outbox = g.O.Sink.tells c.args.outbox;
    } in
    let after : Objects = record {
      source = g.S.Source.left r.new.config;
      source_faults = g.S.Source.faults r.new.config;
      wire = g.W.Wire.tells r.new.wire;
      disk = g.D.Disk.tells r.result.disk;
      outbox = g.O.Sink.tells r.result.outbox;
    } in (
      seen_of after,
      g.P.Sink.tells r.new.print,
      r.result.began,
      r.result.entries,
      run_too c.args.words.now before after (g.P.Sink.tells c.args.printer) (g.P.Sink.tells r.new.print) r.result.began r.result.entries r.result.status r.ensures.run,
    )
