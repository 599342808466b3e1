-- The status is that of the call for alerts, of which its clauses are true.
use Rattle.outside.specs.Spawning.{SpawnerTells}
use Rattle.server_jobs.specs.Alerts.{Around}
use Rattle.server_jobs.specs.Working.{WorksIfAny}
use Rattle.zabbix_server.proofs.Untold.{alerts_too}
use Rattle.zabbix_server.proofs.alerting.status_of.Goals as goal

pub returns : goal.returns
returns g c =
    let r = c.run_alerts in
    let around : Around SpawnerTells = record {
      read = record {
        lines = g.S.Source.left c.args.lines;
        faults = g.S.Source.faults c.args.lines;
        faults' = g.S.Source.faults r.new.lines;
        document = g.M.Source.left c.args.media;
        document_faults = g.M.Source.faults c.args.media;
        document_faults' = g.M.Source.faults r.new.media;
      };
      disk = g.D.Disk.tells c.args.progress;
      disk' = g.D.Disk.tells r.result.progress;
      spawner = g.W.Spawner.tells c.args.hand.spawner;
      spawner' = g.W.Spawner.tells r.new.hand.spawner;
    } in alerts_too WorksIfAny c.args.words.now around r.result.status r.result.marks (g.P.Sink.tells c.args.printer) (g.P.Sink.tells r.new.print) r.ensures.comes r.ensures.printed
