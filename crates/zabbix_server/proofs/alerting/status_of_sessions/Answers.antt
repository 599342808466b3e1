-- The status is that of the call for alerts, of which its clauses are true.
use Rattle.std.proofs.Common.{List, map, subst}
use Rattle.outside.specs.Spawning.{SpawnerTells}
use Rattle.server_jobs.specs.Alerts.{Around}
use Rattle.server_jobs.specs.Sessions.{WorkTogetherIfAny}
use Rattle.zabbix_server.specs.Program.{IsAlertsOf}
use Rattle.zabbix_server.proofs.Untold.{alerts_too}
use Rattle.zabbix_server.proofs.alerting.status_of_sessions.Goals as goal

pub returns : goal.returns
returns g c =
    let r = c.run_sessions in
    let around : Around (List SpawnerTells) = record {
      read = record {
        lines = g.S.Source.left c.args.lines;
        faults = g.S.Source.faults c.args.lines;
        faults' = g.S.Source.faults r.new.lines;
        document = g.M.Source.left c.args.media;
        document_faults = g.M.Source.faults c.args.media;
        document_faults' = g.M.Source.faults r.new.media;
      };
      disk = g.D.Disk.tells c.args.progress;
      disk' = g.D.Disk.tells r.result.progress;
      spawner = map (λ h. g.W.Spawner.tells h.spawner) c.deref_mut.result.now;
      spawner' = map (λ h. g.W.Spawner.tells h.spawner) r.new.hands;
    } in subst (λ hands. IsAlertsOf WorkTogetherIfAny c.args.words.now (record {
      lines = g.S.Source.left c.args.lines;
      lines_faults = g.S.Source.faults c.args.lines;
      document = g.M.Source.left c.args.media;
      document_faults = g.M.Source.faults c.args.media;
      file = (g.D.Disk.tells c.args.progress).bytes;
      disk_faults = (g.D.Disk.tells c.args.progress).faults;
      spawner = map (λ h. g.W.Spawner.tells h.spawner) hands;
    }) (g.P.Sink.tells c.args.printer) r.result.status) c.deref_mut.ensures.value
    (alerts_too WorkTogetherIfAny c.args.words.now around r.result.status r.result.marks (g.P.Sink.tells c.args.printer) (g.P.Sink.tells r.new.print) r.ensures.comes r.ensures.printed)
