-- As many sessions as hands were made.
use Rattle.std.proofs.Common.{refl}
use Rattle.zabbix_server.proofs.Untold.{several}
use Rattle.zabbix_server.proofs.alerting.run_several.Goals as goal

pub returns : goal.returns
returns g c = several _ _ _ _ _ _ _ refl c.in_ok-hands.ensures c.status_of_sessions.ensures
