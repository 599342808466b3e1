use Rattle.std.proofs.Common.{◌≡◌, length}
use Rattle.zabbix_server.proofs.alerting.hands.Given as goal

abbrev pub invariant-loop-hand : goal.invariant-loop-hand
invariant-loop-hand l = length l.hands.items ≡ l._hand
