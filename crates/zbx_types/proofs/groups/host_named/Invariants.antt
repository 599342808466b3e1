use Rattle.std.proofs.Common.{◌≡◌, drop}
use Rattle.std.specs.Prelude.{bytes_eq, find}
use Rattle.zbx_types.proofs.groups.host_named.Given as goal

abbrev pub invariant-loop-host : goal.invariant-loop-host
invariant-loop-host l = find (λ host. bytes_eq host.name l.name) (drop l.host-index l.hosts) ≡ find (λ host. bytes_eq host.name l.name) l.hosts
