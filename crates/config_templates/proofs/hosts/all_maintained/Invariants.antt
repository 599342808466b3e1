use Rattle.std.proofs.Common.{◌≡◌, codes}
use Rattle.config_templates.specs.NamedHosts.{unknown_host, maintained, all_maintained}
use Rattle.host_layout.specs.Places.{first_fault}
use Rattle.config_templates.proofs.HostFaults.{rest_faults}
use Rattle.config_templates.proofs.hosts.all_maintained.Given as goal

abbrev pub invariant-loop-place : goal.invariant-loop-place
invariant-loop-place l = rest_faults (unknown_host l.raw.hosts) maintained (codes "/maintenances") l.raw.maintenances l.place ≡ first_fault (unknown_host l.raw.hosts) (all_maintained l.raw)
