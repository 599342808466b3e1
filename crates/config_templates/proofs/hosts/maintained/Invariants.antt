use Rattle.std.proofs.Common.{◌≡◌, ◌++◌, codes}
use Rattle.config_templates.specs.NamedHosts.{unknown_host, maintenance_at, maintained}
use Rattle.host_layout.specs.Places.{first_fault}
use Rattle.config_templates.proofs.HostFaults.{rest_fault}
use Rattle.config_templates.proofs.hosts.maintained.Given as goal

abbrev pub invariant-loop-at : goal.invariant-loop-at
invariant-loop-at l = rest_fault (unknown_host l.raw.hosts) ((maintenance_at l.place l.maintenance).path ++ codes "/hosts") l.maintenance.hosts l.at ≡ first_fault (unknown_host l.raw.hosts) (maintained (maintenance_at l.place l.maintenance))
