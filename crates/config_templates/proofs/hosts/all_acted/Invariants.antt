use Rattle.std.proofs.Common.{◌≡◌, codes}
use Rattle.config_templates.specs.NamedHosts.{unknown_host, acted, all_acted}
use Rattle.host_layout.specs.Places.{first_fault}
use Rattle.config_templates.proofs.HostFaults.{rest_faults}
use Rattle.config_templates.proofs.hosts.all_acted.Given as goal

abbrev pub invariant-loop-place : goal.invariant-loop-place
invariant-loop-place l = rest_faults (unknown_host l.raw.hosts) acted (codes "/actions") l.raw.actions l.place ≡ first_fault (unknown_host l.raw.hosts) (all_acted l.raw)
