use Rattle.std.proofs.Common.{◌≡◌, ◌++◌, codes}
use Rattle.config_templates.specs.NamedHosts.{unknown_host, action_at, host_of_condition, acted}
use Rattle.host_layout.specs.Places.{first_fault}
use Rattle.config_templates.proofs.HostFaults.{rest_faults}
use Rattle.config_templates.proofs.hosts.acted.Given as goal

abbrev pub invariant-loop-at : goal.invariant-loop-at
invariant-loop-at l = rest_faults (unknown_host l.raw.hosts) host_of_condition ((action_at l.place l.action).path ++ codes "/conditions") l.action.conditions l.at ≡ first_fault (unknown_host l.raw.hosts) (acted (action_at l.place l.action))
