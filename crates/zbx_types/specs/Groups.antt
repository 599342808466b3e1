-- The host groups of problems (the Zabbix 6.0 manual, "Hosts and host groups").
use Rattle.std.specs.Prelude.{ℕ, List, [], bytes_eq, Option, Some, None, find}
use Rattle.zbx_types.specs.Records.{host_of}
use Rattle.zbx_types.specs.declared.conf.Conf.{Conf}
use Rattle.zbx_types.specs.declared.conf.Host.{Host}
use Rattle.zbx_types.specs.declared.entries.Rec.{Rec}

-- the groups of a host, where there is one
abbrev pub groups_in : Option Host → List (List ℕ)
groups_in None = []
groups_in (Some host) = host.groups

-- the groups of a problem's host: of the first that has its name
abbrev pub groups_of : Conf → Rec → List (List ℕ)
groups_of conf problem = groups_in (find (λ host. bytes_eq host.name (host_of problem)) conf.hosts)
