-- Names of hosts.
use Rattle.std.specs.Prelude.{ℕ, List, [], Option, Some, None}
use Rattle.zbx_types.specs.declared.conf.Host.{Host}

-- the name of a host, and nothing where there is none
abbrev pub host_name : Option Host → List ℕ
host_name None = []
host_name (Some host) = host.name
