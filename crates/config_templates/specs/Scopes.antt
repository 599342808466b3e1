-- What expressions are read against, as the code holds it.
use Rattle.std.specs.Prelude.{◌≡◌, Option}
use Rattle.zbx_types.specs.declared.calls.Call.{Call}
use Rattle.host_layout.specs.Names.{named_items}
use Rattle.host_layout.specs.Owners.{KnowsHosts, owner_now}
use Rattle.host_layout.specs.declared.owners.Owner.{Owner}
use Rattle.config_templates.specs.Referenced.{Looked, looked_at}
use Rattle.config_templates.specs.declared.meanings.Scope.{Scope}

-- what expressions are read against: the places of the hosts' names, and the items with their names
pub record IsScope (scope : Scope) : Type 0 where
  pub hosts : KnowsHosts scope.hosts.now scope.raw.now.hosts
  pub items : scope.items.now.names ≡ named_items scope.items.now.items

-- the items that calls in a host's expressions look at
abbrev pub seen_by : Scope → Owner → Call → Option Looked
seen_by scope owner = looked_at scope.raw.now scope.items.now.items (owner_now owner)
