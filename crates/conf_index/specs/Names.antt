-- Hosts and items by their names. Ids count from 1.
use Rattle.std.specs.Prelude.{ℕ, ◌+◌, ◌==◌, ◌&&◌, List, position, Option, option_map}
use Rattle.std.specs.Str.{bytes_eq}
use Rattle.zbx_types.specs.declared.conf.Conf.{Conf}

-- the id of the first host with a name
abbrev pub host_named : Conf → List ℕ → Option ℕ
host_named conf name = option_map (λ place. place + 1) (position (λ h. bytes_eq h.name name) conf.hosts)

-- the id of a host's first item with a key
abbrev pub item_keyed : Conf → ℕ → List ℕ → Option ℕ
item_keyed conf host key =
    option_map (λ place. place + 1) (position (λ i. (i.host == host) && bytes_eq i.key key) conf.items)
