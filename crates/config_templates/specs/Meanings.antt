-- What expressions mean, as the code holds it.
use Rattle.std.specs.Prelude.{ℕ, List, ◌++◌, codes, Option, option_map}
use Rattle.zbx_types.specs.Tree.{Tree}
use Rattle.zbx_types.specs.Trees.{tree_of}
use Rattle.zbx_types.specs.declared.calls.Call.{Call}
use Rattle.expr_parser.specs.declared.reading.Parsed.{Parsed}
use Rattle.host_layout.specs.Elements.{element_path}
use Rattle.config_templates.specs.Referenced.{NamedHost, NamedItem, Looked}
use Rattle.config_templates.specs.Expressions.{Resolved, Meant}
use Rattle.config_templates.specs.declared.members.Member.{Member}
use Rattle.config_templates.specs.declared.meanings.HostReferenced.{HostReferenced}
use Rattle.config_templates.specs.declared.meanings.ItemFound.{ItemFound}
use Rattle.config_templates.specs.declared.meanings.LookedAt.{LookedAt}
use Rattle.config_templates.specs.declared.resolving.Resolution.{Resolution}
use Rattle.config_templates.specs.declared.resolving.Meaning.{Meaning}

-- the pointer to a member of a trigger
abbrev pub member_path : Member → List ℕ
member_path m = element_path m.source.now (codes "/triggers") m.index ++ m.name.now

-- an expression that was read
abbrev pub parsed_now : Parsed → Tree × List Call
parsed_now p = (tree_of p.expr, p.calls)

-- a host that an expression names
abbrev pub host_now : HostReferenced → NamedHost
host_now h = record { id = h.id; name = h.name }

-- an item that an expression names
abbrev pub item_now : ItemFound → NamedItem
item_now i = record { id = i.id; value_type = i.value_type }

-- the item that a call looks at
abbrev pub looked_now : LookedAt → Looked
looked_now l = record { host = l.host; id = l.id; value_type = l.value_type }

-- the same where a call may look at none
abbrev pub looked_maybe : Option LookedAt → Option Looked
looked_maybe l = option_map looked_now l

-- an expression by its items
abbrev pub resolved_now : Resolution → Resolved
resolved_now r = record { tree = tree_of r.expr; calls = r.calls; call_items = r.call_items }

-- what the expressions of a trigger mean
abbrev pub meant_now : Meaning → Meant
meant_now m = record { expr = m.expr; recovery_expr = m.recovery_expr; calls = m.calls; recovery_calls = m.recovery_calls; call_items = m.call_items }
