-- The whole document.
use Rattle.std.specs.Prelude.{ℕ, ℤ, pos, negsuc, List, [], Result, Ok, codes}
use Rattle.serde_json.specs.Data.{Data}
use Rattle.zbx_types.specs.Limits.{longest_text}
use Rattle.zbx_types.specs.declared.rules.Rule.{Rule}
use Rattle.zbx_types.specs.declared.maintenances.Maintenance.{Maintenance}
use Rattle.zbx_types.specs.declared.actions.Action.{Action}
use Rattle.json_form.specs.Faults.{Fault, ◌>>=◌}
use Rattle.json_form.specs.Places.{Place, Object, ◌▸◌, spot, an_object, given_or, whole_between}
use Rattle.json_form.specs.Json.{json_within}
use Rattle.config_read.specs.declared.raw.RawConf.{RawConf}
use Rattle.config_read.specs.declared.raw.RawMacro.{RawMacro}
use Rattle.config_read.specs.Hosts.{macros_of, hosts_of}
use Rattle.config_read.specs.Rules.{rules_of}
use Rattle.config_read.specs.Maintenances.{maintenances_of}
use Rattle.config_read.specs.Actions.{actions_of}

-- local time less UTC, from -50,400 to 50,400 seconds
unfoldable pub offset_of : Place → Result ℤ Fault
offset_of at = given_or (pos 0) (whole_between (negsuc 50399) (pos 50400)) at

-- the members that are of no host: the offset and the global macros
unfoldable pub globals_of : Object → Result (ℤ × List RawMacro) Fault
globals_of o = do
  offset ← offset_of (o ▸ codes "utc_offset")
  macros ← macros_of (o ▸ codes "macros")
  Ok (offset, macros)

-- what is done about problems: correlations, maintenances, actions
unfoldable pub handling_of : Object → Result (List Rule × List Maintenance × List Action) Fault
handling_of o = do
  rules ← rules_of o
  maintenances ← maintenances_of o
  actions ← actions_of o
  Ok (rules, maintenances, actions)

-- the configuration of a JSON value, or its first fault
unfoldable pub document_of : Data → Result RawConf Fault
document_of d = do
  o ← an_object (spot [] d)
  globals ← globals_of o
  hosts ← hosts_of o
  handling ← handling_of o
  Ok (record { utc_offset = globals.0; macros = globals.1; templates = hosts.0; hosts = hosts.1; correlations = handling.0; maintenances = handling.1; actions = handling.2 })

-- the configuration of a text of at most 16,777,216 bytes, or its first fault
abbrev pub conf_of : List ℕ → Result RawConf Fault
conf_of bytes = json_within longest_text bytes >>= λ d. document_of d
