-- User macros of a host (the Zabbix 6.0 manual, "User macros").
use Rattle.std.specs.Prelude.{List, ◌++◌, map, flat_map}
use Rattle.macro_text.specs.declared.macros.Macro.{Macro}
use Rattle.config_read.specs.declared.raw.RawMacro.{RawMacro}
use Rattle.config_read.specs.declared.raw.RawHost.{RawHost}
use Rattle.config_read.specs.declared.raw.RawConf.{RawConf}
use Rattle.host_layout.specs.Places.{Placed}

-- the macros of a list
abbrev pub macros_in : List RawMacro → List Macro
macros_in macros = map (λ m. record { name = m.name; value = m.value }) macros

-- the macros of a host's sources in their order, and behind them the global ones; the first of a name counts
abbrev pub macros_of : RawConf → List (Placed RawHost) → List Macro
macros_of raw sources = flat_map (λ s. macros_in s.body.macros) sources ++ macros_in raw.macros
