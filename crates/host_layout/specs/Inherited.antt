-- What hosts inherit by, as the code holds it.
use Rattle.std.specs.Prelude.{◌≡◌}
use Rattle.config_read.specs.declared.raw.RawConf.{RawConf}
use Rattle.host_layout.specs.Linked.{HasLinks}
use Rattle.host_layout.specs.Macros.{macros_in}
use Rattle.host_layout.specs.declared.inheritance.Inheritance.{Inheritance}

-- the links of a document, and its global macros
pub record Inherits (raw : RawConf) (inheritance : Inheritance) : Type 0 where
  pub links : HasLinks raw inheritance.links
  pub macros : inheritance.macros ≡ macros_in raw.macros
