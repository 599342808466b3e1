-- A host with its sources.
use Rattle.std.specs.Prelude.{ℕ, ◌+◌, List}
use Rattle.config_read.specs.declared.raw.RawHost.{RawHost}
use Rattle.config_read.specs.declared.raw.RawConf.{RawConf}
use Rattle.host_layout.specs.Places.{Placed}
use Rattle.host_layout.specs.Links.{sources_of}

-- a host: its id, its name, and its sources
pub record Owner : Type 0 where
  pub id : ℕ
  pub name : List ℕ
  pub sources : List (Placed RawHost)

-- a host of the document, with its sources
abbrev pub owner_of : RawConf → Placed RawHost → Owner
owner_of raw h = record { id = h.place + 1; name = h.body.name; sources = sources_of raw h }
