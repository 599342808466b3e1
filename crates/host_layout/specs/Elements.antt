-- Elements of the document as the code goes over them, and refusals of them.
use Rattle.std.specs.Prelude.{ℕ, List, ◌++◌, Some, codes}
use Rattle.std.specs.Fmt.{decimal}
use Rattle.zbx_types.specs.declared.causes.Cause.{Cause}
use Rattle.config_read.specs.declared.raw.RawItem.{RawItem}
use Rattle.config_read.specs.declared.raw.RawTrigger.{RawTrigger}
use Rattle.config_read.specs.declared.raw.RawHost.{RawHost}
use Rattle.host_layout.specs.Places.{Placed, placed}
use Rattle.host_layout.specs.Sources.{placed_of}
use Rattle.host_layout.specs.declared.templates.sources.Source.{Source}
use Rattle.host_layout.specs.declared.fault.FlatError.{FlatError}
use Rattle.host_layout.specs.Answers.{Tells}

-- the pointer to an element of a list of a source
abbrev pub element_path : Source → List ℕ → ℕ → List ℕ
element_path s list index = (placed_of s).path ++ list ++ codes "/" ++ decimal index

-- an item of a source at its place
abbrev pub placed_item : Source → ℕ → RawItem → Placed RawItem
placed_item s index raw = record { place = index; path = element_path s (codes "/items") index; body = raw }

-- a trigger of a source at its place
abbrev pub placed_trigger : Source → ℕ → RawTrigger → Placed RawTrigger
placed_trigger s index raw = record { place = index; path = element_path s (codes "/triggers") index; body = raw }

-- a host of the document at its place
abbrev pub placed_host : ℕ → RawHost → Placed RawHost
placed_host place raw = record { place = place; path = codes "/hosts" ++ codes "/" ++ decimal place; body = raw }

-- the error says that this is wrong at this pointer, unless there was no memory for it
abbrev pub IsRefusal : List ℕ → Cause → FlatError → Type 0
IsRefusal path cause e = Tells e (Some (record { path = path; cause = cause }))

-- the items of a source
abbrev pub own_items : Source → List (Placed RawItem)
own_items s = placed ((placed_of s).path ++ codes "/items") s.body.now.items

-- the triggers of a source
abbrev pub own_triggers : Source → List (Placed RawTrigger)
own_triggers s = placed ((placed_of s).path ++ codes "/triggers") s.body.now.triggers
