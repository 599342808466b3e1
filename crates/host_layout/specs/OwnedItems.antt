-- Items of hosts, as the document has them.
use Rattle.std.specs.Prelude.{ℕ, ◌+◌, List, [], ◌∷◌, ◌++◌, map, flat_map, Result, Ok, codes}
use Rattle.macro_text.specs.declared.macros.Macro.{Macro}
use Rattle.config_read.specs.declared.raw.RawItem.{RawItem}
use Rattle.config_read.specs.declared.raw.RawHost.{RawHost}
use Rattle.config_read.specs.declared.raw.RawConf.{RawConf}
use Rattle.host_layout.specs.Places.{Flaw, Placed, placed, ◌>>=◌}
use Rattle.host_layout.specs.Links.{sources_of, placed_hosts}
use Rattle.host_layout.specs.Macros.{macros_of}

-- an item of a host where it stands in the document, with the host's id and macros
pub record OwnedItem : Type 0 where
  pub host : ℕ
  pub macros : List Macro
  pub item : Placed RawItem

-- an item of the host with this id and these macros
abbrev pub owned : ℕ → List Macro → Placed RawItem → OwnedItem
owned host macros item = record { host = host; macros = macros; item = item }

-- the items of a host's sources, in their order
abbrev pub owned_by : ℕ → List Macro → List (Placed RawHost) → List OwnedItem
owned_by host macros sources = flat_map (λ s. map (owned host macros) (placed (s.path ++ codes "/items") s.body.items)) sources

-- the items of a host of the document
abbrev pub host_items : RawConf → Placed RawHost → List OwnedItem
host_items raw h = owned_by (h.place + 1) (macros_of raw (sources_of raw h)) (sources_of raw h)

-- the items of all hosts, in the order of their ids
unfoldable pub owned_items : RawConf → List OwnedItem
owned_items raw = flat_map (host_items raw) (placed_hosts raw)

-- one more, behind those that were made
abbrev pub adding : {A B : Type 0} → (A → Result B Flaw) → List B → A → Result (List B) Flaw
adding make before a = make a >>= λ b. Ok (before ++ b ∷ [])

-- the elements of a list, each with what another list has in its place, as far as that goes
abbrev pub with_each : {A B : Type 0} → (A → B → A) → List A → List B → List A
with_each put [] news = []
with_each put (x ∷ xs) [] = x ∷ xs
with_each put (x ∷ xs) (new ∷ news) = put x new ∷ with_each put xs news
