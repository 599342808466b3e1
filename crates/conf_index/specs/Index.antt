-- The indexes by which hosts, items and triggers are found.
use Rattle.std.specs.Prelude.{◌≡◌, ℕ, ◌==◌, ◌+◌, Bool, false, ◌&&◌, List, [], ◌∷◌, map, filter, flat_map, length, String, Option, Some, None, if◌then◌else◌, option_and_then, slice_get, slice_index_or}
use Rattle.std.specs.HashMap.{HashMap, get_by_text}
use Rattle.std.specs.List.{list_any}
use Rattle.std.specs.Option.{option_or}
use Rattle.zbx_types.specs.Ids.{at_id}
use Rattle.zbx_types.specs.Masters.{masters_of, has_id as holds_id}
use Rattle.zbx_types.specs.Reach.{in_reach}
use Rattle.zbx_types.specs.declared.conf.Conf.{Conf}
use Rattle.zbx_types.specs.declared.rules.Rule.{Rule}
use Rattle.zbx_types.specs.declared.triggers.Trigger.{Trigger}
use Rattle.conf_index.specs.Names.{host_named, item_keyed}
use Rattle.jiff_core.specs.Calendar.{IsWithin}
use Rattle.conf_index.specs.Asked.{places_of, ArePlaced}
use Rattle.conf_index.specs.Order.{order}
use Rattle.footprint.specs.Feet.{chain, FootTables, feet_of, is_reached, told_by}
use Rattle.preprocess.specs.Chains.{AreChainsOf}
use Rattle.preprocess.specs.Visits.{ArePatternsOf}
use Rattle.preprocess.specs.declared.chains.Chains.{Chains}
use Rattle.conf_index.specs.Timed.{timed_triggers}
use Rattle.conf_index.specs.Plans.{plan_of, recovery_plan_of}
use Rattle.conf_index.specs.Packed.{row_at}
use Rattle.conf_index.specs.Patterned.{ArePatterned}
use Rattle.conf_index.specs.declared.packed.Packed.{Packed}
use Rattle.conf_index.specs.declared.plans.Node.{Node}

-- the id at a key of a host, in maps of keys by the ids of hosts
abbrev pub id_at : {A S : Type 0} → List (HashMap (String A) ℕ S) → ℕ → List ℕ → Option ℕ
id_at keys host key = option_and_then (λ ids. get_by_text ids key) (slice_get keys host)

-- the ids that are listed for a number, such as an item's id. Where it has no list, there are none.
abbrev pub listed : List (List ℕ) → ℕ → List ℕ
listed rows number = slice_index_or rows number []

-- the reach of some rule holds a trigger
abbrev pub some_reaches : List Rule → Trigger → Bool
some_reaches rules trigger = list_any (λ rule. in_reach rule trigger) rules

-- the ids of the triggers that a rule's reach holds, where the first of these triggers has this one
abbrev pub reach_from : Rule → ℕ → List Trigger → List ℕ
reach_from rule id [] = []
reach_from rule id (trigger ∷ triggers) =
    if in_reach rule trigger then id ∷ reach_from rule (id + 1) triggers else reach_from rule (id + 1) triggers

-- an id is among these
abbrev pub has_id : ℕ → List ℕ → Bool
has_id id ids = list_any (λ i. i == id) ids

-- the ids of items and of all their masters
abbrev pub with_masters : Conf → List ℕ → List ℕ
with_masters conf items = flat_map (chain conf (length conf.items)) items

-- a trigger is enabled, and has a call over this item or over one that depends on it
abbrev pub is_over_below : Conf → ℕ → Option Trigger → Bool
is_over_below conf item None = false
is_over_below conf item (Some trigger) = trigger.enabled && has_id item (with_masters conf trigger.call_items)

-- the triggers over an item or over one that depends on it, in the order of evaluation
unfoldable pub triggers_under : Conf → ℕ → List ℕ
triggers_under conf item = filter (λ id. is_over_below conf item (at_id conf.triggers id)) (order conf)

-- the indexes are those of the configuration
pub record IsIndex {A S T : Type 0} (conf : Conf) (hosts : HashMap (String A) ℕ S)
    (keys : List (HashMap (String A) ℕ T)) (over : Packed ℕ) (plans recoveries : Packed Node) (masters : Packed ℕ)
    (patterns : List (List ℕ)) (places : Packed ℕ) (timed all : List ℕ) (reached : List Bool) (chains : Chains)
    (feet : FootTables) (reaches : Packed ℕ) : Type 0 where
  pub by_name : (name : List ℕ) → get_by_text hosts name ≡ host_named conf name
  pub by_key : (host : ℕ) (key : List ℕ) → id_at keys host key ≡ item_keyed conf host key
  pub by_item : (item : ℕ) → row_at over.starts over.items item ≡ triggers_under conf item
  pub by_trigger : (number : ℕ) → row_at plans.starts plans.items number ≡ slice_index_or (map plan_of conf.triggers)
      number []
  pub by_recovery : (number : ℕ) → row_at recoveries.starts recoveries.items number ≡ slice_index_or
      (map recovery_plan_of conf.triggers) number []
  pub by_place : patterns ≡ conf.patterns
  pub by_text : ArePatterned conf
  pub by_call : (number : ℕ) → row_at places.starts places.items number ≡ slice_index_or
      (map (places_of patterns) conf.triggers) number []
  pub asked : ArePlaced patterns conf
  pub timed_are : timed ≡ timed_triggers conf
  pub all_are : all ≡ order conf
  pub by_step : ArePatternsOf conf patterns
  pub by_chain : AreChainsOf conf patterns chains
  pub offset : IsWithin 50400 conf.utc_offset
  pub by_dependent : (id : ℕ) → row_at masters.starts masters.items id ≡ masters_of conf id
  pub by_reach : reached ≡ map (some_reaches conf.correlations) conf.triggers
  pub by_foot : told_by feet ≡ feet_of conf
  pub by_rule : (rule id : ℕ) → holds_id (row_at reaches.starts reaches.items rule) id ≡ is_reached conf rule id

-- the id of a name with one more item, which may have the name: the first one counts
abbrev pub noted : Option ℕ → Bool → ℕ → Option ℕ
noted before named id = option_or before (if named then Some id else None)
