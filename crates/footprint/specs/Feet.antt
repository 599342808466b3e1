-- Feet: what the work on a value of an item may read or change (this project's own).
use Rattle.std.specs.Prelude.{ℕ, zero, suc, ◌==◌, Bool, false, ◌&&◌, ◌||◌, List, [], ◌∷◌, Option, Some, None}
use Rattle.std.specs.Prelude.{if◌then◌else◌, length, is_some}
use Rattle.std.specs.List.{list_any}
use Rattle.zbx_types.specs.Ids.{at_id, ids_from}
use Rattle.zbx_types.specs.Masters.{has_id, is_master}
use Rattle.zbx_types.specs.Reach.{in_reach}
use Rattle.zbx_types.specs.declared.conf.Conf.{Conf}
use Rattle.zbx_types.specs.declared.items.Item.{Item}
use Rattle.zbx_types.specs.declared.rules.Rule.{Rule}
use Rattle.zbx_types.specs.declared.triggers.Trigger.{Trigger}
use Rattle.footprint.specs.Rows.{row_at, those, is_one}

-- the master item of an item, and 0 where it isn't there
abbrev pub master_by : Option Item → ℕ
master_by None = 0
master_by (Some item) = item.master

-- the items of a trigger's calls, 0 among them, and none where it isn't there
abbrev pub calls_by : Option Trigger → List ℕ
calls_by None = []
calls_by (Some trigger) = trigger.call_items

-- an item, its master item, that one's, and so on: no chain without a cycle has more than all items
unfoldable pub chain : Conf → ℕ → ℕ → List ℕ
chain conf zero id = []
chain conf (suc fuel) id =
    if is_some (at_id conf.items id) then id ∷ chain conf fuel (master_by (at_id conf.items id)) else []

-- i is the item, or depends on it through any number of masters
abbrev pub is_under : Conf → ℕ → ℕ → Bool
is_under conf item i = is_one conf.items item && has_id (chain conf (length conf.items) i) item

-- the item and those that depend on it, rising
abbrev pub under_of : Conf → ℕ → List ℕ
under_of conf item = those conf.items (is_under conf item)

-- an item is one that the calls of a trigger look at
abbrev pub is_of : Conf → ℕ → ℕ → Bool
is_of conf t i = has_id (calls_by (at_id conf.triggers t)) i

-- the items of a trigger, rising
abbrev pub items_of : Conf → ℕ → List ℕ
items_of conf t = those conf.items (is_of conf t)

-- a trigger is over an item or a dependent of it
abbrev pub is_over : Conf → ℕ → ℕ → Bool
is_over conf item t = list_any (λ i. is_of conf t i) (under_of conf item)

-- the triggers over an item or a dependent of it, rising
abbrev pub over_of : Conf → ℕ → List ℕ
over_of conf item = those conf.triggers (is_over conf item)

-- an item is one of the foot's: the item, a dependent, or an item of the triggers over them
abbrev pub foot_has_item : Conf → ℕ → ℕ → Bool
foot_has_item conf item i = is_under conf item i || list_any (λ t. is_of conf t i) (over_of conf item)

-- a trigger is one of the foot's: one over them, or a master of such a one
abbrev pub foot_has_trigger : Conf → ℕ → ℕ → Bool
foot_has_trigger conf item u = list_any (λ t. (t == u) || is_master conf t u) (over_of conf item)

-- the foot's triggers, rising
abbrev pub foot_triggers : Conf → ℕ → List ℕ
foot_triggers conf item = those conf.triggers (foot_has_trigger conf item)

-- a rule's reach holds a trigger, where both are there
abbrev pub reach_by : Option Rule → Option Trigger → Bool
reach_by None trigger = false
reach_by (Some rule) None = false
reach_by (Some rule) (Some trigger) = in_reach rule trigger

-- a rule's reach holds a trigger, by their ids
abbrev pub is_reached : Conf → ℕ → ℕ → Bool
is_reached conf rule u = reach_by (at_id conf.correlations rule) (at_id conf.triggers u)

-- a rule is one of the foot's marks: its reach holds one of these triggers
abbrev pub foot_has_mark : Conf → ℕ → ℕ → Bool
foot_has_mark conf item rule = list_any (λ u. is_reached conf rule u) (foot_triggers conf item)

-- the foot's marks, rising
abbrev pub foot_marks : Conf → ℕ → List ℕ
foot_marks conf item = those conf.correlations (foot_has_mark conf item)

-- some trigger is in the reach of two rules
abbrev pub share_trigger : Conf → ℕ → ℕ → Bool
share_trigger conf rule other =
    list_any (λ u. is_reached conf rule u && is_reached conf other u) (ids_from 1 conf.triggers)

-- the rules that share a trigger with a marked one
abbrev pub foot_meets_mark : Conf → ℕ → ℕ → Bool
foot_meets_mark conf item rule = list_any (λ mark. share_trigger conf mark rule) (foot_marks conf item)

-- what contracts see of the feet: four tables
pub record FootTables : Type 0 where
  pub items : List (List ℕ)
  pub triggers : List (List ℕ)
  pub marks : List (List ℕ)
  pub met_marks : List (List ℕ)

-- feet of the values of each item, as rising ids
pub record Footing : Type 0 where
  pub items : ℕ → List ℕ
  pub triggers : ℕ → List ℕ
  pub marks : ℕ → List ℕ
  pub met_marks : ℕ → List ℕ

-- the feet of the values of each item, by a configuration
abbrev pub feet_of : Conf → Footing
feet_of conf = record {
  items = λ item. those conf.items (foot_has_item conf item);
  triggers = λ item. foot_triggers conf item;
  marks = λ item. foot_marks conf item;
  met_marks = λ item. those conf.correlations (foot_meets_mark conf item);
}

-- the feet that tables tell
abbrev pub told_by : FootTables → Footing
told_by tables = record {
  items = row_at tables.items;
  triggers = row_at tables.triggers;
  marks = row_at tables.marks;
  met_marks = row_at tables.met_marks;
}
