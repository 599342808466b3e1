-- Stamps of ids, and what entries touch.
use Rattle.std.specs.Prelude.{◌≡◌, ℕ, ◌==◌, Bool, true, ◌||◌, slice_index}
use Rattle.std.specs.List.{list_any}
use Rattle.zbx_types.specs.Masters.{has_id}
use Rattle.zbx_types.specs.declared.entries.Entry.{Entry}
use Rattle.zbx_types.specs.declared.entries.Entry.TheVariants.{Config, Value, Tick}
use Rattle.footprint.specs.Feet.{Footing}
use Rattle.footprint.specs.Conflict.{feet_meet, conflict_by}
use Rattle.syncer_gate.specs.declared.stamps.Stamps.{Stamps}
use Rattle.syncer_gate.specs.declared.touched.Touched.{Touched}

-- an id has the stamp of this round
abbrev pub is_stamped : Stamps → ℕ → Bool
is_stamped stamps id = slice_index stamps.at.items id == stamps.round

-- a value of an item meets what was touched
abbrev pub meets_value : Footing → Touched → ℕ → Bool
meets_value feet t item =
    t.all
    || (has_id t.lone.items item
    || (list_any (is_stamped t.items) (feet.items item)
    || (list_any (is_stamped t.triggers) (feet.triggers item) || list_any (is_stamped t.marks) (feet.met_marks item))))

-- an entry meets what was touched
abbrev pub meets : Footing → Touched → Entry → Bool
meets feet t (Value now item time value) = meets_value feet t item
meets feet t (Config now text) = t.any
meets feet t (Tick now) = t.any

-- what conflicts with the entry meets it now, too
abbrev pub Touches : Footing → Touched → Entry → Touched → Type 0
Touches feet before e t = (other : Entry) → meets feet t other ≡ (meets feet before other || conflict_by feet e other)

-- a value of the item was touched: what its foot meets is met now, too
pub record TouchesValue (feet : Footing) (before : Touched) (item : ℕ) (t : Touched) : Type 0 where
  pub any : t.any ≡ true
  pub value : (other : ℕ) → meets_value feet t other ≡ (meets_value feet before other || feet_meet feet item other)
