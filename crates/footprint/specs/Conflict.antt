-- Which entries conflict (this project's own).
use Rattle.std.specs.Prelude.{ℕ, ◌==◌, Bool, true, ◌||◌}
use Rattle.zbx_types.specs.declared.conf.Conf.{Conf}
use Rattle.zbx_types.specs.declared.entries.Entry.{Entry}
use Rattle.zbx_types.specs.declared.entries.Entry.TheVariants.{Config, Value, Tick}
use Rattle.footprint.specs.Rows.{meet}
use Rattle.footprint.specs.Feet.{Footing, feet_of}

-- The feet of values of two items meet: in an item, in a trigger, or in a trigger that marks of both stand for. The
-- foot of an item that isn't there has that item alone.
abbrev pub feet_meet : Footing → ℕ → ℕ → Bool
feet_meet feet a b =
    (a == b)
    || (meet (feet.items a) (feet.items b)
    || (meet (feet.triggers a) (feet.triggers b) || meet (feet.marks a) (feet.met_marks b)))

-- two entries conflict by these feet: a Config and a Tick touch everything
abbrev pub conflict_by : Footing → Entry → Entry → Bool
conflict_by feet (Value now item time value) (Value later other at text) = feet_meet feet item other
conflict_by feet (Value now item time value) (Config later text) = true
conflict_by feet (Value now item time value) (Tick later) = true
conflict_by feet (Config now text) b = true
conflict_by feet (Tick now) b = true

-- two entries conflict by the feet of a configuration
abbrev pub conflict_of : Conf → Entry → Entry → Bool
conflict_of conf a b = conflict_by (feet_of conf) a b
