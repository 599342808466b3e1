-- Items as the code goes over them: the refusal of one, and how many each master has.
use Rattle.std.specs.Prelude.{ℕ, zero, suc, ◌==◌, nat_eq, nat_le, Bool, not, ◌&&◌, Result, Ok}
use Rattle.std.specs.Option.{option_map_or}
use Rattle.indexmap.specs.IndexMap.{get}
use Rattle.zbx_types.specs.declared.causes.Cause.{Cause}
use Rattle.host_layout.specs.Places.{Flaw, refuse}
use Rattle.host_layout.specs.OwnedItems.{OwnedItem}
use Rattle.host_layout.specs.Masters.{master_path, most_dependents}
use Rattle.host_layout.specs.declared.mastering.Dependents.{Dependents}

-- an item is refused at its master where so many stand before it
abbrev pub refusing : Cause → ℕ → OwnedItem → Result ℕ Flaw
refusing cause zero o = refuse (master_path o) cause
refusing cause (suc left) o = Ok left

-- how many dependent items are counted of a master
abbrev pub count_in : Dependents → ℕ → ℕ
count_in d master = option_map_or (λ n. n) (get nat_eq d.counts master) 0

-- a master with so many is full
abbrev pub is_full_at : ℕ → ℕ → Bool
is_full_at master count = not (master == 0) && nat_le most_dependents count
