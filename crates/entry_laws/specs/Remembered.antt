-- The previous value of a step in a whole log, found by a search for the last entry from which the step is carried and that
-- marked it. Steps of an item go by places from 0 on.
use Rattle.std.specs.Prelude.{◌≡◌, ℕ, zero, suc, ◌-◌, Bool, true, false, ◌&&◌, List, [], ◌∷◌, Option, Some, None, if◌then◌else◌, slice_index_or}
use Rattle.std.specs.Option.{option_map_or, unwrap_or}
use Rattle.std.specs.Str.{bytes_eq}
use Rattle.zbx_types.specs.Hosts.{host_name}
use Rattle.zbx_types.specs.Ids.{at_id}
use Rattle.zbx_types.specs.declared.conf.Conf.{Conf}
use Rattle.zbx_types.specs.declared.entries.Entry.{Entry}
use Rattle.zbx_types.specs.declared.entries.Entry.TheVariants.{Config, Value, Tick}
use Rattle.zbx_types.specs.declared.entries.Numbered.{Numbered}
use Rattle.zbx_types.specs.declared.items.Item.{Item}
use Rattle.zbx_types.specs.declared.steps.StepSpec.{StepSpec}
use Rattle.prep_steps.specs.Outcomes.{unmarked}
use Rattle.prep_steps.specs.declared.memory.StepMemory.{StepMemory}
use Rattle.preprocess.specs.Carry.{same_step, old_item, steps_of}
use Rattle.entry_step.specs.History.{memory_of}
use Rattle.entry_laws.specs.Previous.{marked_at, HasMarks}
use Rattle.entry_step.specs.Start.{Start}
use Rattle.entry_step.specs.Whole.{point}

-- so many first steps are there in both lists, and are equal
abbrev pub same_steps : ℕ → List StepSpec → List StepSpec → Bool
same_steps zero xs ys = true
same_steps (suc n) [] ys = false
same_steps (suc n) (x ∷ xs) [] = false
same_steps (suc n) (x ∷ xs) (y ∷ ys) = same_step x y && same_steps n xs ys

-- a configuration has an item that goes on as this one of another configuration, with its steps up to the one at a place
abbrev pub is_carried : Conf → Conf → Item → ℕ → Bool
is_carried old conf item place =
    option_map_or (λ before. same_steps (suc place) (steps_of old before) item.steps) (old_item old conf item) false

-- the mark at a place
abbrev pub mark_at : List StepMemory → ℕ → StepMemory
mark_at marks place = slice_index_or marks place unmarked

-- what the steps of a configuration's items remember, by ids of items and numbers of steps from 1 on, where this tells it
-- of each item and place
abbrev pub remembered : Conf → (Conf → Item → ℕ → StepMemory) → ℕ → ℕ → StepMemory
remembered conf before i k = option_map_or (λ item. before conf item (k - 1)) (at_id conf.items i) unmarked

-- what an entry marks the step at a place of an item with, where the step is carried from there
abbrev pub marked_for : Conf → (Conf → Item → ℕ → StepMemory) → Numbered → Conf → Item → ℕ → Option StepMemory
marked_for old before e conf item place =
    if is_carried old conf item place
    then option_map_or (λ i. marked_at old (remembered old before) e.number e.entry i (suc place)) (old_item old conf item) None
    else None

-- the previous value with one more entry: a Config that has no such item, or not these steps, ends the search
abbrev pub previous_with : (List ℕ → Conf) → Conf → (Conf → Item → ℕ → StepMemory) → Numbered → Entry → Conf → Item → ℕ → StepMemory
previous_with flat old before e (Config now text) conf item place =
    if is_carried (flat text) conf item place then before conf item place else unmarked
previous_with flat old before e (Value now i time value) conf item place =
    unwrap_or (marked_for old before e conf item place) (before conf item place)
previous_with flat old before e (Tick now) conf item place =
    unwrap_or (marked_for old before e conf item place) (before conf item place)

-- the previous value of the step at a place of an item of a configuration, behind a log
abbrev pub previous : (List ℕ → Conf) → Start → List Numbered → Conf → Item → ℕ → StepMemory
previous flat start [] conf item place =
    if is_carried start.stage.conf conf item place
    then option_map_or (λ i. mark_at (start.marks i) place) (old_item start.stage.conf conf item) unmarked else unmarked
previous flat start (e ∷ log) conf item place =
    previous_with flat (point flat start log).start.stage.conf (previous flat start log) e e.entry conf item place

-- no two items of a host, by its name, have the same key
abbrev pub HasApart : Conf → Type 0
HasApart conf = (i j : ℕ) (a b : Item) → at_id conf.items i ≡ Some a → at_id conf.items j ≡ Some b
    → bytes_eq (host_name (at_id conf.hosts a.host)) (host_name (at_id conf.hosts b.host)) ≡ true → bytes_eq a.key b.key ≡ true → i ≡ j

-- what is no item remembers nothing
abbrev pub HasNoOther : Start → Type 0
HasNoOther start = (i : ℕ) → at_id start.stage.conf.items i ≡ None → start.marks i ≡ []

-- In a whole log, what a step remembers is what the last entry left from which it is carried and that marked it.
abbrev pub PreviousInWhole : Type 0
PreviousInWhole =
    (flat : List ℕ → Conf) (start : Start) (log : List Numbered) → ((text : List ℕ) → HasApart (flat text)) → HasApart start.stage.conf
    → HasMarks start → HasNoOther start
    → let p = point flat start log in
    (i k : ℕ) → memory_of p.start p.since i k ≡ remembered p.start.stage.conf (previous flat start log) i k
