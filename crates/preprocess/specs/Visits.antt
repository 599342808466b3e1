-- The value of an entry on its way through its item and the items that depend on it: what comes to each item is found
-- by a search up its masters.
use Rattle.std.specs.Prelude.{ℕ, zero, suc, ◌-◌, ◌==◌, List, [], ◌∷◌, length, flat_map, filter_map, Option, Some, None}
use Rattle.std.specs.Prelude.{IfSome, option_map, if◌then◌else◌}
use Rattle.zbx_types.specs.Ids.{at_id}
use Rattle.zbx_types.specs.Items.{is_received_kind}
use Rattle.zbx_types.specs.declared.conf.Conf.{Conf}
use Rattle.zbx_types.specs.declared.items.Item.{Item}
use Rattle.prep_steps.specs.declared.memory.StepMemory.{StepMemory}
use Rattle.preprocess.specs.Chain.{chain_of}
use Rattle.preprocess.specs.Chains.{dependents_of, listed}
use Rattle.preprocess.specs.Ways.{memory_at, HavePatterns}
use Rattle.preprocess.specs.declared.chain.Chained.{Chained}
use Rattle.preprocess.specs.declared.ended.Ended.{Ended}
use Rattle.preprocess.specs.declared.ended.Ended.TheVariants.{Stored, Discarded, Failed}
use Rattle.preprocess.specs.declared.visit.ItemOutcome.{ItemOutcome}
use Rattle.preprocess.specs.declared.visit.ItemOutcome.TheVariants as outcome
use Rattle.preprocess.specs.declared.visit.Visit.{Visit}

-- the value of an entry: the item that it is for, the moment that it is of, the entry's number, and its text
pub record Arrival : Type 0 where
  pub item : ℕ
  pub time : ℕ
  pub number : ℕ
  pub value : List ℕ

-- the memory of an item's step, in lists of memories by items
abbrev pub memory_in : List (List StepMemory) → ℕ → ℕ → StepMemory
memory_in memories id k = memory_at (listed memories id) k

-- what an item's chain makes of what comes to it, if something does
abbrev pub chained_by : (ℕ → StepMemory) → ℕ → Option Item → Option (List ℕ) → Option Chained
chained_by memory time None came = None
chained_by memory time (Some item) came = option_map (λ value. chain_of item memory value time) came

-- the text of the value that a chain ends with, if it is stored
abbrev pub ended_text : Ended → Option (List ℕ)
ended_text (Stored held text) = Some text
ended_text Discarded = None
ended_text (Failed why) = None

-- the text that goes to the dependents of an item: that of the value that it stores
abbrev pub text_of : Option Chained → Option (List ℕ)
text_of None = None
text_of (Some chained) = ended_text chained.end

-- what comes to an item: to a trapper item the value of an entry for it, to an enabled dependent what its master gives
-- (the Zabbix 6.0 manual, "Dependent items")
abbrev pub came_by : Arrival → ℕ → (ℕ → Option (List ℕ)) → Option Item → Option (List ℕ)
came_by arrival id given None = None
came_by arrival id given (Some item) =
    if is_received_kind item.kind then (if id == arrival.item then Some arrival.value else None)
    else if item.enabled then given item.master else None

-- what comes to an item, where so many masters are asked
unfoldable pub came : Conf → (ℕ → ℕ → StepMemory) → Arrival → ℕ → ℕ → Option (List ℕ)
came conf memory arrival zero id = came_by arrival id (λ master. None) (at_id conf.items id)
came conf memory arrival (suc up) id =
    came_by arrival id
    (λ master. text_of (chained_by (memory master) arrival.time (at_id conf.items master)
    (came conf memory arrival up master)))
    (at_id conf.items id)

-- what an item's chain makes of an entry's value, if it comes to the item
unfoldable pub result_of : Conf → (ℕ → ℕ → StepMemory) → Arrival → ℕ → Option Chained
result_of conf memory arrival id =
    chained_by (memory id) arrival.time (at_id conf.items id) (came conf memory arrival (length conf.items) id)

-- an item and the enabled dependents below it, each with its own before the next one
unfoldable pub visited : Conf → ℕ → ℕ → List ℕ
visited conf zero id = id ∷ []
visited conf (suc down) id = id ∷ flat_map (visited conf down) (dependents_of conf id)

-- what comes of the end of a chain: what the item stores is of the value's moment, and has the entry's number
abbrev pub outcome_of : ℕ → ℕ → Ended → ItemOutcome
outcome_of time number (Stored held text) = outcome.Stored (record { time = time; number = number; value = held })
outcome_of time number Discarded = outcome.Discarded
outcome_of time number (Failed why) = outcome.Failed why

-- the visit of an item whose chain made this
abbrev pub visit_of : ℕ → ℕ → ℕ → Chained → Visit
visit_of time number id chained = record { item = id; outcome = outcome_of time number chained.end; marks = chained.marks }

-- the visits of an entry's value, in their order: those of the items to which it comes. Below an item there are at most as
-- many levels as there are other items.
unfoldable pub visits_of : Conf → (ℕ → ℕ → StepMemory) → Arrival → List Visit
visits_of conf memory arrival =
    filter_map (λ id. option_map (visit_of arrival.time arrival.number id) (result_of conf memory arrival id))
    (visited conf (length conf.items - 1) arrival.item)

-- the pattern of each step of each item is among these
abbrev pub ArePatternsOf : Conf → List (List ℕ) → Type 0
ArePatternsOf conf patterns = (id : ℕ) → IfSome (at_id conf.items id) (λ item. HavePatterns patterns item.steps)
