-- One item's chain of preprocessing steps over one value.
use Rattle.std.specs.Prelude.{ℕ, ◌+◌, List, [], ◌∷◌, ◌++◌, Option, Some, None, ℤ, codes}
use Rattle.std.specs.Fmt.{decimal}
use Rattle.zbx_types.specs.Written.{written}
use Rattle.zbx_types.specs.declared.entries.Held.TheVariants.{Number as NumberHeld, Words as WordsHeld}
use Rattle.zbx_types.specs.declared.items.Item.{Item}
use Rattle.zbx_types.specs.declared.items.ValueType.{ValueType}
use Rattle.zbx_types.specs.declared.items.ValueType.TheVariants.{Number, Words}
use Rattle.zbx_types.specs.declared.steps.OnFail.{OnFail}
use Rattle.zbx_types.specs.declared.steps.OnFail.TheVariants as on_fail
use Rattle.zbx_types.specs.declared.steps.StepKind.{StepKind}
use Rattle.zbx_types.specs.declared.steps.StepKind.TheVariants.{JsonPath, JsonError}
use Rattle.zbx_types.specs.declared.steps.StepSpec.{StepSpec}
use Rattle.prep_steps.specs.Numbering.{number_of}
use Rattle.prep_steps.specs.Outcomes.{parameter, kept}
use Rattle.prep_steps.specs.Steps.{done_of}
use Rattle.prep_steps.specs.declared.memory.StepMemory.{StepMemory}
use Rattle.prep_steps.specs.declared.outcome.Outcome.{Outcome}
use Rattle.prep_steps.specs.declared.outcome.Outcome.TheVariants.{Value, Discard, Fail}
use Rattle.prep_steps.specs.declared.outcome.StepDone.{StepDone}
use Rattle.preprocess.specs.Readings.{json_in, path_in}
use Rattle.preprocess.specs.JsonSteps.{found_in, selected, json_checked}
use Rattle.preprocess.specs.declared.ended.Ended.{Ended}
use Rattle.preprocess.specs.declared.ended.Ended.TheVariants.{Stored, Discarded, Failed}
use Rattle.preprocess.specs.declared.chain.Chained.{Chained}

-- what a step of this kind makes of a value that came at a moment, with its memory before it
abbrev pub made_by : StepKind → StepSpec → StepMemory → List ℕ → ℕ → StepDone
made_by JsonPath step memory value time =
    kept memory (selected (found_in (json_in value) (path_in (parameter step.params 0))))
made_by JsonError step memory value time =
    kept memory (json_checked (found_in (json_in value) (path_in (parameter step.params 0))) value)
made_by _ step memory value time = done_of step memory value time

-- what a step makes of a value that came at a moment, with its memory before it
unfoldable pub step_done : StepSpec → StepMemory → List ℕ → ℕ → StepDone
step_done step memory value time = made_by step.kind step memory value time

-- what comes of a failure at the step with this number, counted from 1 (the Zabbix 6.0 manual, "Item value
-- preprocessing", custom on fail): its text behind the step's number, nothing, the step's own text as the value, or as
-- the error
abbrev pub on_failure : OnFail → ℕ → List ℕ → List ℕ → Outcome
on_failure on_fail.Empty k text why = Fail (codes "step " ++ (decimal k ++ (codes ": " ++ why)))
on_failure on_fail.Discard k text why = Discard
on_failure on_fail.Value k text why = Value text
on_failure on_fail.Error k text why = Fail text

-- what comes of an outcome at the step with this number: of a failure what the step says
abbrev pub settled : StepSpec → ℕ → Outcome → Outcome
settled step k (Value value) = Value value
settled step k Discard = Discard
settled step k (Fail why) = on_failure step.on_fail k step.text why

-- a value goes on; nothing else does
abbrev pub going_on : (List ℕ → Outcome) → Outcome → Outcome
going_on f (Value value) = f value
going_on f Discard = Discard
going_on f (Fail why) = Fail why

-- what comes of a value at the first of some steps, the first of which has this number, where each step has its memory
unfoldable pub comes_of : List StepSpec → ℕ → (ℕ → StepMemory) → List ℕ → ℕ → Outcome
comes_of [] k memory value time = Value value
comes_of (step ∷ steps) k memory value time =
    going_on (λ v. comes_of steps (k + 1) memory v time) (settled step k (step_done step (memory k) value time).outcome)

-- what steps remember that a value doesn't reach, the first of which has this number
abbrev pub unreached : List StepSpec → ℕ → (ℕ → StepMemory) → List StepMemory
unreached [] k memory = []
unreached (step ∷ steps) k memory = memory k ∷ unreached steps (k + 1) memory

-- what steps remember where a value goes on to them, and what they remember where none does
abbrev pub where_on : (List ℕ → List StepMemory) → List StepMemory → Outcome → List StepMemory
where_on f rest (Value value) = f value
where_on f rest Discard = rest
where_on f rest (Fail why) = rest

-- what some steps remember from then on, in their order: a step that the value doesn't reach what it did
unfoldable pub marks_of : List StepSpec → ℕ → (ℕ → StepMemory) → List ℕ → ℕ → List StepMemory
marks_of [] k memory value time = []
marks_of (step ∷ steps) k memory value time =
    (step_done step (memory k) value time).memory
    ∷ where_on (λ v. marks_of steps (k + 1) memory v time) (unreached steps (k + 1) memory)
    (settled step k (step_done step (memory k) value time).outcome)

-- the end at a number item: its value is the number that the text writes between blanks, and its text that number
-- written (this project's own)
abbrev pub number_ended : Option ℤ → Ended
number_ended None = Failed (codes "value: not a number")
number_ended (Some z) = Stored (NumberHeld z) (written z)

-- the last reading of a text, by the type of its item's values
abbrev pub read_as : ValueType → List ℕ → Ended
read_as Number text = number_ended (number_of text)
read_as Words text = Stored (WordsHeld text) text

-- how a chain ends with an outcome
abbrev pub ended_as : ValueType → Outcome → Ended
ended_as type (Value text) = read_as type text
ended_as type Discard = Discarded
ended_as type (Fail why) = Failed why

-- what a chain makes of a value that came at a moment, where each step has its memory, and what the steps remember then
unfoldable pub chain_of : Item → (ℕ → StepMemory) → List ℕ → ℕ → Chained
chain_of item memory value time = record {
  end = ended_as item.value_type (comes_of item.steps 1 memory value time);
  marks = marks_of item.steps 1 memory value time;
}
