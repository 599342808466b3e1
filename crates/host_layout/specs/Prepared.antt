-- Parameters and texts of preprocessing steps, their macros having their values (the Zabbix 6.0 manual, "Item value
-- preprocessing").
use Rattle.std.specs.Prelude.{ℕ, ℤ, int_le, nat_le, Bool, true, not, ◌&&◌, ◌||◌, List, [], ◌∷◌, ◌++◌, length, Option, Some, None, is_some, if◌then◌else◌, Result, Ok, ◌⊎◌, codes}
use Rattle.std.proofs.Common.{inl, inr}
use Rattle.zbx_types.specs.Limits.{longest_value}
use Rattle.zbx_types.specs.Numerals.{read_number}
use Rattle.zbx_types.specs.Periods.{seconds_up_to}
use Rattle.zbx_types.specs.declared.items.Item.{Item}
use Rattle.zbx_types.specs.declared.steps.StepSpec.{StepSpec}
use Rattle.zbx_types.specs.declared.steps.StepKind.{StepKind}
use Rattle.zbx_types.specs.declared.steps.StepKind.TheVariants.{Regex, Replace, JsonPath, Multiplier, InRange, Matches, NotMatches, JsonError, RegexError, ThrottleHeartbeat}
use Rattle.zbx_types.specs.declared.causes.Cause.{Cause}
use Rattle.zbx_types.specs.declared.causes.Cause.TheVariants.{BadMember, BadPath}
use Rattle.json_path.specs.Grammar.{IsPathText}
use Rattle.json_path.proofs.Deciding.{is_path_or_not, begins_path_or_not}
use Rattle.macro_text.specs.Expanded.{expanded}
use Rattle.macro_text.specs.declared.macros.Macro.{Macro}
use Rattle.config_read.specs.declared.raw.RawItem.{RawItem}
use Rattle.config_read.specs.declared.raw.RawConf.{RawConf}
use Rattle.host_layout.specs.Places.{Flaw, Placed, placed, refuse, each, each_list, ◌>>=◌}
use Rattle.host_layout.specs.Items.{longest_up_to}
use Rattle.host_layout.specs.Patterns.{is_pattern}
use Rattle.host_layout.specs.OwnedItems.{OwnedItem, owned_items, adding, with_each}

-- the longest period after which a step lets an unchanged value pass: 365 days
abbrev pub longest_heartbeat : ℕ
longest_heartbeat = 31536000

-- one of the two holds
abbrev pub is_first : {P Q : Type 0} → P ⊎ Q → Bool
is_first (inl p) = true
is_first (inr q) = Bool.false

-- the place of the first byte of a text where no path goes on, none where it is a path
unfoldable pub path_fault : List ℕ → Option ℕ
path_fault text = if is_first (is_path_or_not text) then None else Some (longest_up_to (λ front. is_first (begins_path_or_not front)) text (length text))

-- what is wrong with a text that has to be a path
abbrev pub path_cause : Option ℕ → Option Cause
path_cause None = None
path_cause (Some at) = Some (BadPath at)

-- a bad member, unless this holds
abbrev pub bad_unless : Bool → Option Cause
bad_unless fits = if fits then None else Some BadMember

-- no bytes
abbrev pub is_empty : List ℕ → Bool
is_empty text = nat_le (length text) 0

-- a text is a number
abbrev pub is_number : List ℕ → Bool
is_number text = is_some (read_number text)

-- a text is a number, or no bound is given
abbrev pub is_bound : List ℕ → Bool
is_bound text = is_empty text || is_number text

-- the first number isn't above the second, where both are given
abbrev pub rises : Option ℤ → Option ℤ → Bool
rises (Some low) (Some high) = int_le low high
rises (Some low) None = true
rises None high = true

-- a second bound, behind a first one: at least one is given
abbrev pub bounds : List ℕ → List ℕ → Bool
bounds low high = is_bound high && not (is_empty low && is_empty high) && rises (read_number low) (read_number high)

-- a period of a second to 365 days
abbrev pub is_heartbeat : Option ℕ → Bool
is_heartbeat None = Bool.false
is_heartbeat (Some seconds) = nat_le 1 seconds

-- what is wrong with the first parameter of a step, by its kind
abbrev pub first_cause : StepKind → List ℕ → Option Cause
first_cause Regex text = bad_unless (is_pattern text)
first_cause Matches text = bad_unless (is_pattern text)
first_cause NotMatches text = bad_unless (is_pattern text)
first_cause RegexError text = bad_unless (is_pattern text)
first_cause Replace text = bad_unless (not (is_empty text))
first_cause JsonPath text = path_cause (path_fault text)
first_cause JsonError text = path_cause (path_fault text)
first_cause Multiplier text = bad_unless (is_number text)
first_cause InRange text = bad_unless (is_bound text)
first_cause ThrottleHeartbeat text = bad_unless (is_heartbeat (seconds_up_to longest_heartbeat text))
first_cause _ text = None

-- what is wrong with the second one
abbrev pub second_cause : StepKind → List ℕ → List ℕ → Option Cause
second_cause InRange first text = bad_unless (bounds first text)
second_cause _ first text = None

-- what is wrong with a parameter behind others
abbrev pub param_cause : StepKind → List (List ℕ) → List ℕ → Option Cause
param_cause kind [] text = first_cause kind text
param_cause kind (first ∷ rest) text = second_cause kind first text

-- the text, or what is wrong with it
abbrev pub passed : List ℕ → List ℕ → Option Cause → Result (List ℕ) Flaw
passed path text None = Ok text
passed path text (Some cause) = refuse path cause

-- the same of a text that may be so long
abbrev pub short_passed : List ℕ → List ℕ → Option Cause → Result (List ℕ) Flaw
short_passed path text cause = if nat_le (length text) longest_value then passed path text cause else refuse path BadMember

-- a parameter of a step behind others
unfoldable pub param_of : StepKind → List Macro → List (List ℕ) → Placed (List ℕ) → Result (List ℕ) Flaw
param_of kind macros before p = short_passed p.path (expanded macros p.body) (param_cause kind before (expanded macros p.body))

-- a step with its parameters and its text
unfoldable pub step_of : List Macro → Placed StepSpec → Result StepSpec Flaw
step_of macros p = do
  params ← each (param_of p.body.kind macros) [] (placed (p.path ++ codes "/params") p.body.params)
  text ← short_passed (p.path ++ codes "/text") (expanded macros p.body.text) None
  Ok (record { kind = p.body.kind; params = params; on_fail = p.body.on_fail; text = text })

-- the steps of an item where they stand
abbrev pub placed_steps : Placed RawItem → List (Placed StepSpec)
placed_steps p = placed (p.path ++ codes "/steps") p.body.steps

-- the steps of an item
unfoldable pub steps_of : OwnedItem → Result (List StepSpec) Flaw
steps_of o = each_list (adding (step_of o.macros)) [] (placed_steps o.item)

-- the steps of all items
abbrev pub all_steps : RawConf → Result (List (List StepSpec)) Flaw
all_steps raw = each_list (adding steps_of) [] (owned_items raw)

-- an item with its steps
abbrev pub with_steps : Item → List StepSpec → Item
with_steps i steps = record { host = i.host; key = i.key; kind = i.kind; master = i.master; value_type = i.value_type; enabled = i.enabled; steps = steps; delay = i.delay }

-- the items with their steps
unfoldable pub prepared : RawConf → List Item → Result (List Item) Flaw
prepared raw items = all_steps raw >>= λ steps. Ok (with_each with_steps items steps)
