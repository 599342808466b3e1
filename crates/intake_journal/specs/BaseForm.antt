-- The base that bytes are.
use Rattle.std.specs.Prelude.{ℕ, zero, suc, nat_lt, ◌==◌, ◌&&◌, Bool, true, false, Option, Some, None, List, [], ◌∷◌, length, drop, if◌then◌else◌}
use Rattle.byteorder.specs.Endian.{little_number}
use Rattle.zbx_types.specs.declared.base.Base.{Base}
use Rattle.zbx_types.specs.declared.base.BaseItem.{BaseItem}
use Rattle.zbx_types.specs.declared.base.BaseProblem.{BaseProblem}
use Rattle.zbx_types.specs.declared.base.BaseStep.{BaseStep}
use Rattle.zbx_types.specs.declared.base.BaseValue.{BaseValue}
use Rattle.zbx_types.specs.declared.base.Ran.{Ran}
use Rattle.zbx_types.specs.declared.entries.EventId.{EventId}
use Rattle.zbx_types.specs.declared.entries.Rec.{Rec}
use Rattle.zbx_types.specs.declared.entries.Rec.TheVariants.{Problem}
use Rattle.zbx_types.specs.declared.entries.Tag.{Tag}
use Rattle.intake_journal.specs.BaseBytes.{stand_in_order}
use Rattle.intake_journal.specs.Format.{◌>>=◌, number_at, moment_at, piece_at, text_of}

-- the number in the first eight bytes, the lowest first, and the bytes behind it
abbrev pub long_at : List ℕ → Option (ℕ × List ℕ)
long_at bytes = if nat_lt (length bytes) 8 then None else Some (little_number 8 bytes, drop 8 bytes)

-- the byte at the front, and the bytes behind it
abbrev pub byte_at : List ℕ → Option (ℕ × List ℕ)
byte_at [] = None
byte_at (byte ∷ bytes) = Some (byte, bytes)

-- whether something is so, by the byte at the front, which is 1 or 0, and the bytes behind it
unfoldable pub flag_at : List ℕ → Option (Bool × List ℕ)
flag_at bytes = do
  byte ← byte_at bytes
  if byte.0 == 0 then Some (false, byte.1) else if byte.0 == 1 then Some (true, byte.1) else None

-- the text at the front, and the bytes behind it
unfoldable pub words_at : List ℕ → Option (List ℕ × List ℕ)
words_at bytes = do
  piece ← piece_at bytes
  text ← text_of piece.0
  Some (text, piece.1)

-- so many parts at the front, and the bytes behind them
unfoldable pub parts_at : {A : Type 0} → (List ℕ → Option (A × List ℕ)) → ℕ → List ℕ → Option (List A × List ℕ)
parts_at part zero bytes = Some ([], bytes)
parts_at part (suc n) bytes = do
  first ← part bytes
  others ← parts_at part n first.1
  Some (first.0 ∷ others.0, others.1)

-- the list at the front, behind how many parts it has, and the bytes behind it
abbrev pub list_at : {A : Type 0} → (List ℕ → Option (A × List ℕ)) → List ℕ → Option (List A × List ℕ)
list_at part bytes = number_at bytes >>= λ count. parts_at part count.0 count.1

-- the first and the last Tick where there was one; where there was none, both moments are 0
abbrev pub ticks_of : Bool → ℕ → ℕ → Option (Option ℕ × Option ℕ)
ticks_of true first last = Some (Some first, Some last)
ticks_of false first last = if first == 0 && last == 0 then Some (None, None) else None

-- the first and the last Tick, if there was one, and the bytes behind them
unfoldable pub ticks_at : List ℕ → Option (Option ℕ × Option ℕ × List ℕ)
ticks_at bytes = do
  there ← flag_at bytes
  first ← moment_at there.1
  last ← moment_at first.1
  ticks ← ticks_of there.0 first.0 last.0
  Some (ticks.0, ticks.1, last.1)

-- a value that an item keeps
unfoldable pub value_at : List ℕ → Option (BaseValue × List ℕ)
value_at bytes = do
  time ← moment_at bytes
  number ← long_at time.1
  value ← words_at number.1
  Some (record { time = time.0; number = number.0; value = value.0 }, value.1)

-- what a step remembers
unfoldable pub step_at : List ℕ → Option (BaseStep × List ℕ)
step_at bytes = do
  there ← flag_at bytes
  time ← moment_at there.1
  value ← words_at time.1
  Some (record { there = there.0; time = time.0; value = value.0 }, value.1)

-- what an item keeps
unfoldable pub item_at : List ℕ → Option (BaseItem × List ℕ)
item_at bytes = do
  values ← list_at value_at bytes
  steps ← list_at step_at values.1
  Some (record { values = values.0; steps = steps.0 }, steps.1)

-- a tag
unfoldable pub tag_at : List ℕ → Option (Tag × List ℕ)
tag_at bytes = do
  tag ← words_at bytes
  value ← words_at tag.1
  Some (record { tag = tag.0; value = value.0 }, value.1)

-- the last step of an action that ran
unfoldable pub ran_at : List ℕ → Option (Ran × List ℕ)
ran_at bytes = do
  action ← words_at bytes
  step ← number_at action.1
  now ← moment_at step.1
  Some (record { action = action.0; step = step.0; now = now.0 }, now.1)

-- an event
unfoldable pub event_at : List ℕ → Option (EventId × List ℕ)
event_at bytes = do
  number ← long_at bytes
  trigger ← number_at number.1
  Some (record { number = number.0; trigger = trigger.0 }, trigger.1)

-- how severe, and whether suppressed
unfoldable pub marks_at : List ℕ → Option (ℕ × Bool × List ℕ)
marks_at bytes = do
  severity ← byte_at bytes
  suppressed ← flag_at severity.1
  Some (severity.0, suppressed.0, suppressed.1)

-- three texts
unfoldable pub names_at : List ℕ → Option (List ℕ × List ℕ × List ℕ × List ℕ)
names_at bytes = do
  host ← words_at bytes
  trigger ← words_at host.1
  name ← words_at trigger.1
  Some (host.0, trigger.0, name.0, name.1)

-- a Problem record
unfoldable pub record_at : List ℕ → Option (Rec × List ℕ)
record_at bytes = do
  event ← event_at bytes
  now ← moment_at event.1
  marks ← marks_at now.1
  names ← names_at marks.2
  tags ← list_at tag_at names.3
  Some (Problem event.0 now.0 marks.0 marks.1 names.0 names.1 names.2 tags.0, tags.1)

-- an open problem, whose actions stand in byte order of their names
unfoldable pub problem_at : List ℕ → Option (BaseProblem × List ℕ)
problem_at bytes = do
  problem ← record_at bytes
  ran ← list_at ran_at problem.1
  if stand_in_order ran.0 then Some (record { problem = problem.0; ran = ran.0 }, ran.1) else None

-- what stands before the text: number and moment, Ticks, bytes of lines, and the bytes behind them
unfoldable pub head_at : List ℕ → Option (ℕ × ℕ × Option ℕ × Option ℕ × ℕ × List ℕ)
head_at bytes = do
  number ← long_at bytes
  now ← moment_at number.1
  ticks ← ticks_at now.1
  lines ← long_at ticks.2
  Some (number.0, now.0, ticks.0, ticks.1, lines.0, lines.1)

-- a base of these parts, whose text isn't empty, where nothing is left
abbrev pub whole_base : ℕ × ℕ × Option ℕ × Option ℕ × ℕ × List ℕ → List ℕ → List BaseItem → List BaseProblem → List ℕ → Option Base
whole_base head text items problems left =
    if nat_lt 0 (length text) && length left == 0
    then Some (record { number = head.0; now = head.1; first_tick = head.2; last_tick = head.3; lines = head.4; text = text; items = items; problems = problems })
    else None

-- what stands behind what stands before the text
unfoldable pub base_behind_head : ℕ × ℕ × Option ℕ × Option ℕ × ℕ × List ℕ → Option Base
base_behind_head head = do
  text ← words_at head.5
  items ← list_at item_at text.1
  problems ← list_at problem_at items.1
  whole_base head text.0 items.0 problems.0 problems.1

-- the base that all of the bytes are
unfoldable pub base_read : List ℕ → Option Base
base_read bytes = head_at bytes >>= λ head. base_behind_head head
