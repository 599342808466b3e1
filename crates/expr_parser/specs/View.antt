-- What the code's values stand for.
use Rattle.std.specs.Prelude.{List, [], ◌∷◌, reverse}
use Rattle.zbx_types.specs.Trees.{tree_of}
use Rattle.expr_parser.specs.Machine as machine
use Rattle.expr_parser.specs.declared.slots.Slot.{Slot}
use Rattle.expr_parser.specs.declared.slots.Slots.{Slots}
use Rattle.expr_parser.specs.declared.slots.Slots.TheVariants.{Zero, OneSlot, TwoSlots, ThreeSlots}
use Rattle.expr_parser.specs.declared.states.Mode.{Mode}
use Rattle.expr_parser.specs.declared.states.Mode.TheVariants.{Begin, Operand, Word, Number, Slash, Host, Key, Argument}
use Rattle.expr_parser.specs.declared.states.Mode.TheVariants.{Close, Done, Less, Greater, Joint}
use Rattle.expr_parser.specs.declared.states.State.{State}
use Rattle.expr_parser.specs.declared.states.Whole.{Whole}
use Rattle.zbx_types.specs.Tree.{Tree}
use Rattle.zbx_types.specs.declared.calls.Call.{Call}

-- the slots in order
abbrev pub slot_list : Slots → List Slot
slot_list Zero = []
slot_list (OneSlot a) = a ∷ []
slot_list (TwoSlots a b) = a ∷ b ∷ []
slot_list (ThreeSlots a b c) = a ∷ b ∷ c ∷ []

-- a mode, its expressions seen as trees
abbrev pub mode : Mode → machine.Mode
mode Begin = machine.Begin
mode Operand = machine.Operand
mode (Word nots w) = machine.Word nots w
mode (Number f) = machine.Number f
mode (Slash f) = machine.Slash f
mode (Host f h) = machine.Host f h
mode (Key f h t place u) = machine.Key f h t place u
mode (Argument fresh c s ss p) = machine.Argument fresh c s (slot_list ss) p
mode (Close c) = machine.Close c
mode (Done e) = machine.Done (tree_of e)
mode (Less e) = machine.Less (tree_of e)
mode (Greater e) = machine.Greater (tree_of e)
mode (Joint op rest e) = machine.Joint op rest (tree_of e)

-- a state; what waits is seen innermost first
abbrev pub state : State → machine.State
state s = machine.state (mode s.mode) s.last s.base.open_ones (reverse s.base.stack.items) s.base.calls

-- an expression as a tree, and its calls
abbrev pub whole_of : Whole → Tree × List Call
whole_of w = (tree_of w.expr, w.calls)
