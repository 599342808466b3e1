-- The one written form of expressions.
use Rattle.std.specs.Prelude.{ℕ, suc, List, [], ◌∷◌, ◌++◌, Option, Some, None, Bool, true, false, ◌==◌, if◌then◌else◌}
use Rattle.std.specs.Prelude.{codes, slice_get, max}
use Rattle.std.specs.List.{flat_map}
use Rattle.std.specs.Fmt.{decimal}
use Rattle.zbx_types.specs.Tree.{Tree, constant, call, negative, negation, binary}
use Rattle.zbx_types.specs.Written.{written}
use Rattle.zbx_types.specs.declared.calls.Call.{Call}
use Rattle.zbx_types.specs.declared.calls.Range.{Range}
use Rattle.zbx_types.specs.declared.calls.Range.TheVariants.{Count, Period}
use Rattle.expr_parser.specs.declared.slots.Slot.{Slot}
use Rattle.expr_parser.specs.Functions.{name_of, slots}
use Rattle.zbx_types.specs.Operators.{is_dated}
use Rattle.expr_parser.specs.Grammar.{op_text}

-- a byte between quotes: a quote is written as `\"`
abbrev pub escaped_byte : ℕ → List ℕ
escaped_byte b = if b == 34 then codes "\\\"" else b ∷ []

-- the bytes between quotes
abbrev pub escaped : List ℕ → List ℕ
escaped text = flat_map escaped_byte text

-- an argument in quotes; an empty one is nothing
abbrev pub quoted_text : List ℕ → List ℕ
quoted_text [] = []
quoted_text (b ∷ bs) = codes "\"" ++ escaped (b ∷ bs) ++ codes "\""

-- a range: `#n`, or a period in seconds
abbrev pub written_range : Range → List ℕ
written_range (Count n) = codes "#" ++ decimal n
written_range (Period n) = decimal n

-- a shift other than 0 in seconds
abbrev pub written_shift : ℕ → List ℕ
written_shift n = if n == 0 then [] else codes ":now-" ++ decimal n

-- a function takes a range where it takes an argument behind the item, which then is the first
abbrev pub is_ranged : List Slot → Bool
is_ranged [] = false
is_ranged (s ∷ ss) = true

-- a call's range with its shift, where its function takes one
abbrev pub range_argument : Call → List ℕ
range_argument c = if is_ranged (slots c.fun) then codes "," ++ written_range c.range ++ written_shift c.shift else []

-- the two arguments behind the range, up to the last that isn't empty
abbrev pub last_arguments : List ℕ → List ℕ → List ℕ
last_arguments [] [] = []
last_arguments (b ∷ bs) [] = codes "," ++ quoted_text (b ∷ bs)
last_arguments op (b ∷ bs) = codes "," ++ quoted_text op ++ codes "," ++ quoted_text (b ∷ bs)

-- a call: a date function with nothing in its parentheses, else the item and the arguments
abbrev pub written_call : Call → List ℕ
written_call c =
    if is_dated c.fun then name_of c.fun ++ codes "()"
    else name_of c.fun
    ++ codes "(/" ++ c.host ++ codes "/" ++ c.key ++ (range_argument c ++ last_arguments c.op c.arg) ++ codes ")"

-- a call that is named by its place
abbrev pub written_place : Option Call → List ℕ
written_place None = []
written_place (Some c) = written_call c

-- constants and calls stand without parentheses
abbrev pub is_simple : Tree → Bool
is_simple (constant z) = true
is_simple (call place) = true
is_simple (negative a) = false
is_simple (negation a) = false
is_simple (binary op a b) = false

-- an operand's text, in parentheses where it isn't simple
abbrev pub as_operand : Bool → List ℕ → List ℕ
as_operand simple text = if simple then text else codes "(" ++ text ++ codes ")"

-- the written form of an expression with its calls
abbrev pub written_of : Tree → List Call → List ℕ
written_of (constant z) calls = written z
written_of (call place) calls = written_place (slice_get calls place)
written_of (negative a) calls = codes "-" ++ as_operand (is_simple a) (written_of a calls)
written_of (negation a) calls = codes "not " ++ as_operand (is_simple a) (written_of a calls)
written_of (binary op a b) calls =
    as_operand (is_simple a) (written_of a calls) ++ codes " " ++ op_text op ++ codes " "
    ++ as_operand (is_simple b) (written_of b calls)

-- the parentheses that are open in an operand which has so many: one more where it isn't simple
abbrev pub operand_nesting : Bool → ℕ → ℕ
operand_nesting simple n = if simple then n else suc n

-- how many parentheses are open at one place of the written form, those of calls aside
abbrev pub nesting : Tree → ℕ
nesting (constant z) = 0
nesting (call place) = 0
nesting (negative a) = operand_nesting (is_simple a) (nesting a)
nesting (negation a) = operand_nesting (is_simple a) (nesting a)
nesting (binary op a b) = max (operand_nesting (is_simple a) (nesting a)) (operand_nesting (is_simple b) (nesting b))
