-- Expressions byte by byte: where an expression stands behind a front of it.
use Rattle.std.specs.Prelude.{◌≡◌, ℕ, zero, suc, List, [], ◌∷◌, ◌++◌, length, Bool, true, false, ◌==◌, nat_le, nat_lt}
use Rattle.std.specs.Prelude.{if◌then◌else◌, Option, Some, None, pos, codes}
use Rattle.std.specs.Str.{is_utf8}
use Rattle.zbx_types.specs.Tree.{Tree, constant, call, negative, negation, binary}
use Rattle.zbx_types.specs.declared.expr.Op.{Op}
use Rattle.zbx_types.specs.declared.expr.Op.TheVariants.{Or, And, Eq, Ne, Lt, Le, Gt, Ge, Add, Sub, Mul, Div}
use Rattle.zbx_types.specs.declared.calls.Call.{Call}
use Rattle.zbx_types.specs.declared.calls.Fun.{Fun}
use Rattle.zbx_types.specs.declared.calls.Fun.TheVariants as fun
use Rattle.item_key.specs.declared.places.Place.{Place}
use Rattle.item_key.specs.declared.places.Place.TheVariants.{Start}
use Rattle.item_key.specs.Machine as key
use Rattle.byte_grammar.specs.declared.characters.Character.{Character}
use Rattle.byte_grammar.specs.declared.characters.Character.TheVariants.{Whole}
use Rattle.zbx_types.specs.Limits.{longest_key, longest_name}
use Rattle.zbx_types.specs.NameBytes.{is_host_name_byte}
use Rattle.expr_parser.specs.Bytes.{is_blank, is_gap, one_less}
use Rattle.expr_parser.specs.declared.figures.Figures.{Figures}
use Rattle.expr_parser.specs.declared.slots.Slot.{Slot}
use Rattle.expr_parser.specs.declared.parts.Value.{Value}
use Rattle.expr_parser.specs.declared.parts.Value.TheVariants.{Ranged, Said}
use Rattle.expr_parser.specs.declared.parts.Part.{Part}
use Rattle.expr_parser.specs.declared.parts.Part.TheVariants.{Before}
use Rattle.expr_parser.specs.declared.pending.Half.{Half}
use Rattle.expr_parser.specs.declared.pending.Half.TheVariants.{Left, Denied, Negated}
use Rattle.expr_parser.specs.declared.pending.Pending.{Pending}
use Rattle.expr_parser.specs.declared.pending.Pending.TheVariants.{Open, Waits}
use Rattle.expr_parser.specs.declared.pending.Rest.{Rest}
use Rattle.expr_parser.specs.declared.pending.Rest.TheVariants.{Nd, D, R, Nothing}
use Rattle.expr_parser.specs.Functions.{name_of, slots}
use Rattle.zbx_types.specs.Operators.{is_dated}
use Rattle.expr_parser.specs.Calls.{put, put_range, all_absent, plain_call, is_same, greatest_number}
use Rattle.expr_parser.specs.Grammar.{op_level}
use Rattle.byte_grammar.specs.Utf8.{follow}
use Rattle.expr_parser.specs.Figures.{first_figure, figure, figures_value, is_figure}
use Rattle.expr_parser.specs.Parts.{part, part_value, begins_one, is_front}

-- the level of an operator that waits for its operand
abbrev pub half_level : Half → ℕ
half_level (Left op a) = op_level op
half_level Denied = 6
half_level Negated = 7

-- the tree that it makes of its operand
abbrev pub applied : Half → Tree → Tree
applied (Left op a) e = binary op a e
applied Denied e = negation e
applied Negated e = negative e

-- the loosest level that an operand there may have
abbrev pub floor : List Pending → ℕ
floor [] = 0
floor (Open ∷ k) = 0
floor (Waits h ∷ k) = suc (half_level h)

-- what is left to wait, and the operand, once those that bind as tightly as a level or more have theirs
abbrev pub reduced : ℕ → List Pending → Tree → List Pending × Tree
reduced m [] e = ([], e)
reduced m (Open ∷ k) e = (Open ∷ k, e)
reduced m (Waits h ∷ k) e = if nat_le m (half_level h) then reduced m k (applied h e) else (Waits h ∷ k, e)

-- these are what is left and its operand
abbrev pub Same : List Pending → Tree → List Pending × Tree → Type 0
Same k e r = (k ≡ r.0) × (e ≡ r.1)

-- A place in a token. The beginning; before an operand; in a word, perhaps `not`; in a number; before the slash of a
-- call; in a host; in a key, in its character; in an argument, perhaps still before it; before the parenthesis that
-- ends a call; behind an operand; behind `<`; behind `>`; in `and` or `or`, of which some bytes are still to come.
pub data Mode : Type 0 where
  Begin : Mode
  Operand : Mode
  Word : (nots : Bool) (w : List ℕ) → Mode
  Number : (f : Figures) → Mode
  Slash : (f : Fun) → Mode
  Host : (f : Fun) (h : List ℕ) → Mode
  Key : (f : Fun) (h k : List ℕ) (place : Place) (u : Character) → Mode
  Argument : (fresh : Bool) (c : Call) (s : Slot) (ss : List Slot) (p : Part) → Mode
  Close : (c : Call) → Mode
  Done : (e : Tree) → Mode
  Less : (e : Tree) → Mode
  Greater : (e : Tree) → Mode
  Joint : (op : Op) (rest : Rest) (e : Tree) → Mode

-- the mode, the last byte, how many parentheses are open, what waits, innermost first, and the calls
pub record State : Type 0 where
  pub mode : Mode
  pub last : ℕ
  pub open_ones : ℕ
  pub stack : List Pending
  pub calls : List Call

-- the state of these parts
abbrev pub state : Mode → ℕ → ℕ → List Pending → List Call → State
state m l o k cs = record { mode = m; last = l; open_ones = o; stack = k; calls = cs }

-- `(` in front of an operand
abbrev pub opened : ℕ → List Pending → List Call → Option State
opened o k cs = if nat_lt o 32 then Some (state Operand 40 (suc o) (Open ∷ k) cs) else None

-- one call more may come
abbrev pub has_room : List Call → Bool
has_room cs = nat_lt (length cs) 32

-- the word of a negation
abbrev pub not_word : List ℕ
not_word = codes "not"

-- the letters are that word
abbrev pub is_not : List ℕ → Bool
is_not w = is_same w not_word

-- the functions, in two lists: the first ones
abbrev pub first_functions : List Fun
first_functions =
    fun.Last ∷ fun.First ∷ fun.Min ∷ fun.Max ∷ fun.Avg ∷ fun.Sum ∷ fun.Change ∷ fun.Count ∷ fun.Find ∷ fun.NoData ∷ []

-- the functions, in two lists: the others
abbrev pub second_functions : List Fun
second_functions =
    fun.Percentile ∷ fun.ChangeCount ∷ fun.MonoInc ∷ fun.MonoDec ∷ fun.Now ∷ fun.Time ∷ fun.Date ∷ fun.DayOfWeek
    ∷ fun.DayOfMonth ∷ []

-- the names of these functions
abbrev pub names : List Fun → List (List ℕ)
names [] = []
names (f ∷ fs) = name_of f ∷ names fs

-- the text begins the name of a function
abbrev pub begins_name : List ℕ → Bool
begins_name w = if begins_one (names first_functions) w then true else begins_one (names second_functions) w

-- the first of these functions that has a name
abbrev pub function_in : List Fun → List ℕ → Option Fun
function_in [] w = None
function_in (f ∷ fs) w = if is_same w (name_of f) then Some f else function_in fs w

-- the first of two, where it is there, else the second
abbrev pub either_function : Option Fun → Option Fun → Option Fun
either_function (Some f) o = Some f
either_function None o = o

-- the function of a name
abbrev pub function_of : List ℕ → Option Fun
function_of w = either_function (function_in first_functions w) (function_in second_functions w)

-- letters with which `not` or a name begins, where these may stand
abbrev pub is_begun : Bool → Bool → List ℕ → Bool
is_begun nots room w =
    if (if room then begins_name w else false) then true else if nots then is_front w not_word else false

-- a word with one letter more, where such a word begins so
abbrev pub word_byte : Bool → List ℕ → ℕ → ℕ → List Pending → List Call → Option State
word_byte nots w b o k cs =
    if is_begun nots (has_room cs) (w ++ b ∷ []) then Some (state (Word nots (w ++ b ∷ [])) b o k cs) else None

-- a place in a number
abbrev pub numbered : Option Figures → ℕ → ℕ → List Pending → List Call → Option State
numbered None b o k cs = None
numbered (Some f) b o k cs = Some (state (Number f) b o k cs)

-- a sign in front of an operand
abbrev pub signed : ℕ → ℕ → List Pending → List Call → Option State
signed b o k cs = if nat_le (floor k) 7 then Some (state Operand b o (Waits Negated ∷ k) cs) else None

-- the first byte of an operand
abbrev pub operand : ℕ → ℕ → List Pending → List Call → ℕ → Option State
operand l o k cs b =
    if nat_le b 57 then
    (if nat_le 48 b then numbered (first_figure greatest_number b) b o k cs
    else if b == 40 then opened o k cs
    else if b == 45 then signed b o k cs
    else None)
    else word_byte (if is_gap l then nat_le (floor k) 6 else false) [] b o k cs

-- a blank before an operand, or its first byte
abbrev pub blank_or : ℕ → ℕ → List Pending → List Call → ℕ → Option State
blank_or l o k cs b = if is_blank b then Some (state Operand b o k cs) else operand l o k cs b

-- behind `and`, `or` and `not` a blank or a parenthesis
abbrev pub behind_word : ℕ → List Pending → List Call → ℕ → Option State
behind_word o k cs b = if is_blank b then Some (state Operand b o k cs) else if b == 40 then opened o k cs else None

-- an operator that waits on top of what is left, with its left operand
abbrev pub pushed : Op → List Pending × Tree → List Pending
pushed op r = Waits (Left op r.1) ∷ r.0

-- what waits behind an operator
abbrev pub with_op : Op → Tree → List Pending → List Pending
with_op op e k = pushed op (reduced (op_level op) k e)

-- what waits loses its innermost parenthesis, where that is next
abbrev pub shut : ℕ → List Pending × Tree → List Call → Option State
shut o ([], e) cs = None
shut o (Waits h ∷ k, e) cs = None
shut zero (Open ∷ k, e) cs = None
shut (suc o) (Open ∷ k, e) cs = Some (state (Done e) 41 o k cs)

-- `)` behind an operand
abbrev pub closed : Tree → ℕ → List Pending → List Call → Option State
closed e o k cs = shut o (reduced 0 k e) cs

-- the operator that is this byte alone and begins no other
abbrev pub simple_op : ℕ → Option Op
simple_op b =
    if b == 43 then Some Add else if b == 45 then Some Sub else if b == 42 then Some Mul else if b == 47 then Some Div
    else if b == 61 then Some Eq else None

-- the first letter of `and` or `or`, behind a blank or a parenthesis
abbrev pub joint : ℕ → Op → Rest → Tree → ℕ → ℕ → List Pending → List Call → Option State
joint l op rest e b o k cs = if is_gap l then Some (state (Joint op rest e) b o k cs) else None

-- other bytes behind an operand
abbrev pub behind_other : Tree → ℕ → ℕ → List Pending → List Call → ℕ → Option Op → Option State
behind_other e l o k cs b (Some op) = Some (state Operand b o (with_op op e k) cs)
behind_other e l o k cs b None =
    if b == 60 then Some (state (Less e) b o k cs)
    else if b == 62 then Some (state (Greater e) b o k cs)
    else if b == 111 then joint l Or R e b o k cs
    else if b == 97 then joint l And Nd e b o k cs
    else None

-- a byte behind an operand
abbrev pub behind : Tree → ℕ → ℕ → List Pending → List Call → ℕ → Option State
behind e l o k cs b =
    if is_blank b then Some (state (Done e) b o k cs)
    else if b == 41 then closed e o k cs
    else behind_other e l o k cs b (simple_op b)

-- a byte behind `<`
abbrev pub behind_less : Tree → ℕ → ℕ → List Pending → List Call → ℕ → Option State
behind_less e l o k cs b =
    if b == 61 then Some (state Operand b o (with_op Le e k) cs)
    else if b == 62 then Some (state Operand b o (with_op Ne e k) cs)
    else blank_or l o (with_op Lt e k) cs b

-- a byte behind `>`
abbrev pub behind_greater : Tree → ℕ → ℕ → List Pending → List Call → ℕ → Option State
behind_greater e l o k cs b =
    if b == 61 then Some (state Operand b o (with_op Ge e k) cs)
    else blank_or l o (with_op Gt e k) cs b

-- the letter that is wanted next of `and` or `or`
abbrev pub joint_on : ℕ → Rest → Op → Tree → ℕ → List Pending → List Call → ℕ → Option State
joint_on want next op e o k cs b = if b == want then Some (state (Joint op next e) b o k cs) else None

-- a byte of `and` or `or`, or behind it
abbrev pub joint_byte : Op → Rest → Tree → ℕ → List Pending → List Call → ℕ → Option State
joint_byte op Nd e o k cs b = joint_on 110 D op e o k cs b
joint_byte op D e o k cs b = joint_on 100 Nothing op e o k cs b
joint_byte op R e o k cs b = joint_on 114 Nothing op e o k cs b
joint_byte op Nothing e o k cs b = behind_word o (with_op op e k) cs b

-- `(` behind `not`
abbrev pub denied : List ℕ → Bool → ℕ → List Pending → List Call → Option State
denied w nots o k cs = if nots then (if is_not w then opened o (Waits Denied ∷ k) cs else None) else None

-- `(` behind the name of a function
abbrev pub calling : Fun → ℕ → List Pending → List Call → State
calling f o k cs = if is_dated f then state (Close (plain_call f [] [])) 40 o k cs else state (Slash f) 40 o k cs

-- the parenthesis behind a word: a call, where the word is the name of a function, else perhaps `not`
abbrev pub called : Option Fun → Bool → List ℕ → ℕ → List Pending → List Call → Option State
called (Some f) nots w o k cs = Some (calling f o k cs)
called None nots w o k cs = denied w nots o k cs

-- a byte behind the first letters of a word
abbrev pub word : Bool → List ℕ → ℕ → List Pending → List Call → ℕ → Option State
word nots w o k cs b =
    if b == 40 then called (if has_room cs then function_of w else None) nots w o k cs
    else if is_blank b then
    (if nots then (if is_not w then Some (state Operand b o (Waits Denied ∷ k) cs) else None) else None)
    else word_byte nots w b o k cs

-- a byte behind a number that ends there, none where it may not end
abbrev pub number_end : Option ℕ → ℕ → ℕ → List Pending → List Call → ℕ → Option State
number_end None l o k cs b = None
number_end (Some n) l o k cs b = if nat_le n greatest_number then behind (constant (pos n)) l o k cs b else None

-- a byte behind the first ones of a number
abbrev pub number : Figures → ℕ → ℕ → List Pending → List Call → ℕ → Option State
number f l o k cs b =
    if is_figure b then numbered (figure greatest_number f b) b o k cs else number_end (figures_value f) l o k cs b

-- a byte of a host's name, or the slash behind it
abbrev pub host : Fun → List ℕ → ℕ → List Pending → List Call → ℕ → Option State
host f h o k cs b =
    if is_host_name_byte b then
    (if nat_lt (length h) longest_name then Some (state (Host f (h ++ b ∷ [])) b o k cs) else None)
    else if b == 47 then (if nat_lt 0 (length h) then Some (state (Key f h [] Start Whole) b o k cs) else None)
    else None

-- the call is whole
abbrev pub ended : Call → ℕ → List Pending → List Call → Option State
ended c o k cs = if has_room cs then Some (state (Done (call (length cs))) 41 o k (cs ++ c ∷ [])) else None

-- behind a comma the next argument, where the function takes one more
abbrev pub next_slot : Call → List Slot → ℕ → List Pending → List Call → Option State
next_slot c [] o k cs = None
next_slot c (s ∷ ss) o k cs = Some (state (Argument true c s ss Before) 44 o k cs)

-- what ends the key or an argument: a comma or a parenthesis
abbrev pub delivered : Call → List Slot → ℕ → List Pending → List Call → ℕ → Option State
delivered c ss o k cs b =
    if b == 44 then next_slot c ss o k cs
    else if b == 41 then (if all_absent ss then ended c o k cs else None)
    else None

-- a comma or the parenthesis that ends a call
abbrev pub is_delimiter : ℕ → Bool
is_delimiter b = if b == 44 then true else b == 41

-- the key with one byte more, where its grammar and its characters go on
abbrev pub key_more : Fun → List ℕ → List ℕ → Option Place → Option Character → ℕ → List Pending → List Call → ℕ
    → Option State
key_more f h t None u o k cs b = None
key_more f h t (Some place) None o k cs b = None
key_more f h t (Some place) (Some u) o k cs b = Some (state (Key f h (t ++ b ∷ []) place u) b o k cs)

-- one byte more of a key; the limit isn't looked at where the byte is free of it
abbrev pub key_on : Bool → Fun → List ℕ → List ℕ → Place → Character → ℕ → List Pending → List Call → ℕ → Option State
key_on free f h t place u o k cs b =
    if free then key_more f h t (key.step place b) (follow u b) o k cs b
    else if nat_lt (length t) longest_key then key_more f h t (key.step place b) (follow u b) o k cs b else None

-- what stands behind the key, where host and key are characters
abbrev pub key_end : Fun → List ℕ → List ℕ → ℕ → List Pending → List Call → ℕ → Option State
key_end f h t o k cs b =
    if is_utf8 h then (if is_utf8 t then delivered (plain_call f h t) (slots f) o k cs b else None) else None

-- a byte of a key, or what ends it
abbrev pub key_byte : Bool → Fun → List ℕ → List ℕ → Place → Character → ℕ → List Pending → List Call → ℕ → Option State
key_byte free f h t place u o k cs b =
    if is_delimiter b then (if key.ends place then key_end f h t o k cs b else key_on free f h t place u o k cs b)
    else key_on free f h t place u o k cs b

-- the place behind one byte more of an argument, where there is one
abbrev pub argument_on : Option Part → Call → Slot → List Slot → ℕ → List Pending → List Call → ℕ → Option State
argument_on None c s ss o k cs b = None
argument_on (Some q) c s ss o k cs b = Some (state (Argument false c s ss q) b o k cs)

-- what stands behind a text, where it is characters
abbrev pub said : List ℕ → Call → Slot → List Slot → ℕ → List Pending → List Call → ℕ → Option State
said t c s ss o k cs b = if is_utf8 t then delivered (put s (Said t) c) ss o k cs b else None

-- what stands behind an argument
abbrev pub argument_end : Option Value → Call → Slot → List Slot → Part → ℕ → List Pending → List Call → ℕ
    → Option State
argument_end None c s ss p o k cs b = argument_on (part s p b) c s ss o k cs b
argument_end (Some (Ranged r n)) c s ss p o k cs b = delivered (put_range r n c) ss o k cs b
argument_end (Some (Said t)) c s ss p o k cs b = said t c s ss o k cs b

-- a byte of an argument, or what ends it
abbrev pub argument_byte : Call → Slot → List Slot → Part → ℕ → List Pending → List Call → ℕ → Option State
argument_byte c s ss p o k cs b =
    if is_delimiter b then argument_end (part_value s p) c s ss p o k cs b
    else argument_on (part s p b) c s ss o k cs b

-- a byte of an argument, or a blank before it
abbrev pub argument : Bool → Call → Slot → List Slot → Part → ℕ → List Pending → List Call → ℕ → Option State
argument true c s ss p o k cs b =
    if is_blank b then Some (state (Argument true c s ss p) b o k cs) else argument_byte c s ss p o k cs b
argument false c s ss p o k cs b = argument_byte c s ss p o k cs b

-- the slash before a host
abbrev pub slash : Fun → ℕ → List Pending → List Call → ℕ → Option State
slash f o k cs b = if b == 47 then Some (state (Host f []) b o k cs) else None

-- the parenthesis that ends the call of a date function
abbrev pub close : Call → ℕ → List Pending → List Call → ℕ → Option State
close c o k cs b = if b == 41 then ended c o k cs else None

-- the state behind one byte more
abbrev pub move : Bool → Mode → ℕ → ℕ → List Pending → List Call → ℕ → Option State
move free Begin l o k cs b = operand l o k cs b
move free Operand l o k cs b = blank_or l o k cs b
move free (Word nots w) l o k cs b = word nots w o k cs b
move free (Number f) l o k cs b = number f l o k cs b
move free (Slash f) l o k cs b = slash f o k cs b
move free (Host f h) l o k cs b = host f h o k cs b
move free (Key f h t place u) l o k cs b = key_byte free f h t place u o k cs b
move free (Argument fresh c s ss p) l o k cs b = argument fresh c s ss p o k cs b
move free (Close c) l o k cs b = close c o k cs b
move free (Done e) l o k cs b = behind e l o k cs b
move free (Less e) l o k cs b = behind_less e l o k cs b
move free (Greater e) l o k cs b = behind_greater e l o k cs b
move free (Joint op rest e) l o k cs b = joint_byte op rest e o k cs b

-- the state behind one byte; a free byte isn't held to the limit of keys
abbrev pub step : Bool → State → ℕ → Option State
step free s b = move free s.mode s.last s.open_ones s.stack s.calls b

-- the same, where there is a state
abbrev pub go : Bool → Option State → ℕ → Option State
go free None b = None
go free (Some s) b = step free s b

-- the number is 0
abbrev pub is_zero : ℕ → Bool
is_zero zero = true
is_zero (suc n) = false

-- the state behind some bytes more, of which so many are held to the limit of keys
unfoldable pub after : ℕ → Option State → List ℕ → Option State
after n o [] = o
after n o (b ∷ bs) = after (one_less n) (go (is_zero n) o b) bs

-- the state before the first byte
abbrev pub start : State
start = state Begin 40 0 [] []

-- the constant of so many millionths, where they are in range
abbrev pub constant_of : Option ℕ → Option Tree
constant_of None = None
constant_of (Some n) = if nat_le n greatest_number then Some (constant (pos n)) else None

-- the operand that is there
abbrev pub held : Mode → Option Tree
held Begin = None
held Operand = None
held (Word nots w) = None
held (Number f) = constant_of (figures_value f)
held (Slash f) = None
held (Host f h) = None
held (Key f h t place u) = None
held (Argument fresh c s ss p) = None
held (Close c) = None
held (Done e) = Some e
held (Less e) = None
held (Greater e) = None
held (Joint op rest e) = None

-- the expression and its calls, where nothing waits
abbrev pub whole : List Pending × Tree → List Call → Option (Tree × List Call)
whole ([], e) cs = Some (e, cs)
whole (p ∷ k, e) cs = None

-- the expression and its calls, of the operand that is there; a text doesn't end with a blank
abbrev pub ends_by : Option Tree → ℕ → List Pending → List Call → Option (Tree × List Call)
ends_by None l k cs = None
ends_by (Some e) l k cs = if is_blank l then None else whole (reduced 0 k e) cs

-- the expression and its calls, where the text may end in this state
abbrev pub ends : State → Option (Tree × List Call)
ends s = ends_by (held s.mode) s.last s.stack s.calls

-- the same, where there is a state
abbrev pub ends_at : Option State → Option (Tree × List Call)
ends_at None = None
ends_at (Some s) = ends s
