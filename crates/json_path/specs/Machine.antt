-- Paths byte by byte: what each front of a path has come to.
use Rattle.std.specs.Prelude.{ℕ, ℤ, List, [], ◌∷◌, ◌++◌, Option, Some, None, Bool, true, false, ◌==◌, nat_eq}
use Rattle.std.specs.Prelude.{if◌then◌else◌, codes}
use Rattle.std.specs.Cmp.Lexicographic.{pointwise}
use Rattle.byte_grammar.specs.Bytes.{is_digit}
use Rattle.json_path.specs.Grammar.{is_name_byte}
use Rattle.json_path.specs.Tokens.{unspelt, spell, checked, quote, begin_quote, digit, begin_integer, integer}
use Rattle.json_path.specs.Tokens.{number_on, numeral, begin_part}
use Rattle.json_path.specs.declared.path.Path.{Path}
use Rattle.json_path.specs.declared.path.Segment.{Segment}
use Rattle.json_path.specs.declared.path.Selector.{Selector}
use Rattle.json_path.specs.declared.path.Selector.TheVariants.{Names, Indexes, Slice, All, Where}
use Rattle.json_path.specs.declared.path.Condition.{Condition}
use Rattle.json_path.specs.declared.path.Comparison.{Comparison}
use Rattle.json_path.specs.declared.path.Comparison.TheVariants.{Eq, Ne, Le, Ge, Lt, Gt}
use Rattle.json_path.specs.declared.path.Literal.TheVariants.{Words, Number}
use Rattle.json_path.specs.declared.path.Function.{Function}
use Rattle.json_path.specs.declared.path.Function.TheVariants.{Length, First, Min, Max, Sum, Avg}
use Rattle.json_path.specs.declared.tokens.Spelling.{Spelling}
use Rattle.json_path.specs.declared.tokens.Quotation.{Quotation}
use Rattle.json_path.specs.declared.tokens.Quoting.{Quoting}
use Rattle.json_path.specs.declared.tokens.Quoting.TheVariants as quoting
use Rattle.json_path.specs.declared.integers.Digits.{Digits}
use Rattle.json_path.specs.declared.numbers.Numeral.{Numeral}
use Rattle.json_path.specs.declared.numbers.Numbering.{Numbering}
use Rattle.json_path.specs.declared.numbers.Numbering.TheVariants as numbering
use Rattle.json_path.specs.declared.conditions.Checking.{Checking}
use Rattle.json_path.specs.declared.conditions.Checking.TheVariants as at
use Rattle.json_path.specs.declared.conditions.Checked.{Checked}
use Rattle.json_path.specs.declared.conditions.Checked.TheVariants as checked
use Rattle.json_path.specs.declared.brackets.InBrackets.{InBrackets}
use Rattle.json_path.specs.declared.brackets.InBrackets.TheVariants as within
use Rattle.json_path.specs.declared.brackets.Chosen.{Chosen}
use Rattle.json_path.specs.declared.brackets.Chosen.TheVariants as chosen
use Rattle.json_path.specs.declared.places.Place.{Place}
use Rattle.json_path.specs.declared.places.Place.TheVariants as place
use Rattle.json_path.specs.declared.places.State.{State}

-- behind what a condition looks at
abbrev pub behind_member : List (List ℕ) → ℕ → Checked
behind_member ns b =
    if b == 32 then checked.Open (at.Member ns) else if b == 46 then checked.Open (at.Point ns)
    else if b == 91 then checked.Open (at.Bracket ns) else if b == 61 then checked.Open (at.Equal ns)
    else if b == 33 then checked.Open (at.Not ns) else if b == 60 then checked.Open (at.Less ns)
    else if b == 62 then checked.Open (at.Greater ns) else checked.Wrong

-- in a name of a condition
abbrev pub name_goes : List (List ℕ) → Option Spelling → Checked
name_goes ns None = checked.Wrong
name_goes ns (Some s) = checked.Open (at.Name ns s)

-- where a name of a condition ends at a byte: what stands behind it, if the name is one
abbrev pub name_ends : List (List ℕ) → ℕ → Option (List ℕ) → Checked
name_ends ns b None = checked.Wrong
name_ends ns b (Some w) = behind_member (ns ++ w ∷ []) b

-- in a quoted name of a condition
abbrev pub bracket_begins : List (List ℕ) → Option Quotation → Checked
bracket_begins ns None = checked.Wrong
bracket_begins ns (Some q) = checked.Open (at.Quote ns q)

-- what a byte has made of a quoted name of a condition: it goes on, or one name more is whole, or it is wrong
abbrev pub bracket_goes : List (List ℕ) → Quoting → Checked
bracket_goes ns (quoting.Open q) = checked.Open (at.Quote ns q)
bracket_goes ns (quoting.Closed w) = checked.Open (at.Bracketed (ns ++ w ∷ []))
bracket_goes ns quoting.Wrong = checked.Wrong

-- where a literal may begin
abbrev pub number_begins : List (List ℕ) → Comparison → Option Numeral → Checked
number_begins ns op None = checked.Wrong
number_begins ns op (Some n) = checked.Open (at.Numbered ns op n)

-- a literal begins with a quote, or else with the first byte of a number
abbrev pub literal_begins : List (List ℕ) → Comparison → ℕ → Option Quotation → Checked
literal_begins ns op b (Some q) = checked.Open (at.Quoted ns op q)
literal_begins ns op b None = number_begins ns op (numeral [] b (begin_part b))

-- what a byte does behind a comparison: spaces pass, and any other byte begins the literal
abbrev pub operand : List (List ℕ) → Comparison → ℕ → Checked
operand ns op b = if b == 32 then checked.Open (at.Operand ns op) else literal_begins ns op b (begin_quote b)

-- behind a whole condition
abbrev pub behind_literal : Condition → ℕ → Checked
behind_literal c b = if b == 32 then checked.Open (at.Compared c) else if b == 41 then checked.Met c else checked.Wrong

-- in a literal
abbrev pub words_go : List (List ℕ) → Comparison → Quoting → Checked
words_go ns op (quoting.Open q) = checked.Open (at.Quoted ns op q)
words_go ns op (quoting.Closed w) = checked.Open (at.Compared (record { names = ns; op = op; literal = Words w }))
words_go ns op quoting.Wrong = checked.Wrong

-- where a number ends at a byte: the condition is whole, if the number is one
abbrev pub number_ends : List (List ℕ) → Comparison → ℕ → Option (List ℕ) → Checked
number_ends ns op b None = checked.Wrong
number_ends ns op b (Some w) = behind_literal (record { names = ns; op = op; literal = Number w }) b

-- what a byte has made of a number of a condition: it goes on, or it has ended before that byte
abbrev pub number_goes : List (List ℕ) → Comparison → ℕ → Numbering → Checked
number_goes ns op b (numbering.Going n) = checked.Open (at.Numbered ns op n)
number_goes ns op b (numbering.Ended w) = number_ends ns op b w

-- what a byte does to a condition
abbrev pub check : Checking → ℕ → Checked
check at.Before b =
    if b == 32 then checked.Open at.Before else if b == 64 then checked.Open (at.Member []) else checked.Wrong
check (at.Member ns) b = behind_member ns b
check (at.Point ns) b =
    if b == 32 then checked.Open (at.Point ns) else if is_name_byte b then name_goes ns (spell unspelt b)
    else checked.Wrong
check (at.Name ns s) b = if is_name_byte b then name_goes ns (spell s b) else name_ends ns b (checked s.bytes)
check (at.Bracket ns) b = if b == 32 then checked.Open (at.Bracket ns) else bracket_begins ns (begin_quote b)
check (at.Quote ns q) b = bracket_goes ns (quote q b)
check (at.Bracketed ns) b =
    if b == 32 then checked.Open (at.Bracketed ns) else if b == 93 then checked.Open (at.Member ns) else checked.Wrong
check (at.Equal ns) b = if b == 61 then checked.Open (at.Operand ns Eq) else checked.Wrong
check (at.Not ns) b = if b == 61 then checked.Open (at.Operand ns Ne) else checked.Wrong
check (at.Less ns) b = if b == 61 then checked.Open (at.Operand ns Le) else operand ns Lt b
check (at.Greater ns) b = if b == 61 then checked.Open (at.Operand ns Ge) else operand ns Gt b
check (at.Operand ns op) b = operand ns op b
check (at.Quoted ns op q) b = words_go ns op (quote q b)
check (at.Numbered ns op n) b = number_goes ns op b (number_on n b)
check (at.Compared c) b = behind_literal c b

-- behind a whole selector
abbrev pub behind_selector : Selector → ℕ → Chosen
behind_selector s b =
    if b == 32 then chosen.Open (within.Whole s) else if b == 93 then chosen.Closed s else chosen.Wrong

-- behind the integers of a list: a colon may follow one alone
abbrev pub colon : List ℤ → Chosen
colon [] = chosen.Wrong
colon (i ∷ []) = chosen.Open (within.From (Some i))
colon (i ∷ j ∷ is) = chosen.Wrong

-- behind an integer of a list: a comma, a colon, or the bracket that ends the selector
abbrev pub behind_integers : List ℤ → ℕ → Chosen
behind_integers is b =
    if b == 32 then chosen.Open (within.Counted is) else if b == 44 then chosen.Open (within.NextIndex is)
    else if b == 58 then colon is else if b == 93 then chosen.Closed (Indexes is) else chosen.Wrong

-- in a quoted name
abbrev pub quote_begins : List (List ℕ) → Option Quotation → Chosen
quote_begins ns None = chosen.Wrong
quote_begins ns (Some q) = chosen.Open (within.Quote ns q)

-- what a byte has made of a quoted name: it goes on, or one name more is whole, or it is wrong
abbrev pub quote_goes : List (List ℕ) → Quoting → Chosen
quote_goes ns (quoting.Open q) = chosen.Open (within.Quote ns q)
quote_goes ns (quoting.Closed w) = chosen.Open (within.Named (ns ++ w ∷ []))
quote_goes ns quoting.Wrong = chosen.Wrong

-- in an integer of a list
abbrev pub integer_goes : List ℤ → Option Digits → Chosen
integer_goes is None = chosen.Wrong
integer_goes is (Some n) = chosen.Open (within.Index is n)

-- in the end of a slice
abbrev pub bound_goes : Option ℤ → Option Digits → Chosen
bound_goes from None = chosen.Wrong
bound_goes from (Some n) = chosen.Open (within.To from n)

-- in a condition
abbrev pub condition_goes : Checked → Chosen
condition_goes (checked.Open c) = chosen.Open (within.Condition c)
condition_goes (checked.Met c) = chosen.Open (within.Whole (Where c))
condition_goes checked.Wrong = chosen.Wrong

-- where a selector may begin
abbrev pub selector_begins : ℕ → Option Quotation → Chosen
selector_begins b (Some q) = chosen.Open (within.Quote [] q)
selector_begins b None =
    if b == 42 then chosen.Open (within.Whole All) else if b == 63 then chosen.Open within.Question
    else if b == 58 then chosen.Open (within.From None) else integer_goes [] (begin_integer b)

-- what a byte does to a selector
abbrev pub choose : InBrackets → ℕ → Chosen
choose within.Before b = if b == 32 then chosen.Open within.Before else selector_begins b (begin_quote b)
choose (within.Quote ns q) b = quote_goes ns (quote q b)
choose (within.Named ns) b =
    if b == 44 then chosen.Open (within.NextName ns) else if b == 32 then chosen.Open (within.Named ns)
    else if b == 93 then chosen.Closed (Names ns) else chosen.Wrong
choose (within.NextName ns) b = if b == 32 then chosen.Open (within.NextName ns) else quote_begins ns (begin_quote b)
choose (within.Index is n) b =
    if is_digit b then integer_goes is (digit n b) else if n.any then behind_integers (is ++ integer n ∷ []) b
    else chosen.Wrong
choose (within.Counted is) b = behind_integers is b
choose (within.NextIndex is) b =
    if b == 32 then chosen.Open (within.NextIndex is) else integer_goes is (begin_integer b)
choose (within.From from) b =
    if b == 32 then chosen.Open (within.From from) else if b == 93 then chosen.Closed (Slice from None)
    else bound_goes from (begin_integer b)
choose (within.To from n) b =
    if is_digit b then bound_goes from (digit n b) else if n.any then behind_selector (Slice from (Some (integer n))) b
    else chosen.Wrong
choose within.Question b = if b == 40 then chosen.Open (within.Condition at.Before) else chosen.Wrong
choose (within.Condition c) b = condition_goes (check c b)
choose (within.Whole s) b = behind_selector s b

-- the state with these segments
abbrev pub state : List Segment → Place → State
state done place = record { done = done; place = place }

-- a segment
abbrev pub segment : Bool → Selector → Segment
segment deep s = record { deep = deep; selector = s }

-- behind a whole segment
abbrev pub behind_segment : List Segment → ℕ → Option State
behind_segment done b =
    if b == 46 then Some (state done place.Point)
    else if b == 91 then Some (state done (place.Inside false within.Before)) else None

-- in a name
abbrev pub member_goes : List Segment → Bool → Option Spelling → Option State
member_goes done deep None = None
member_goes done deep (Some s) = Some (state done (place.Name deep s))

-- where a name ends at a byte: its segment is whole, if the name is one
abbrev pub member_ends : List Segment → Bool → ℕ → Option (List ℕ) → Option State
member_ends done deep b None = None
member_ends done deep b (Some w) = behind_segment (done ++ segment deep (Names (w ∷ [])) ∷ []) b

-- the function of a name
abbrev pub function_of : List ℕ → Option Function
function_of bs =
    if pointwise nat_eq bs (codes "length") then Some Length else if pointwise nat_eq bs (codes "first") then Some First
    else if pointwise nat_eq bs (codes "min") then Some Min else if pointwise nat_eq bs (codes "max") then Some Max
    else if pointwise nat_eq bs (codes "sum") then Some Sum else if pointwise nat_eq bs (codes "avg") then Some Avg
    else None

-- behind the `(` of a function, if the name is that of one
abbrev pub call_begins : List Segment → Option Function → Option State
call_begins done None = None
call_begins done (Some f) = Some (state done (place.Call f))

-- behind the name of a segment: `(` makes it the name of a function
abbrev pub behind_name : List Segment → Bool → List ℕ → ℕ → Option State
behind_name done deep bytes b =
    if b == 40 then (if deep then None else call_begins done (function_of bytes))
    else member_ends done deep b (checked bytes)

-- in brackets
abbrev pub selector_goes : List Segment → Bool → Chosen → Option State
selector_goes done deep (chosen.Open w) = Some (state done (place.Inside deep w))
selector_goes done deep (chosen.Closed s) = Some (state (done ++ segment deep s ∷ []) place.Behind)
selector_goes done deep chosen.Wrong = None

-- behind one point or two
abbrev pub behind_points : List Segment → Bool → ℕ → Option State
behind_points done deep b =
    if b == 42 then Some (state (done ++ segment deep All ∷ []) place.Behind)
    else if is_name_byte b then member_goes done deep (spell unspelt b) else None

-- the state behind one byte more, none where no path goes on with it
abbrev pub step_from : List Segment → Place → ℕ → Option State
step_from done place.Start b = if b == 36 then Some (state done place.Behind) else None
step_from done place.Behind b = behind_segment done b
step_from done place.Point b = if b == 46 then Some (state done place.Points) else behind_points done false b
step_from done place.Points b =
    if b == 91 then Some (state done (place.Inside true within.Before)) else behind_points done true b
step_from done (place.Name deep s) b =
    if is_name_byte b then member_goes done deep (spell s b) else behind_name done deep s.bytes b
step_from done (place.Inside deep w) b = selector_goes done deep (choose w b)
step_from done (place.Call f) b = if b == 41 then Some (state done (place.Called f)) else None
step_from done (place.Called f) b = None

-- the same of a state as one
abbrev pub step : State → ℕ → Option State
step s b = step_from s.done s.place b

-- the path of a text that ends in this state
abbrev pub path_of : List Segment → Option Function → Option Path
path_of done f = Some (record { segments = done; function = f })

-- the path of a text that ends in a name, if the name is one
abbrev pub named_path : List Segment → Bool → Option (List ℕ) → Option Path
named_path done deep None = None
named_path done deep (Some w) = path_of (done ++ segment deep (Names (w ∷ [])) ∷ []) None

-- the path of a text that ends at a place behind these segments, none where a path can't end there
abbrev pub ends_from : List Segment → Place → Option Path
ends_from done place.Start = None
ends_from done place.Behind = path_of done None
ends_from done place.Point = None
ends_from done place.Points = None
ends_from done (place.Name deep s) = named_path done deep (checked s.bytes)
ends_from done (place.Inside deep w) = None
ends_from done (place.Call f) = None
ends_from done (place.Called f) = path_of done (Some f)

-- the same of a state as one
abbrev pub ends : State → Option Path
ends s = ends_from s.done s.place

-- where a text begins
abbrev pub start : State
start = state [] place.Start
