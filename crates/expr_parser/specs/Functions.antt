-- The functions of expressions, by name, and the arguments that each takes.
use Rattle.std.specs.Prelude.{ℕ, List, [], ◌∷◌, Option, Some, None, Bool, true, false, codes}
use Rattle.zbx_types.specs.declared.calls.Fun.{Fun}
use Rattle.zbx_types.specs.declared.calls.Fun.TheVariants.{Last, First, Min, Max, Avg, Sum, Change, Count, Find, NoData}
use Rattle.zbx_types.specs.declared.calls.Fun.TheVariants.{Percentile, ChangeCount, MonoInc, MonoDec, Now, Time, Date}
use Rattle.zbx_types.specs.declared.calls.Fun.TheVariants.{DayOfWeek, DayOfMonth}
use Rattle.zbx_types.specs.declared.calls.Range.{Range}
use Rattle.zbx_types.specs.declared.calls.Range.TheVariants.{Count as Latest}
use Rattle.expr_parser.specs.declared.slots.Words.{Words}
use Rattle.expr_parser.specs.declared.slots.Words.TheVariants.{Operators, Directions, Strengths}
use Rattle.expr_parser.specs.declared.slots.Slot.{Slot}
use Rattle.expr_parser.specs.declared.slots.Slot.TheVariants.{Newest, Span, MaybeSpan, Silence, Word, Percent, Free}

-- the name of a function
abbrev pub name_of : Fun → List ℕ
name_of Last = codes "last"
name_of First = codes "first"
name_of Min = codes "min"
name_of Max = codes "max"
name_of Avg = codes "avg"
name_of Sum = codes "sum"
name_of Change = codes "change"
name_of Count = codes "count"
name_of Find = codes "find"
name_of NoData = codes "nodata"
name_of Percentile = codes "percentile"
name_of ChangeCount = codes "changecount"
name_of MonoInc = codes "monoinc"
name_of MonoDec = codes "monodec"
name_of Now = codes "now"
name_of Time = codes "time"
name_of Date = codes "date"
name_of DayOfWeek = codes "dayofweek"
name_of DayOfMonth = codes "dayofmonth"

-- `#n` may stand there
abbrev pub takes_count : Slot → Bool
takes_count Newest = true
takes_count Span = true
takes_count MaybeSpan = true
takes_count Silence = false
takes_count (Word ws) = false
takes_count Percent = false
takes_count Free = false

-- the least seconds of a period there, none where no period may stand
abbrev pub least_period : Slot → Option ℕ
least_period Newest = None
least_period Span = Some 1
least_period MaybeSpan = Some 1
least_period Silence = Some 30
least_period (Word ws) = None
least_period Percent = None
least_period Free = None

-- the words of an argument; the empty text stands for an absent one
abbrev pub word_list : Words → List (List ℕ)
word_list Operators =
    [] ∷ codes "eq" ∷ codes "ne" ∷ codes "gt" ∷ codes "ge" ∷ codes "lt" ∷ codes "le" ∷ codes "like" ∷ codes "regexp"
    ∷ codes "iregexp" ∷ []
word_list Directions = [] ∷ codes "all" ∷ codes "inc" ∷ codes "dec" ∷ []
word_list Strengths = [] ∷ codes "weak" ∷ codes "strict" ∷ []

-- the arguments of a function behind the item, in order
abbrev pub slots : Fun → List Slot
slots Last = Newest ∷ []
slots First = Span ∷ []
slots Min = Span ∷ []
slots Max = Span ∷ []
slots Avg = Span ∷ []
slots Sum = Span ∷ []
slots Change = []
slots Count = Span ∷ Word Operators ∷ Free ∷ []
slots Find = MaybeSpan ∷ Word Operators ∷ Free ∷ []
slots NoData = Silence ∷ []
slots Percentile = Span ∷ Percent ∷ []
slots ChangeCount = Span ∷ Word Directions ∷ []
slots MonoInc = Span ∷ Word Strengths ∷ []
slots MonoDec = Span ∷ Word Strengths ∷ []
slots Now = []
slots Time = []
slots Date = []
slots DayOfWeek = []
slots DayOfMonth = []

-- the range where none is written: `#1`, and `#2` of change
abbrev pub default_range : Fun → Range
default_range Change = Latest 2
default_range Last = Latest 1
default_range First = Latest 1
default_range Min = Latest 1
default_range Max = Latest 1
default_range Avg = Latest 1
default_range Sum = Latest 1
default_range Count = Latest 1
default_range Find = Latest 1
default_range NoData = Latest 1
default_range Percentile = Latest 1
default_range ChangeCount = Latest 1
default_range MonoInc = Latest 1
default_range MonoDec = Latest 1
default_range Now = Latest 1
default_range Time = Latest 1
default_range Date = Latest 1
default_range DayOfWeek = Latest 1
default_range DayOfMonth = Latest 1
