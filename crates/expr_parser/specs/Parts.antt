-- Arguments byte by byte.
use Rattle.std.specs.Prelude.{ℕ, zero, suc, ◌+◌, ◌*◌, ◌-◌, List, [], ◌∷◌, ◌++◌, Option, Some, None, Bool, true, false}
use Rattle.std.specs.Prelude.{◌==◌, nat_le, if◌then◌else◌}
use Rattle.std.specs.Option.{option_map}
use Rattle.zbx_types.specs.declared.calls.Range.{Range}
use Rattle.zbx_types.specs.declared.calls.Range.TheVariants.{Count, Period}
use Rattle.byte_grammar.specs.Bytes.{is_digit}
use Rattle.byte_grammar.specs.declared.characters.Character.{Character}
use Rattle.byte_grammar.specs.declared.characters.Character.TheVariants.{Whole}
use Rattle.zbx_types.specs.Limits.{longest_range}
use Rattle.expr_parser.specs.declared.figures.Figures.{Figures}
use Rattle.expr_parser.specs.declared.slots.Slot.{Slot}
use Rattle.expr_parser.specs.declared.slots.Slot.TheVariants.{Newest, Span, MaybeSpan, Silence, Word, Percent, Free}
use Rattle.expr_parser.specs.declared.parts.Value.{Value}
use Rattle.expr_parser.specs.declared.parts.Value.TheVariants.{Ranged, Said}
use Rattle.expr_parser.specs.declared.parts.Ahead.{Ahead}
use Rattle.expr_parser.specs.declared.parts.Ahead.TheVariants.{Now, Ow, W, Dash, Digits}
use Rattle.expr_parser.specs.declared.parts.Part.{Part}
use Rattle.expr_parser.specs.declared.parts.Part.TheVariants.{Before, Hash, Latest, Seconds, Spanned, Back, Shift}
use Rattle.expr_parser.specs.declared.parts.Part.TheVariants.{Shifted, Letters, Number, Opened, Quoted, Text, Slash}
use Rattle.expr_parser.specs.declared.parts.Part.TheVariants.{Closed}
use Rattle.expr_parser.specs.Numbers.{period_factor}
use Rattle.expr_parser.specs.Functions.{takes_count, least_period, word_list}
use Rattle.expr_parser.specs.Calls.{absent_value, number_limit, is_one_of, greatest_percent}
use Rattle.byte_grammar.specs.Utf8.{follow, is_whole}
use Rattle.expr_parser.specs.Figures.{first_figure, figure, figures_text, figures_value}

-- a text begins another
abbrev pub is_front : List ℕ → List ℕ → Bool
is_front [] t = true
is_front (b ∷ bs) [] = false
is_front (b ∷ bs) (c ∷ cs) = if b == c then is_front bs cs else false

-- it begins some word
abbrev pub begins_one : List (List ℕ) → List ℕ → Bool
begins_one [] t = false
begins_one (w ∷ ws) t = if is_front t w then true else begins_one ws t

-- the number with one digit more, up to the greatest
abbrev pub grown : ℕ → ℕ → ℕ → Option ℕ
grown most v b = if nat_le (v * 10 + (b - 48)) most then Some (v * 10 + (b - 48)) else None

-- the seconds of a period with a suffix, where it is then long and short enough
abbrev pub lasting : ℕ → ℕ → Option ℕ → Option ℕ
lasting least v None = None
lasting least v (Some f) =
    if nat_le least (v * f) then (if nat_le (v * f) longest_range then Some (v * f) else None) else None

-- the colon behind a range
abbrev pub colon : Slot → Range → ℕ → Option Part
colon s r b = if b == 58 then (if takes_count s then Some (Back Now r) else None) else None

-- a digit more of a period, a suffix, or the colon
abbrev pub second : Slot → ℕ → Option ℕ → ℕ → Option Part
second s v None b = None
second s v (Some least) b =
    if is_digit b then option_map Seconds (grown longest_range v b)
    else if b == 58 then (if nat_le least v then colon s (Period v) b else None)
    else option_map (λ n. Spanned (Period n)) (lasting least v (period_factor b))

-- the first digit of a period, where one may stand there
abbrev pub first_second : Option ℕ → ℕ → Option Part
first_second None b = None
first_second (Some least) b = if is_digit b then option_map Seconds (grown longest_range 0 b) else None

-- the first digit of a number, where one may stand there
abbrev pub first_number : Option ℕ → ℕ → Option Part
first_number None b = None
first_number (Some most) b = option_map Number (first_figure most b)

-- a byte more of a number
abbrev pub more_number : Option ℕ → Figures → ℕ → Option Part
more_number None f b = None
more_number (Some most) f b = option_map Number (figure most f b)

-- the first byte of a range
abbrev pub first_range : Slot → ℕ → Option Part
first_range s b = if b == 35 then (if takes_count s then Some Hash else None) else first_second (least_period s) b

-- the first byte of an argument
abbrev pub first_part : Slot → ℕ → Option Part
first_part Newest b = first_range Newest b
first_part Span b = first_range Span b
first_part MaybeSpan b = first_range MaybeSpan b
first_part Silence b = first_range Silence b
first_part (Word ws) b = if b == 34 then Some (Letters []) else None
first_part Percent b = if b == 34 then Some Opened else first_number (number_limit Percent) b
first_part Free b = if b == 34 then Some (Text [] Whole) else first_number (number_limit Free) b

-- a byte in a word in quotes
abbrev pub letter : Slot → List ℕ → ℕ → Option Part
letter (Word ws) w b =
    if b == 34 then (if is_one_of (word_list ws) w then Some (Closed w) else None)
    else if begins_one (word_list ws) (w ++ b ∷ []) then Some (Letters (w ++ b ∷ [])) else None
letter Newest w b = None
letter Span w b = None
letter MaybeSpan w b = None
letter Silence w b = None
letter Percent w b = None
letter Free w b = None

-- the quote behind a number
abbrev pub end_number : Option ℕ → List ℕ → Option Part
end_number None w = None
end_number (Some n) w = Some (Closed w)

-- a text in quotes with the character that it is in, where there is one
abbrev pub more_text : List ℕ → Option Character → Option Part
more_text v None = None
more_text v (Some u) = Some (Text v u)

-- a byte in a text in quotes
abbrev pub text_byte : List ℕ → Character → ℕ → Option Part
text_byte v u b =
    if b == 34 then (if is_whole u then Some (Closed v) else None)
    else if b == 92 then (if is_whole u then Some (Slash v) else None)
    else more_text (v ++ b ∷ []) (follow u b)

-- a byte behind a backslash in it
abbrev pub slash_byte : List ℕ → ℕ → Option Part
slash_byte v b =
    if b == 34 then Some (Text (v ++ 34 ∷ []) Whole)
    else if b == 92 then Some (Slash (v ++ 92 ∷ []))
    else more_text (v ++ 92 ∷ b ∷ []) (follow Whole b)

-- the range of a `#n`, none for `#0`
abbrev pub latest_range : ℕ → Option Range
latest_range zero = None
latest_range (suc v) = Some (Count (suc v))

-- the colon behind a range that may end there
abbrev pub colon_of : Slot → Option Range → ℕ → Option Part
colon_of s None b = None
colon_of s (Some r) b = colon s r b

-- the byte of `now-` that is wanted next
abbrev pub awaited : ℕ → Ahead → Range → ℕ → Option Part
awaited want next r b = if b == want then Some (Back next r) else None

-- a byte of `now-`, or behind it
abbrev pub back : Ahead → Range → ℕ → Option Part
back Now r b = awaited 110 Ow r b
back Ow r b = awaited 111 W r b
back W r b = awaited 119 Dash r b
back Dash r b = awaited 45 Digits r b
back Digits r b = if is_digit b then option_map (Shift r) (grown longest_range 0 b) else None

-- a byte behind `#`
abbrev pub hash_byte : ℕ → Option Part
hash_byte b = if is_digit b then option_map Latest (grown 10000 0 b) else None

-- a byte behind the first digits of `#n`
abbrev pub latest_byte : Slot → ℕ → ℕ → Option Part
latest_byte s v b = if is_digit b then option_map Latest (grown 10000 v b) else colon_of s (latest_range v) b

-- a byte behind the first digits of a shift
abbrev pub shift_byte : Range → ℕ → ℕ → Option Part
shift_byte r v b =
    if is_digit b then option_map (Shift r) (grown longest_range v b)
    else option_map (Shifted r) (lasting 0 v (period_factor b))

-- a byte behind the quote in front of a number, and in such a number
abbrev pub opened_byte : ℕ → Option Part
opened_byte b = option_map Quoted (first_figure greatest_percent b)

-- a byte of a number in quotes, or the quote that ends it
abbrev pub quoted_byte : Figures → ℕ → Option Part
quoted_byte f b =
    if b == 34 then end_number (figures_value f) (figures_text f) else option_map Quoted (figure greatest_percent f b)

-- the place behind one byte more of an argument
abbrev pub part : Slot → Part → ℕ → Option Part
part s Before b = first_part s b
part s Hash b = hash_byte b
part s (Latest v) b = latest_byte s v b
part s (Seconds v) b = second s v (least_period s) b
part s (Spanned r) b = colon s r b
part s (Back ahead r) b = back ahead r b
part s (Shift r v) b = shift_byte r v b
part s (Shifted r v) b = None
part s (Letters w) b = letter s w b
part s (Number f) b = more_number (number_limit s) f b
part s Opened b = opened_byte b
part s (Quoted f) b = quoted_byte f b
part s (Text v u) b = text_byte v u b
part s (Slash v) b = slash_byte v b
part s (Closed v) b = None

-- a range, where there is one, with its shift
abbrev pub ranged_value : Option Range → ℕ → Option Value
ranged_value None n = None
ranged_value (Some r) n = Some (Ranged r n)

-- a period of so many seconds, where it is long enough and may stand there
abbrev pub seconds_value : Option ℕ → ℕ → Option Value
seconds_value None v = None
seconds_value (Some least) v = if nat_le least v then Some (Ranged (Period v) 0) else None

-- the text of a number, where it may end there
abbrev pub number_value : Option ℕ → List ℕ → Option Value
number_value None w = None
number_value (Some n) w = Some (Said w)

-- what the argument says, where it may end here
abbrev pub part_value : Slot → Part → Option Value
part_value s Before = absent_value s
part_value s Hash = None
part_value s (Latest v) = ranged_value (latest_range v) 0
part_value s (Seconds v) = seconds_value (least_period s) v
part_value s (Spanned r) = Some (Ranged r 0)
part_value s (Back ahead r) = None
part_value s (Shift r v) = Some (Ranged r v)
part_value s (Shifted r v) = Some (Ranged r v)
part_value s (Letters w) = None
part_value s (Number f) = number_value (figures_value f) (figures_text f)
part_value s Opened = None
part_value s (Quoted f) = None
part_value s (Text v u) = None
part_value s (Slash v) = None
part_value s (Closed v) = Some (Said v)
