-- Paths by their grammar (the Zabbix 6.0 manual, "JSONPath functionality"), with what each text says.
use Rattle.std.specs.Prelude.{◌≡◌, ◌<◌, ◌≤◌, ◌+◌, ◌-◌, ◌*◌, ◌^◌, ℕ, ℤ, pos, neg_ℤ, List, [], ◌∷◌, ◌++◌, length, nat_le}
use Rattle.std.specs.Prelude.{Bool, true, false, ◌==◌, if◌then◌else◌, Option, Some, None, IsUtf8, codes}
use Rattle.byte_grammar.specs.Bytes.{Each, is_space, is_digit, is_nonzero_digit, is_e}
use Rattle.json_path.specs.declared.path.Path.{Path}
use Rattle.json_path.specs.declared.path.Segment.{Segment}
use Rattle.json_path.specs.declared.path.Selector.{Selector}
use Rattle.json_path.specs.declared.path.Selector.TheVariants.{Names, Indexes, Slice, All, Where}
use Rattle.json_path.specs.declared.path.Condition.{Condition}
use Rattle.json_path.specs.declared.path.Comparison.{Comparison}
use Rattle.json_path.specs.declared.path.Comparison.TheVariants.{Eq, Ne, Le, Ge, Lt, Gt}
use Rattle.json_path.specs.declared.path.Literal.{Literal}
use Rattle.json_path.specs.declared.path.Literal.TheVariants.{Words, Number}
use Rattle.json_path.specs.declared.path.Function.{Function}
use Rattle.json_path.specs.declared.path.Function.TheVariants.{Length, First, Min, Max, Sum, Avg}

-- a letter, a digit, `_`, `-`, or a byte above 127
abbrev pub is_name_byte : ℕ → Bool
is_name_byte b =
    if nat_le 97 b then (if nat_le b 122 then true else nat_le 128 b)
    else if nat_le 65 b then (if nat_le b 90 then true else b == 95) else if nat_le 48 b then nat_le b 57 else b == 45

-- a name: one or more of its bytes, in UTF-8
pub data IsName : List ℕ → List ℕ → Type 0 where
  name : {t : List ℕ} → 0 < length t → Each is_name_byte t → IsUtf8 t → IsName t t

-- the quote that a quoted text begins and ends with: `"` or `'`
abbrev pub mark : Bool → ℕ
mark double = if double then 34 else 39

-- bytes between quotes and what they stand for: a backslash takes the next byte as it is, and each other one but the
-- quote stands for itself
pub data Escapes (quote : ℕ) : List ℕ → List ℕ → Type 0 where
  nothing : Escapes quote [] []
  plain : {text words : List ℕ} (t w : List ℕ) (b : ℕ) → Escapes quote t w → (b == quote) ≡ false → (b == 92) ≡ false
      → text ≡ t ++ b ∷ [] → words ≡ w ++ b ∷ [] → Escapes quote text words
  escaped : {text words : List ℕ} (t w : List ℕ) (b : ℕ) → Escapes quote t w → text ≡ t ++ 92 ∷ b ∷ []
      → words ≡ w ++ b ∷ [] → Escapes quote text words

-- a text in quotes; what it stands for is UTF-8
pub data IsQuoted : List ℕ → List ℕ → Type 0 where
  quoted : {text words : List ℕ} (double : Bool) (t : List ℕ) → Escapes (mark double) t words → IsUtf8 words
      → text ≡ mark double ∷ (t ++ mark double ∷ []) → IsQuoted text words

-- one or more digits, and the number that they stand for
pub data AreDigits : List ℕ → ℕ → Type 0 where
  one : {text : List ℕ} {number : ℕ} (d : ℕ) → is_digit d ≡ true → text ≡ d ∷ [] → number ≡ d - 48
      → AreDigits text number
  more : {text : List ℕ} {number : ℕ} (t : List ℕ) (n d : ℕ) → AreDigits t n → is_digit d ≡ true → text ≡ t ++ d ∷ []
      → number ≡ n * 10 + (d - 48) → AreDigits text number

-- an integer: digits, perhaps behind `-`, for a number of 64 bits with its sign
pub data IsInteger : List ℕ → ℤ → Type 0 where
  plus : {text : List ℕ} {integer : ℤ} (n : ℕ) → AreDigits text n → n < 2 ^ 63 → integer ≡ pos n
      → IsInteger text integer
  minus : {text : List ℕ} {integer : ℤ} (t : List ℕ) (n : ℕ) → AreDigits t n → n ≤ 2 ^ 63 → text ≡ 45 ∷ t
      → integer ≡ neg_ℤ (pos n) → IsInteger text integer

-- one or more digits
abbrev pub SomeDigits : List ℕ → Type 0
SomeDigits t = (0 < length t) × Each is_digit t

-- `-` or nothing
pub data IsMinus : List ℕ → Type 0 where
  absent : IsMinus []
  present : IsMinus (45 ∷ [])

-- `+`, `-` or nothing
pub data IsSign : List ℕ → Type 0 where
  no_sign : IsSign []
  plus_sign : IsSign (43 ∷ [])
  minus_sign : IsSign (45 ∷ [])

-- the integer part of a JSON number, with its sign: 0, or digits that don't begin with it
pub data IsWhole : List ℕ → Type 0 where
  zero_part : {text : List ℕ} (m : List ℕ) → IsMinus m → text ≡ m ++ 48 ∷ [] → IsWhole text
  whole_part : {text : List ℕ} (m : List ℕ) (d : ℕ) (ds : List ℕ) → IsMinus m → is_nonzero_digit d ≡ true
      → Each is_digit ds → text ≡ m ++ d ∷ ds → IsWhole text

-- the same, perhaps with a fraction
pub data IsDecimal : List ℕ → Type 0 where
  no_fraction : {text : List ℕ} → IsWhole text → IsDecimal text
  fraction : {text : List ℕ} (w ds : List ℕ) → IsWhole w → SomeDigits ds → text ≡ w ++ 46 ∷ ds → IsDecimal text

-- a JSON number (RFC 8259, section 6): the same, perhaps with an exponent behind `e` or `E`
pub data IsNumber : List ℕ → Type 0 where
  no_exponent : {text : List ℕ} → IsDecimal text → IsNumber text
  exponent : {text : List ℕ} (t s ds : List ℕ) (e : ℕ) → IsDecimal t → is_e e ≡ true
      → IsSign s → SomeDigits ds → text ≡ t ++ e ∷ (s ++ ds) → IsNumber text

-- one of the two, with spaces around it
pub data Spaced {A : Type 0} (P : List ℕ → A → Type 0) : List ℕ → A → Type 0 where
  behind_spaces : {text : List ℕ} {value : A} (x t : List ℕ) → Each is_space x → P t value → text ≡ x ++ t
      → Spaced P text value
  with_space : {text : List ℕ} {value : A} (t : List ℕ) → Spaced P t value → text ≡ t ++ 32 ∷ [] → Spaced P text value

-- one or more, between commas, with spaces around each
pub data AreListed {A : Type 0} (P : List ℕ → A → Type 0) : List ℕ → List A → Type 0 where
  first : {text : List ℕ} {values : List A} (a : A) → Spaced P text a → values ≡ a ∷ [] → AreListed P text values
  next : {text : List ℕ} {values : List A} (u t : List ℕ) (vs : List A) (a : A) → AreListed P u vs → Spaced P t a
      → text ≡ u ++ 44 ∷ t → values ≡ vs ++ a ∷ [] → AreListed P text values

-- a bound of a slice, with spaces around it: an integer or nothing
pub data IsBound : List ℕ → Option ℤ → Type 0 where
  no_bound : {text : List ℕ} → Each is_space text → IsBound text None
  bound : {text : List ℕ} (i : ℤ) → Spaced IsInteger text i → IsBound text (Some i)

-- what a condition looks at, with spaces around each part: `@`, and names behind points or quoted names in brackets
pub data IsMember : List ℕ → List (List ℕ) → Type 0 where
  root : {text : List ℕ} (x : List ℕ) → Each is_space x → text ≡ x ++ 64 ∷ [] → IsMember text []
  named : {text : List ℕ} {names : List (List ℕ)} (u x t : List ℕ) (ns : List (List ℕ)) (n : List ℕ) → IsMember u ns
      → Each is_space x → IsName t n → text ≡ u ++ 46 ∷ (x ++ t) → names ≡ ns ++ n ∷ [] → IsMember text names
  bracketed : {text : List ℕ} {names : List (List ℕ)} (u t : List ℕ) (ns : List (List ℕ)) (n : List ℕ) → IsMember u ns
      → Spaced IsQuoted t n → text ≡ u ++ 91 ∷ (t ++ 93 ∷ []) → names ≡ ns ++ n ∷ [] → IsMember text names
  space_behind : {text : List ℕ} {names : List (List ℕ)} (u : List ℕ) → IsMember u names → text ≡ u ++ 32 ∷ []
      → IsMember text names

-- how a comparison is written
abbrev pub symbol : Comparison → List ℕ
symbol Eq = codes "=="
symbol Ne = codes "!="
symbol Le = codes "<="
symbol Ge = codes ">="
symbol Lt = codes "<"
symbol Gt = codes ">"

-- a quoted text or a JSON number
pub data IsLiteral : List ℕ → Literal → Type 0 where
  words : {text : List ℕ} (w : List ℕ) → IsQuoted text w → IsLiteral text (Words w)
  number : {text : List ℕ} → IsNumber text → IsLiteral text (Number text)

-- what a condition looks at, a comparison, and a literal
pub data IsCondition : List ℕ → Condition → Type 0 where
  compares : {text : List ℕ} {condition : Condition} (u t : List ℕ) → IsMember u condition.names
      → Spaced IsLiteral t condition.literal → text ≡ u ++ (symbol condition.op ++ t) → IsCondition text condition

-- what stands in the brackets of a segment, with spaces around each part: quoted names or integers between commas, a
-- slice, `*`, or a condition
pub data IsSelector : List ℕ → Selector → Type 0 where
  names : {text : List ℕ} (ws : List (List ℕ)) → AreListed IsQuoted text ws → IsSelector text (Names ws)
  indexes : {text : List ℕ} (is : List ℤ) → AreListed IsInteger text is → IsSelector text (Indexes is)
  slice : {text : List ℕ} (u v : List ℕ) (from to : Option ℤ) → IsBound u from → IsBound v to → text ≡ u ++ 58 ∷ v
      → IsSelector text (Slice from to)
  all : {text : List ℕ} (x : List ℕ) → Each is_space x → text ≡ x ++ 42 ∷ [] → IsSelector text All
  condition : {text : List ℕ} (x u : List ℕ) (c : Condition) → Each is_space x → IsCondition u c
      → text ≡ x ++ 63 ∷ 40 ∷ (u ++ 41 ∷ []) → IsSelector text (Where c)
  padded : {text : List ℕ} {selector : Selector} (u : List ℕ) → IsSelector u selector → text ≡ u ++ 32 ∷ []
      → IsSelector text selector

-- what a name stands behind: `.`, or `..` where it is deep
abbrev pub dots : Bool → List ℕ
dots deep = if deep then codes ".." else codes "."

-- what opens brackets: `[`, or `..[` where they are deep
abbrev pub opening : Bool → List ℕ
opening deep = if deep then codes "..[" else codes "["

-- a segment: a name or `*` behind points, or a selector in brackets
pub data IsSegment : List ℕ → Segment → Type 0 where
  member : {text : List ℕ} (deep : Bool) (t n : List ℕ) → IsName t n → text ≡ dots deep ++ t
      → IsSegment text (record { deep = deep; selector = Names (n ∷ []) })
  members : {text : List ℕ} (deep : Bool) → text ≡ dots deep ++ 42 ∷ []
      → IsSegment text (record { deep = deep; selector = All })
  selected : {text : List ℕ} (deep : Bool) (t : List ℕ) (s : Selector) → IsSelector t s
      → text ≡ opening deep ++ (t ++ 93 ∷ []) → IsSegment text (record { deep = deep; selector = s })

-- `$` and any number of segments behind it
pub data AreSegments : List ℕ → List Segment → Type 0 where
  document : AreSegments (36 ∷ []) []
  segment : {text : List ℕ} {segments : List Segment} (u t : List ℕ) (ss : List Segment) (s : Segment)
      → AreSegments u ss → IsSegment t s → text ≡ u ++ t → segments ≡ ss ++ s ∷ [] → AreSegments text segments

-- the name of a function
abbrev pub function_name : Function → List ℕ
function_name Length = codes "length"
function_name First = codes "first"
function_name Min = codes "min"
function_name Max = codes "max"
function_name Sum = codes "sum"
function_name Avg = codes "avg"

-- a path: `$` and its segments, and perhaps a function behind a point, with `()` behind its name
pub data IsPath : List ℕ → Path → Type 0 where
  selection : {text : List ℕ} (ss : List Segment) → AreSegments text ss
      → IsPath text (record { segments = ss; function = None })
  with_function : {text : List ℕ} (u : List ℕ) (ss : List Segment) (f : Function) → AreSegments u ss
      → text ≡ u ++ 46 ∷ (function_name f ++ 40 ∷ 41 ∷ []) → IsPath text (record { segments = ss; function = Some f })

-- the text of some path
abbrev pub IsPathText : List ℕ → Type 0
IsPathText text = (path : Path) × IsPath text path
