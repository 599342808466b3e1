-- Calls of functions, by the cases of their grammar (the Zabbix 6.0 manual, "Trigger expression" and "Supported
-- functions").
use Rattle.std.specs.Prelude.{◌≡◌, ◌≤◌, ◌<◌, ℕ, List, [], ◌∷◌, ◌++◌, Option, Some, None, Bool, true, false, ◌==◌}
use Rattle.std.specs.Prelude.{if◌then◌else◌, length, take, IsUtf8, codes}
use Rattle.zbx_types.specs.declared.calls.Call.{Call}
use Rattle.zbx_types.specs.declared.calls.Fun.{Fun}
use Rattle.zbx_types.specs.declared.calls.Range.{Range}
use Rattle.zbx_types.specs.declared.calls.Range.TheVariants.{Count, Period}
use Rattle.item_key.specs.Grammar.{IsKeyText}
use Rattle.zbx_types.specs.Limits.{longest_range, longest_key, longest_name}
use Rattle.zbx_types.specs.NameBytes.{is_host_name_byte}
use Rattle.expr_parser.specs.Bytes.{Point, behind, AreBlanks, Digits}
use Rattle.expr_parser.specs.Numbers.{IsNumber, IsPeriod}
use Rattle.expr_parser.specs.declared.slots.Words.{Words}
use Rattle.expr_parser.specs.declared.slots.Slot.{Slot}
use Rattle.expr_parser.specs.declared.slots.Slot.TheVariants.{Newest, Span, MaybeSpan, Silence, Word, Percent, Free}
use Rattle.expr_parser.specs.declared.parts.Value.{Value}
use Rattle.expr_parser.specs.declared.parts.Value.TheVariants.{Ranged, Said}
use Rattle.expr_parser.specs.Functions.{name_of, slots, default_range, takes_count, least_period, word_list}
use Rattle.zbx_types.specs.Operators.{is_dated}

-- bytes of a host's name alone, or nothing
unfoldable pub AreHostBytes : List ℕ → Type 0
AreHostBytes [] = Unit {0}
AreHostBytes (b ∷ bs) = (is_host_name_byte b ≡ true) × AreHostBytes bs

-- a host's name, of 1 to 128 bytes
abbrev pub IsHost : List ℕ → Type 0
IsHost h = (0 < length h) × (length h ≤ longest_name) × AreHostBytes h

-- the greatest percentage, in millionths
abbrev pub greatest_percent : ℕ
greatest_percent = 100000000

-- the greatest number, in millionths
abbrev pub greatest_number : ℕ
greatest_number = 1000000000000000000000000000000

-- a range within its bounds: 1 to 10,000 values, or a period from 1 second to 31 days
abbrev pub IsBoundedRange : Range → Type 0
IsBoundedRange (Count n) = (0 < n) × (n ≤ 10000)
IsBoundedRange (Period n) = (0 < n) × (n ≤ longest_range)

-- a call whose range is within its bounds and whose shift is at most 31 days
abbrev pub IsBoundedCall : Call → Type 0
IsBoundedCall c = IsBoundedRange c.range × (c.shift ≤ longest_range)

-- a range without a shift: `#n`, n from 1 to 10,000, or a period up to 31 days
pub data IsRange : Slot → List ℕ → Range → Type 0 where
  latest : {s : Slot} {t : List ℕ} {n : ℕ} (b : ℕ) (bs : List ℕ) → takes_count s ≡ true → Digits 0 (b ∷ bs) n → 0 < n
      → n ≤ 10000 → t ≡ 35 ∷ b ∷ bs → IsRange s t (Count n)
  span : {s : Slot} {t : List ℕ} {n : ℕ} (m : ℕ) → least_period s ≡ Some m → IsPeriod m longest_range t n
      → IsRange s t (Period n)

-- the text between quotes stands for these bytes: `\"` for a quote, any other backslash for itself
pub data IsQuoted : List ℕ → List ℕ → Type 0 where
  nothing : {t v : List ℕ} → t ≡ [] → v ≡ [] → IsQuoted t v
  quote : {t v : List ℕ} (u w : List ℕ) → IsQuoted u w → t ≡ 92 ∷ 34 ∷ u → v ≡ 34 ∷ w → IsQuoted t v
  backslash : {t v : List ℕ} (b : ℕ) (u w : List ℕ) → (b == 34) ≡ false → IsQuoted (b ∷ u) w → t ≡ 92 ∷ b ∷ u
      → v ≡ 92 ∷ w → IsQuoted t v
  plain : {t v : List ℕ} (b : ℕ) (u w : List ℕ) → (b == 34) ≡ false → (b == 92) ≡ false → IsQuoted u w → t ≡ b ∷ u
      → v ≡ b ∷ w → IsQuoted t v

-- the two texts are one
abbrev pub is_same : List ℕ → List ℕ → Bool
is_same [] [] = true
is_same [] (c ∷ cs) = false
is_same (b ∷ bs) [] = false
is_same (b ∷ bs) (c ∷ cs) = if b == c then is_same bs cs else false

-- the text is one of these words
abbrev pub is_one_of : List (List ℕ) → List ℕ → Bool
is_one_of [] t = false
is_one_of (w ∷ ws) t = if is_same t w then true else is_one_of ws t

-- what an empty argument says, none where the argument must not be empty
abbrev pub absent_value : Slot → Option Value
absent_value Newest = Some (Ranged (Count 1) 0)
absent_value Span = None
absent_value MaybeSpan = Some (Ranged (Count 1) 0)
absent_value Silence = None
absent_value (Word ws) = Some (Said [])
absent_value Percent = None
absent_value Free = Some (Said [])

-- the greatest number that may stand there without quotes, in millionths
abbrev pub number_limit : Slot → Option ℕ
number_limit Newest = None
number_limit Span = None
number_limit MaybeSpan = None
number_limit Silence = None
number_limit (Word ws) = None
number_limit Percent = Some greatest_percent
number_limit Free = Some greatest_number

-- the argument that a text is: nothing, a range, one with a shift, a word in quotes, a number, one in quotes, a text in
-- quotes
pub data IsPart : Slot → List ℕ → Value → Type 0 where
  absent : {s : Slot} {v : Value} → absent_value s ≡ Some v → IsPart s [] v
  ranged : {s : Slot} {t : List ℕ} {r : Range} → IsRange s t r → IsPart s t (Ranged r 0)
  shifted : {s : Slot} {t : List ℕ} {r : Range} {n : ℕ} (u w : List ℕ) → IsRange s u r → takes_count s ≡ true
      → IsPeriod 0 longest_range w n
      → t ≡ u ++ (codes ":now-" ++ w) → IsPart s t (Ranged r n)
  word : {t : List ℕ} {ws : Words} (w : List ℕ) → is_one_of (word_list ws) w ≡ true → t ≡ 34 ∷ (w ++ 34 ∷ [])
      → IsPart (Word ws) t (Said w)
  number : {s : Slot} {t : List ℕ} (most n : ℕ) → number_limit s ≡ Some most → IsNumber most t n → IsPart s t (Said t)
  quoted_number : {t : List ℕ} (u : List ℕ) (n : ℕ) → IsNumber greatest_percent u n → t ≡ 34 ∷ (u ++ 34 ∷ [])
      → IsPart Percent t (Said u)
  quoted : {t : List ℕ} (u v : List ℕ) → IsQuoted u v → IsUtf8 v → t ≡ 34 ∷ (u ++ 34 ∷ []) → IsPart Free t (Said v)

-- the call with a range and a shift
abbrev pub put_range : Range → ℕ → Call → Call
put_range r n c = record { fun = c.fun; host = c.host; key = c.key; range = r; shift = n; op = c.op; arg = c.arg }

-- the call with a text as its first argument behind the range, or as its second
abbrev pub put_text : Slot → List ℕ → Call → Call
put_text Free t c =
    record { fun = c.fun; host = c.host; key = c.key; range = c.range; shift = c.shift; op = c.op; arg = t }
put_text Newest t c =
    record { fun = c.fun; host = c.host; key = c.key; range = c.range; shift = c.shift; op = t; arg = c.arg }
put_text Span t c =
    record { fun = c.fun; host = c.host; key = c.key; range = c.range; shift = c.shift; op = t; arg = c.arg }
put_text MaybeSpan t c =
    record { fun = c.fun; host = c.host; key = c.key; range = c.range; shift = c.shift; op = t; arg = c.arg }
put_text Silence t c =
    record { fun = c.fun; host = c.host; key = c.key; range = c.range; shift = c.shift; op = t; arg = c.arg }
put_text (Word ws) t c =
    record { fun = c.fun; host = c.host; key = c.key; range = c.range; shift = c.shift; op = t; arg = c.arg }
put_text Percent t c =
    record { fun = c.fun; host = c.host; key = c.key; range = c.range; shift = c.shift; op = t; arg = c.arg }

-- the call with what an argument says
abbrev pub put : Slot → Value → Call → Call
put s (Said t) c = put_text s t c
put s (Ranged r n) c = put_range r n c

-- each of them may be absent
abbrev pub may_be_absent : Slot → Bool
may_be_absent Newest = true
may_be_absent Span = false
may_be_absent MaybeSpan = true
may_be_absent Silence = false
may_be_absent (Word ws) = true
may_be_absent Percent = false
may_be_absent Free = true

-- all of the arguments may be absent
abbrev pub all_absent : List Slot → Bool
all_absent [] = true
all_absent (s ∷ ss) = if may_be_absent s then all_absent ss else false

-- what behind the item makes one call of another: arguments, each behind a comma and blanks; the last ones may be left
-- away
pub data Arguments : List Slot → Call → List ℕ → Call → Type 0 where
  no_more : {ss : List Slot} {c : Call} → all_absent ss ≡ true → Arguments ss c [] c
  another : {s : Slot} {ss : List Slot} {c d : Call} {text : List ℕ} {v : Value} (x t r : List ℕ) → AreBlanks x
      → IsPart s t v → Arguments ss (put s v c) r d
      → text ≡ 44 ∷ (x ++ (t ++ r)) → Arguments (s ∷ ss) c text d

-- a call of a function before its arguments
abbrev pub plain_call : Fun → List ℕ → List ℕ → Call
plain_call f h k = record { fun = f; host = h; key = k; range = default_range f; shift = 0; op = []; arg = [] }

-- The text of a call, at a point of a text. A key has at most 2,048 bytes, of which those behind the held ones aren't
-- counted.
pub data IsCall : Point → List ℕ → Call → Type 0 where
  dated : {p : Point} {text : List ℕ} (f : Fun) → is_dated f ≡ true → text ≡ name_of f ++ 40 ∷ 41 ∷ []
      → IsCall p text (plain_call f [] [])
  of_item : {p : Point} {text : List ℕ} {c : Call} (f : Fun) (h k r : List ℕ) → is_dated f ≡ false → IsHost h
      → IsKeyText k → IsUtf8 k
      → length (take (behind p (name_of f ++ 40 ∷ 47 ∷ (h ++ 47 ∷ []))).held k) ≤ longest_key
      → Arguments (slots f) (plain_call f h k) r c
      → text ≡ name_of f ++ 40 ∷ 47 ∷ (h ++ 47 ∷ (k ++ (r ++ 41 ∷ []))) → IsCall p text c
