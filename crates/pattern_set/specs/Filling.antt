-- Outputs that name groups, as the Zabbix 6.0 manual, "Item value preprocessing", has them for regular expressions: `\N` in an
-- output stands for the text of group N.
use Rattle.std.specs.Prelude.{◌≡◌, ◌≤◌, ℕ, ◌-◌, ◌==◌, nat_le, Bool, false, ◌&&◌, List, [], ◌∷◌, ◌++◌, length, drop, Option, Some, None, option_map, if◌then◌else◌, slice_range, IsUtf8}
use Rattle.std.specs.Char.{is_ascii_digit}
use Rattle.regex.specs.Strings.{captures_span, captures_haystack}
use Rattle.regex.specs.declared.string.captures.Captures.{Captures}
use Rattle.pattern_set.specs.Patterns.{leftmost}
use Rattle.pattern_set.specs.Spans.{group_at}
use Rattle.pattern_set.specs.declared.output.Filled.{Filled}
use Rattle.pattern_set.specs.declared.output.Filled.TheVariants.{Unmatched, Made, TooLong}

-- the bytes of a text between two places, or none
abbrev pub text_of : List ℕ → Option (ℕ × ℕ) → List ℕ
text_of text None = []
text_of text (Some (from, to)) = slice_range text from to

-- the byte is a backslash, and the one behind it a digit
abbrev pub names_group : ℕ → ℕ → Bool
names_group byte next = (byte == 92) && is_ascii_digit next

-- an output with each backslash and the digit behind it replaced by the text of that group; every other byte stays
unfoldable pub filled_by : (ℕ → List ℕ) → List ℕ → List ℕ
filled_by group [] = []
filled_by group (byte ∷ []) = byte ∷ []
filled_by group (byte ∷ next ∷ rest) =
    if names_group byte next then group (next - 48) ++ filled_by group rest
    else byte ∷ filled_by group (next ∷ rest)

-- the output filled from the groups of the leftmost match of a pattern in a text
abbrev pub filled_of : List ℕ → List ℕ → List ℕ → Option (List ℕ)
filled_of pattern text output = option_map (λ m. filled_by (λ group. text_of text (group_at m group)) output) (leftmost pattern text)

-- a filled output, where no more than so many bytes are wanted
abbrev pub at_most : ℕ → Option (List ℕ) → Filled
at_most limit None = Unmatched
at_most limit (Some text) = if nat_le (length text) limit then Made text else TooLong

-- an output begins with a backslash and a digit
abbrev pub names_in_front : List ℕ → Bool
names_in_front [] = false
names_in_front (byte ∷ []) = false
names_in_front (byte ∷ next ∷ rest) = names_group byte next

-- the text of each group, as captures hold it
abbrev pub texts_of : Captures → ℕ → List ℕ
texts_of groups group = text_of (captures_haystack groups) (captures_span groups group)

-- So many bytes in front of an output are taken: what is made in all stays the same, and stays UTF-8.
abbrev pub GoesOn : (ℕ → List ℕ) → List ℕ → List ℕ → List ℕ → ℕ → Type 0
GoesOn group old output new count =
    (1 ≤ count) × (count ≤ length output)
    × (old ++ filled_by group output ≡ new ++ filled_by group (drop count output))
    × (IsUtf8 (old ++ output) → IsUtf8 (new ++ drop count output))
