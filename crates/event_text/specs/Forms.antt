-- Macros of names of events and of values of tags (the Zabbix 6.0 manual, "Supported macros" and "Macro functions").
use Rattle.std.specs.Prelude.{ℕ, ◌⊎◌, ◌-◌, ◌==◌, ◌&&◌, nat_le, nat_eq, List, [], ◌∷◌, ◌++◌, length, drop, Option, Some, None, option_map, option_and_then, if◌then◌else◌, codes}
use Rattle.std.proofs.Common.{inl, inr}
use Rattle.std.specs.List.{starts_with, flat_map}
use Rattle.std.specs.Option.{option_or}
use Rattle.zbx_types.specs.Blanks.{without_front}
use Rattle.event_text.specs.Pieces.{behind, ascii_first, pieces_in}
use Rattle.event_text.specs.declared.macros.Macro.{Macro}
use Rattle.event_text.specs.declared.macros.Macro.TheVariants.{Host, Item, Filled}

-- the digit from 1 to 9 before the brace of an item macro, and what follows the brace
abbrev pub digit_place : ℕ → List ℕ → Option (ℕ × List ℕ)
digit_place c rest = if nat_le 49 c && nat_le c 57 then option_map (λ after. (c - 48, after)) (behind (codes "}") rest) else None

-- the number of an item macro whose name is followed by this byte: 1 where it is the brace
abbrev pub place_with : ℕ × List ℕ → Option (ℕ × List ℕ)
place_with r = if r.0 == 125 then Some (1, r.1) else digit_place r.0 r.1

-- the number of an item macro whose name stands before a text, and what follows its brace
abbrev pub place_of : List ℕ → Option (ℕ × List ℕ)
place_of text = option_and_then place_with (ascii_first text)

-- what stands behind the name of an item macro
abbrev pub item_name : List ℕ → Option (List ℕ)
item_name text = option_or (behind (codes "ITEM.VALUE") text) (behind (codes "ITEM.LASTVALUE") text)

-- the number of the item macro that stands behind a `{`, and what follows it
unfoldable pub item_at : List ℕ → Option (ℕ × List ℕ)
item_at text = option_and_then place_of (item_name text)

-- a byte in front of a text that was read
abbrev pub prefixed : ℕ → List ℕ × List ℕ → List ℕ × List ℕ
prefixed c r = (c ∷ r.0, r.1)

-- the bytes before the first place where a mark stands, and what follows the mark
unfoldable pub up_to : List ℕ → List ℕ → Option (List ℕ × List ℕ)
up_to mark [] = None
up_to mark (c ∷ rest) =
    if starts_with nat_eq (c ∷ rest) mark then Some ([], drop (length mark) (c ∷ rest)) else option_map (prefixed c) (up_to mark rest)

-- what a text behind a quote stands for up to the next quote that isn't after a backslash, and what follows that quote: `\"`
-- stands for a quote, and any other backslash for itself
unfoldable pub unquoted : List ℕ → Option (List ℕ × List ℕ)
unquoted [] = None
unquoted (c ∷ []) = if c == 34 then Some ([], []) else None
unquoted (c ∷ d ∷ rest) =
    if c == 34 then Some ([], d ∷ rest)
    else if c == 92 && d == 34 then option_map (prefixed 34) (unquoted rest)
    else option_map (prefixed c) (unquoted (d ∷ rest))

-- more of a text that was read
abbrev pub joined : List ℕ → List ℕ × List ℕ → List ℕ × List ℕ
joined made r = (made ++ r.0, r.1)

-- an argument in quotes with a mark right behind it, and what follows the mark
abbrev pub closed_by : List ℕ → List ℕ × List ℕ → Option (List ℕ × List ℕ)
closed_by mark r = option_map (λ after. (r.0, after)) (behind mark r.1)

-- an argument up to a mark: in quotes where there is a text behind a quote, or as it is written
abbrev pub argument_from : List ℕ → List ℕ → Option (List ℕ) → Option (List ℕ × List ℕ)
argument_from mark text None = up_to mark text
argument_from mark text (Some rest) = option_and_then (closed_by mark) (unquoted rest)

-- an argument that begins here, up to a mark
abbrev pub argument_at : List ℕ → List ℕ → Option (List ℕ × List ℕ)
argument_at mark text = argument_from mark text (behind (codes "\"") text)

-- an argument, blanks before which are dropped
unfoldable pub argument : List ℕ → List ℕ → Option (List ℕ × List ℕ)
argument mark text = argument_at mark (without_front text)

-- the form whose number and pattern are read: its output, and what follows `)}`
unfoldable pub with_output : ℕ → List ℕ → List ℕ → Option (Macro × List ℕ)
with_output place pattern text = option_map (λ r. (Filled place pattern r.0, r.1)) (argument (codes ")}") text)

-- the form whose number is read: its pattern up to a comma, and its output
unfoldable pub with_pattern : ℕ → List ℕ → Option (Macro × List ℕ)
with_pattern place text = option_and_then (λ r. with_output place r.0 r.1) (argument (codes ",") text)

-- an item macro whose number is read: that number, and what stands behind the parenthesis that opens its arguments
abbrev pub filled_arguments : ℕ × List ℕ → Option (ℕ × List ℕ)
filled_arguments r = option_map (λ arguments. (r.0, arguments)) (behind (codes ".regsub(") r.1)

-- the number of an item macro behind a `{`, and what stands behind the parenthesis that opens its arguments
abbrev pub filled_name : List ℕ → Option (ℕ × List ℕ)
filled_name text = option_and_then filled_arguments (option_and_then item_at (behind (codes "{") text))

-- a regular expression on an item's value, `{ITEM.VALUE}.regsub(pattern,output)}` behind a `{`
unfoldable pub filled_at : List ℕ → Option (Macro × List ℕ)
filled_at text = option_and_then (λ r. with_pattern r.0 r.1) (filled_name text)

-- an item's value
unfoldable pub value_at : List ℕ → Option (Macro × List ℕ)
value_at text = option_map (λ r. (Item r.0, r.1)) (item_at text)

-- the host's name
unfoldable pub host_at : List ℕ → Option (Macro × List ℕ)
host_at text = option_map (λ after. (Host, after)) (behind (codes "HOST.NAME}") text)

-- the macro that stands behind a `{`, and what follows it
unfoldable pub macro_at : List ℕ → Option (Macro × List ℕ)
macro_at text = option_or (option_or (host_at text) (value_at text)) (filled_at text)

-- a macro as a piece of a text, and what follows it
abbrev pub piece_from : Macro × List ℕ → (ℕ ⊎ Macro) × List ℕ
piece_from r = (inr r.0, r.1)

-- the macro behind a `{` as a piece, and what follows it
abbrev pub macro_piece_at : List ℕ → Option ((ℕ ⊎ Macro) × List ℕ)
macro_piece_at text = option_map piece_from (macro_at text)

-- the pieces of a title or of a tag's value: bytes that stay, and macros
abbrev pub pieces_of : List ℕ → List (ℕ ⊎ Macro)
pieces_of text = pieces_in inl macro_piece_at text

-- the pattern of a macro, where it has one
abbrev pub pattern_of : Macro → List (List ℕ)
pattern_of (Filled place pattern output) = pattern ∷ []
pattern_of Host = []
pattern_of (Item place) = []

-- the pattern of a piece, where it is a macro that has one
abbrev pub piece_patterns : ℕ ⊎ Macro → List (List ℕ)
piece_patterns (inl byte) = []
piece_patterns (inr found) = pattern_of found

-- the patterns of a title or of a tag's value, in order
unfoldable pub patterns_of : List ℕ → List (List ℕ)
patterns_of text = flat_map piece_patterns (pieces_of text)
