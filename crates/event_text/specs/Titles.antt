-- Names of events and tags of problems (the Zabbix 6.0 manual, "Supported macros"; the limits are this project's own).
use Rattle.std.specs.Prelude.{ℕ, ◌⊎◌, List, [], ◌∷◌, map, Option, All, Contains, IfSome, option_and_then, unwrap_or, codes}
use Rattle.std.proofs.Common.{inl, inr}
use Rattle.std.specs.Fmt.{take_chars}
use Rattle.std.specs.List.{flat_map}
use Rattle.std.specs.Option.{option_map_or}
use Rattle.zbx_types.specs.Hosts.{host_name as name_of_host}
use Rattle.zbx_types.specs.Ids.{at_id}
use Rattle.zbx_types.specs.Limits.{longest_title}
use Rattle.zbx_types.specs.Written.{written}
use Rattle.zbx_types.specs.declared.conf.Conf.{Conf}
use Rattle.zbx_types.specs.declared.entries.Held.{Held}
use Rattle.zbx_types.specs.declared.entries.Held.TheVariants.{Number, Words}
use Rattle.zbx_types.specs.declared.entries.Tag.{Tag}
use Rattle.zbx_types.specs.declared.triggers.Trigger.{Trigger}
use Rattle.macro_text.specs.Limited.{whole_front}
use Rattle.pattern_set.specs.Filling.{filled_of}
use Rattle.event_text.specs.Forms.{pieces_of, patterns_of}
use Rattle.event_text.specs.declared.macros.Macro.{Macro}
use Rattle.event_text.specs.declared.macros.Macro.TheVariants.{Host, Item, Filled}

-- the most characters of a tag's value
abbrev pub longest_value : ℕ
longest_value = 255

-- a value as a text: the written number, or the words
abbrev pub held_text : Held → List ℕ
held_text (Number n) = written n
held_text (Words text) = text

-- the value with a number, where the item has one
abbrev pub held_at : List (Option Held) → ℕ → Option Held
held_at values place = option_and_then (λ value. value) (at_id values place)

-- what an item macro stands for
abbrev pub item_text : List (Option Held) → ℕ → List ℕ
item_text values place = option_map_or held_text (held_at values place) (codes "*UNKNOWN*")

-- what a macro stands for
abbrev pub macro_text : List ℕ → List (Option Held) → Macro → List ℕ
macro_text host values Host = host
macro_text host values (Item place) = item_text values place
macro_text host values (Filled place pattern output) = unwrap_or (filled_of pattern (item_text values place) output) []

-- what a piece stands for
abbrev pub piece_text : List ℕ → List (Option Held) → ℕ ⊎ Macro → List ℕ
piece_text host values (inl byte) = byte ∷ []
piece_text host values (inr found) = macro_text host values found

-- a text with its macros replaced
unfoldable pub expanded : List ℕ → List (Option Held) → List ℕ → List ℕ
expanded host values text = flat_map (piece_text host values) (pieces_of text)

-- the name of a trigger's host
abbrev pub host_name : Conf → Trigger → List ℕ
host_name conf trigger = name_of_host (at_id conf.hosts trigger.host)

-- the name of a trigger's events
abbrev pub title_of : Conf → List (Option Held) → Trigger → List ℕ
title_of conf values trigger = whole_front longest_title (expanded (host_name conf trigger) values trigger.title)

-- the name of the events of the trigger with an id; empty where there is none
abbrev pub name_of : Conf → ℕ → List (Option Held) → List ℕ
name_of conf id values = option_map_or (title_of conf values) (at_id conf.triggers id) []

-- a tag with its value's macros replaced
abbrev pub event_tag : List ℕ → List (Option Held) → Tag → Tag
event_tag host values tag = record { tag = tag.tag; value = take_chars longest_value (expanded host values tag.value) }

-- the tags of a trigger's problems
abbrev pub tags_with : Conf → List (Option Held) → Trigger → List Tag
tags_with conf values trigger = map (event_tag (host_name conf trigger) values) trigger.tags

-- the tags of the problems of the trigger with an id; none where there is no such trigger
abbrev pub event_tags : Conf → ℕ → List (Option Held) → List Tag
event_tags conf id values = option_map_or (tags_with conf values) (at_id conf.triggers id) []

-- the patterns of a text's forms are among these
abbrev pub HasPatterns : List (List ℕ) → List ℕ → Type 0
HasPatterns patterns text = All (λ pattern. Contains patterns pattern) (patterns_of text)

-- the patterns of a trigger's title are among these
abbrev pub HasTitlePatterns : List (List ℕ) → Conf → ℕ → Type 0
HasTitlePatterns patterns conf id = IfSome (at_id conf.triggers id) (λ trigger. HasPatterns patterns trigger.title)

-- the patterns of the values of a trigger's tags are among these
abbrev pub HasTagPatterns : List (List ℕ) → Conf → ℕ → Type 0
HasTagPatterns patterns conf id =
    IfSome (at_id conf.triggers id) (λ trigger. All (λ (tag : Tag). HasPatterns patterns tag.value) trigger.tags)
