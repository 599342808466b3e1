-- Titles of triggers, and their tags, whose user macros have their values.
use Rattle.std.specs.Prelude.{ℕ, Bool, ◌==◌, List, length, map, max, if◌then◌else◌}
use Rattle.std.specs.List.{list_any}
use Rattle.zbx_types.specs.Limits.{longest_value, longest_title}
use Rattle.zbx_types.specs.declared.entries.Tag.{Tag}
use Rattle.macro_text.specs.Expanded.{expanded}
use Rattle.macro_text.specs.Limited.{whole_front}
use Rattle.macro_text.specs.declared.macros.Macro.{Macro}
use Rattle.config_read.specs.declared.raw.RawTrigger.{RawTrigger}

-- the most bytes that the 255 characters of the value of an event's tag have
abbrev pub longest_tag_value : ℕ
longest_tag_value = 1020

-- a macro of events may begin in the text
abbrev pub has_brace : List ℕ → Bool
has_brace text = list_any (λ c. c == 123) text

-- a text with the values of its user macros: all of it, unless they make it longer than a value may be
abbrev pub filled : List Macro → List ℕ → List ℕ
filled macros text = whole_front (max (length text) longest_value) (expanded macros text)

-- the same of a text of which an event shows so many bytes: no more than these where no macro of events begins in them
unfoldable pub shown : ℕ → List Macro → List ℕ → List ℕ
shown most macros text = if has_brace (whole_front most (expanded macros text)) then filled macros text else whole_front most (expanded macros text)

-- the title of a trigger of a host with these macros
abbrev pub title_of : List Macro → RawTrigger → List ℕ
title_of macros raw = shown longest_title macros raw.name

-- a tag of a trigger of a host with these macros
abbrev pub tag_of : List Macro → Tag → Tag
tag_of macros tag = record { tag = filled macros tag.tag; value = shown longest_tag_value macros tag.value }

-- the tags of a trigger of a host with these macros
abbrev pub tags_of : List Macro → RawTrigger → List Tag
tags_of macros raw = map (tag_of macros) raw.tags
