-- What the groups of a match span (this project's own).
use Rattle.std.specs.Prelude.{ℕ, ◌==◌, true, false, List, map, Option, Some, None, option_map, if◌then◌else◌}
use Rattle.std.specs.List.{range_with_len}
use Rattle.regex.specs.Patterns.{Match, span}
use Rattle.regex.specs.Writes.{group_of}
use Rattle.pattern_set.specs.declared.spans.Span.{Span}
use Rattle.pattern_set.specs.Patterns.{leftmost}

-- the bytes from one place to another, or nothing
abbrev pub span_of : Option (ℕ × ℕ) → Span
span_of None = record { there = false; from = 0; to = 0 }
span_of (Some (from, to)) = record { there = true; from = from; to = to }

-- what a group of a match spans; group 0 is the whole match
abbrev pub group_at : Match → ℕ → Option (ℕ × ℕ)
group_at m group = if group == 0 then Some (span m) else group_of m group

-- the spans of groups 0 to 9
abbrev pub spans_in : Match → List Span
spans_in m = map (λ group. span_of (group_at m group)) (range_with_len 0 10)

-- those of the leftmost match of a pattern in a text
abbrev pub spans_of : List ℕ → List ℕ → Option (List Span)
spans_of pattern text = option_map spans_in (leftmost pattern text)
