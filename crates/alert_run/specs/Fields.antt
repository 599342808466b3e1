-- The fields of a line, byte by byte.
use Rattle.std.specs.Prelude.{ℕ, ◌==◌, ◌||◌, Bool, true, false, List, [], ◌∷◌, ◌++◌, Option, Some, None, option_and_then, option_map, if◌then◌else◌}
use Rattle.alert_run.specs.declared.fields.Split.{Split}

-- the byte that stands for this one behind a backslash: a backslash, a bar, a line feed for n and a carriage return for r
abbrev pub meant_by : ℕ → Option ℕ
meant_by c = if c == 92 || c == 124 then Some c else if c == 110 then Some 10 else if c == 114 then Some 13 else None

-- the byte behind a backslash joins the field
abbrev pub with_meant : Split → ℕ → Split
with_meant split c = record { done = split.done; field = split.field ++ c ∷ []; escape = false }

-- one byte more outside an escape: a bar ends the field, a backslash begins an escape
abbrev pub taken_plain : Split → ℕ → Split
taken_plain split c =
    if c == 124 then record { done = split.done ++ split.field ∷ []; field = []; escape = false }
    else if c == 92 then record { done = split.done; field = split.field; escape = true }
    else record { done = split.done; field = split.field ++ c ∷ []; escape = false }

-- one byte more, where it may stand there
abbrev pub taken : Split → ℕ → Option Split
taken split c = if split.escape then option_map (with_meant split) (meant_by c) else Some (taken_plain split c)

-- the fields at the end of the line, where no backslash is left open
abbrev pub ended : Split → Option (List (List ℕ))
ended split = if split.escape then None else Some (split.done ++ split.field ∷ [])

-- the fields where so much is split and these bytes are left
unfoldable pub fields_from : Split → List ℕ → Option (List (List ℕ))
fields_from split [] = ended split
fields_from split (c ∷ rest) = option_and_then (λ more. fields_from more rest) (taken split c)

-- the fields of a line, joined by bars, with their escapes read
abbrev pub fields_of : List ℕ → Option (List (List ℕ))
fields_of line = fields_from (record { done = []; field = []; escape = false }) line
