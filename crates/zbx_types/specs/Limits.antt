-- Limits that several crates share (this project's own).
use Rattle.std.specs.Prelude.{ℕ}

-- the most bytes of a configuration document
abbrev pub longest_text : ℕ
longest_text = 16777216

-- the most bytes of a value, and of a parameter or a text of a preprocessing step after macros
abbrev pub longest_value : ℕ
longest_value = 65535

-- the most bytes of an item's key
abbrev pub longest_key : ℕ
longest_key = 2048

-- the most bytes of an expression
abbrev pub longest_expression : ℕ
longest_expression = 4096

-- the most bytes of the name of a host or template
abbrev pub longest_name : ℕ
longest_name = 128

-- the most bytes of the title of a trigger after macros, and of the name of its events
abbrev pub longest_title : ℕ
longest_title = 2048

-- the most connections at once
abbrev pub most_connections : ℕ
most_connections = 128

-- the most seconds of a range of values and of a shift: 31 days
abbrev pub longest_range : ℕ
longest_range = 2678400
