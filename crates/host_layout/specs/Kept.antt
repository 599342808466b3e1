-- Patterns as the code keeps them.
use Rattle.std.specs.Prelude.{ℕ, List, String, string_bytes}
use Rattle.std.specs.declared.alloc.Global.{Global}
use Rattle.host_layout.specs.Patterns.{Pattern}

-- a text, and the pointer that is kept with it, as a pattern
abbrev pub kept_pattern : String Global × List ℕ → Pattern
kept_pattern e = record { text = string_bytes e.0; path = e.1 }
