-- Bases: states in place of entries.
use Rattle.std.specs.Prelude.{[], None}
use Rattle.zbx_types.specs.declared.base.Base.{Base}

-- the base of no entries
abbrev pub empty_base : Base
empty_base = record { number = 0; now = 0; first_tick = None; last_tick = None; lines = 0; text = []; items = []; problems = [] }
