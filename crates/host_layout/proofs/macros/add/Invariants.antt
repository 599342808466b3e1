use Rattle.std.proofs.Common.{◌≡◌, ◌++◌, drop, map}
use Rattle.macro_text.specs.Index.{macro_now}
use Rattle.host_layout.specs.Macros.{macros_in}
use Rattle.host_layout.proofs.macros.add.Given as goal

abbrev pub invariant-loop-raw : goal.invariant-loop-raw
invariant-loop-raw l = map macro_now l.made ++ macros_in (drop l.raw-index l.macros) ≡ map macro_now l.fn.made ++ macros_in l.macros
