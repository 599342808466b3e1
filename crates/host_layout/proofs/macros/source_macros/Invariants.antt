use Rattle.std.proofs.Common.{◌≡◌, ◌++◌, drop, map}
use Rattle.std.specs.List.{flat_map}
use Rattle.macro_text.specs.Index.{macro_now}
use Rattle.host_layout.specs.Macros.{macros_in}
use Rattle.host_layout.specs.Sources.{placed_of}
use Rattle.host_layout.proofs.macros.source_macros.Given as goal

abbrev pub invariant-loop-source : goal.invariant-loop-source
invariant-loop-source l =
    map macro_now l.made ++ flat_map (λ s. macros_in s.body.macros) (map placed_of (drop l.source-index l.sources))
    ≡ flat_map (λ s. macros_in s.body.macros) (map placed_of l.sources)
