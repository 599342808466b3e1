use Rattle.std.proofs.Common.{◌≡◌, ◌++◌, map, take}
use Rattle.host_layout.specs.Sources.{placed_of}
use Rattle.host_layout.proofs.Sourced.{placed_of_walk}
use Rattle.host_layout.proofs.templates.links.sources.Given as goal

abbrev pub invariant-loop-place : goal.invariant-loop-place
invariant-loop-place l = map placed_of l.made ≡ map placed_of l.initial.made ++ placed_of_walk l.raw (take l.place-index l.place-items)
