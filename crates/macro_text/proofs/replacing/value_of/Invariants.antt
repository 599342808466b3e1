use Rattle.std.proofs.Common.{◌≡◌, drop}
use Rattle.macro_text.specs.Expanded.{value_of}
use Rattle.macro_text.proofs.replacing.value_of.Given as goal

abbrev pub invariant-loop-found : goal.invariant-loop-found
invariant-loop-found l = value_of (drop l.found-index l.lookup) l.name ≡ value_of l.lookup l.name
