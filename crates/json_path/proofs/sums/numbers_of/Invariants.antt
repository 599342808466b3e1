use Rattle.std.proofs.Common.{◌≡◌, ◌++◌, drop}
use Rattle.std.specs.Option.{option_map}
use Rattle.json_path.specs.Seen.{seen}
use Rattle.json_path.specs.Results.{numbers_of}
use Rattle.json_path.proofs.sums.numbers_of.Given as goal

abbrev pub invariant-loop-value : goal.invariant-loop-value
invariant-loop-value l = option_map (λ zs. l.made ++ zs) (numbers_of (seen (drop l.value-index l.values))) ≡ numbers_of (seen l.values)
