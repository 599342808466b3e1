use Rattle.std.proofs.Common.{arith, length, ap, map}
use Rattle.std.proofs.lemmas.List.{drop_all}
use Rattle.std.specs.Str.{bytes_eq}
use Rattle.host_layout.specs.Firsts.{place_in}
use Rattle.host_layout.specs.Sources.{placed_of}
use Rattle.host_layout.proofs.FirstNames.{all_named}
use Rattle.host_layout.proofs.owners.source_names.Goals as goal

pub returns : goal.returns
returns c sought =
    all_named (λ s. bytes_eq s.body.name sought) (map placed_of c.args.sources.now) _ _ (place_in c.loop-place.names sought) (ap (map placed_of) (drop_all c.loop-place.place c.args.sources.now (omega (arith, ap length c.as_slice-source-items.ensures)))) (c.loop-place.invariant sought)
