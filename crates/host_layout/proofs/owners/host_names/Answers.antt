use Rattle.std.proofs.Common.{arith, length, ap}
use Rattle.std.proofs.lemmas.List.{drop_all}
use Rattle.std.specs.Str.{bytes_eq}
use Rattle.host_layout.specs.Firsts.{place_in}
use Rattle.host_layout.proofs.FirstNames.{all_named}
use Rattle.host_layout.proofs.owners.host_names.Goals as goal

pub returns : goal.returns
returns c sought = all_named (λ h. bytes_eq h.name sought) c.args.hosts.now _ _ (place_in c.loop-place.names sought) (drop_all c.loop-place.place c.args.hosts.now (omega (arith, ap length c.as_slice-host-items.ensures))) (c.loop-place.invariant sought)
