use Rattle.std.proofs.Common.{◌≡◌, ◌++◌, drop, map}
use Rattle.config_templates.specs.Flat.{host_made}
use Rattle.config_templates.proofs.flattening.hosts.Given as goal

abbrev pub invariant-loop-raw : goal.invariant-loop-raw
invariant-loop-raw l = l.made ++ map host_made (drop l.raw-index l.raws) ≡ map host_made l.raws
