use Rattle.std.proofs.Common.{◌≡◌, ◌++◌, drop}
use Rattle.config_templates.specs.Depends.{links_of}
use Rattle.config_templates.specs.Dependings.{dependings_now}
use Rattle.config_templates.proofs.depends.links.Given as goal

abbrev pub invariant-loop-depending : goal.invariant-loop-depending
invariant-loop-depending l = l.made.items ++ links_of (dependings_now (drop l.depending-index l.dependings)) ≡ links_of (dependings_now l.dependings)
