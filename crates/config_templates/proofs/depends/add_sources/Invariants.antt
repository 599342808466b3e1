use Rattle.std.proofs.Common.{◌≡◌, ◌<◌, All, length, drop, map}
use Rattle.config_templates.specs.Depends.{depending_of, links_of}
use Rattle.config_templates.specs.Dependings.{dependings_now}
use Rattle.host_layout.specs.Places.{each}
use Rattle.host_layout.specs.Sources.{placed_of}
use Rattle.config_templates.specs.Triggers.{placed_triggers}
use Rattle.config_templates.proofs.depends.add_sources.Given as goal

abbrev pub invariant-loop-source : goal.invariant-loop-source
invariant-loop-source l = record {
  gives : each (depending_of l.known.raw.now.hosts l.known.list.now.triggers l.own) (dependings_now l.made) (placed_triggers (map placed_of (drop l.source-index l.sources)))
      ≡ each (depending_of l.known.raw.now.hosts l.known.list.now.triggers l.own) (dependings_now l.fn.made) (placed_triggers (map placed_of l.sources));
  within : All (λ ends. All (λ t. t < length l.known.list.now.triggers) ends) (links_of (dependings_now l.made));
}
