use Rattle.std.proofs.Common.{◌≡◌, ◌<◌, ◌++◌, All, length, drop, codes}
use Rattle.config_templates.specs.Depends.{depending_of, links_of}
use Rattle.config_templates.specs.Dependings.{dependings_now}
use Rattle.host_layout.specs.Elements.{own_triggers}
use Rattle.host_layout.specs.Places.{each, placed_from}
use Rattle.host_layout.specs.Sources.{placed_of}
use Rattle.config_templates.proofs.depends.add_triggers.Given as goal

abbrev pub invariant-loop-index : goal.invariant-loop-index
invariant-loop-index l = record {
  gives : each (depending_of l.known.raw.now.hosts l.known.list.now.triggers l.own) (dependings_now l.made) (placed_from ((placed_of l.source).path ++ codes "/triggers") l.index (drop l.index l.source.body.now.triggers))
      ≡ each (depending_of l.known.raw.now.hosts l.known.list.now.triggers l.own) (dependings_now l.fn.made) (own_triggers l.source);
  within : All (λ ends. All (λ t. t < length l.known.list.now.triggers) ends) (links_of (dependings_now l.made));
}
