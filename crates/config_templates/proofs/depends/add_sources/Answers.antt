use Rattle.std.proofs.Common.{◌∙◌, ◌++◌, codes}
use Rattle.host_layout.specs.Places.{placed}
use Rattle.config_templates.specs.Depends.{depending_of}
use Rattle.config_templates.specs.Dependings.{dependings_now}
use Rattle.host_layout.proofs.Steps.{source_then}
use Rattle.config_templates.proofs.depends.add_sources.Goals as goal

pub loop-source-preserved : goal.loop-source-preserved
loop-source-preserved c = record {
  gives = source_then (depending_of c.args.known.now.raw.now.hosts c.args.known.now.list.now.triggers c.args.own) (λ s. placed (s.path ++ codes "/triggers") s.body.triggers)
      c.args.sources.now c.loop-source.source-index c.source-item.result (dependings_now c.loop-source.made) (dependings_now c.add_triggers.new.made)
      c.loop-source-test.true c.source-item.is c.in_ok-add_triggers.ensures.gives
      ∙ c.loop-source.invariant.gives;
  within = c.in_ok-add_triggers.ensures.within;
}
