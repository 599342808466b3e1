use Rattle.std.proofs.Common.{◌≡◌, arith, false, length}
use Rattle.std.specs.Prelude.{nat_le}
use Rattle.std.proofs.lemmas.Grind.{common_steps}
use Rattle.host_layout.specs.Elements.{placed_trigger}
use Rattle.host_layout.specs.Owners.{owner_now}
use Rattle.config_templates.specs.Triggers.{most_triggers}
use Rattle.config_templates.specs.Written.{more_found}
use Rattle.config_templates.proofs.Free.{gives_free, was_free}
use Rattle.config_templates.proofs.triggers.trigger.Goals as goal

pub returns-clause-gives : goal.returns-clause-gives
returns-clause-gives c =
    let room : nat_le most_triggers (length c.args.list.now.found.triggers) ≡ false = grind (arith, common_steps) in
    let free = was_free c.in_ok-take.field-0 c.args.list.now.names c.args.list.now.found.triggers c.args.owner.now.id c.args.raw.now.name c.as_str.result.now c.if-not-branch.false c.in_ok-take.ensures.free c.as_str.ensures c.requires.names in
    gives_free (more_found c.args.list.now.found.triggers c.free_trigger.new.patterns) c.free_trigger.result c.args.scope.now.raw.now c.args.scope.now.items.now.items (owner_now c.args.owner.now) c.args.owner.now.macros c.args.list.now.found (placed_trigger c.args.source.now c.args.index c.args.raw.now) free room (c.free_trigger.ensures.gives c.args.list.now.found.triggers)
