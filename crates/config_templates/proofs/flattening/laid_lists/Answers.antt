use Rattle.config_templates.specs.Flat.{conf_made}
use Rattle.config_templates.proofs.LaidOut.{lists_give}
use Rattle.config_templates.proofs.flattening.laid_lists.Goals as goal

pub returns : goal.returns
returns c text = lists_give (λ l. conf_made text c.args.raw.now l.items l.triggers l.patterns) text c.args.raw.now c.lists.result c.in_ok-inheritance.ensures.known c.in_ok-inheritance.ensures.acyclic (c.lists.ensures text)
