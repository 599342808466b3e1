use Rattle.std.proofs.Common.{◌∙◌, refl, length}
use Rattle.config_templates.specs.Depends.{links_of}
use Rattle.config_templates.specs.Dependings.{dependings_now}
use Rattle.config_templates.proofs.Linked.{closed_links}
use Rattle.config_templates.proofs.depends.found_chains.Goals as goal

pub acyclic-requires-clause-closed : goal.acyclic-requires-clause-closed
acyclic-requires-clause-closed c =
    let ls = links_of (dependings_now c.args.dependings.now) in
    closed_links c.deref.result.now ls (length ls) (c.deref.ensures.value ∙ c.in_ok-links.ensures) refl c.requires
