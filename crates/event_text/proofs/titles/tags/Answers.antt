use Rattle.std.proofs.Common.{◌≡◌, Some, All, IfSome, sym, ap, subst, ◌∙◌}
use Rattle.zbx_types.specs.Ids.{at_id}
use Rattle.zbx_types.specs.declared.entries.Tag.{Tag}
use Rattle.zbx_types.specs.declared.triggers.Trigger.{Trigger}
use Rattle.event_text.specs.Titles.{HasPatterns}
use Rattle.event_text.proofs.titles.tags.Goals as goal

pub tags_with-requires : goal.tags_with-requires
tags_with-requires c =
    let found : at_id c.args.conf.now.triggers c.args.trigger ≡ Some c.in-Some.found.now =
    ap (λ ts. at_id ts c.args.trigger) (sym c.as_slice.ensures) ∙ sym c.in-Some.ensures in
    let known = subst (λ o. IfSome o (λ (trigger : Trigger). All (λ (tag : Tag). HasPatterns c.args.patterns.now tag.value) trigger.tags)) found c.requires in
    subst (λ ts. All (λ (tag : Tag). HasPatterns c.args.patterns.now tag.value) ts) (sym c.as_slice-in-Some.ensures) known
