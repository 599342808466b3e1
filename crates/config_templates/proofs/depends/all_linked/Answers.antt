use Rattle.std.proofs.Common.{◌≡◌, [], ◌∷◌, ◌++◌, get_or, ap, ap₂, ◌∙◌}
use Rattle.config_templates.specs.Depends.{linked}
use Rattle.config_templates.proofs.Linked.{linked_more}
use Rattle.config_templates.proofs.depends.all_linked.Goals as goal

pub loop-trigger-preserved : goal.loop-trigger-preserved
loop-trigger-preserved c =
    let links = c.args.links.now in
    let depths = c.args.depths.now in
    let place = c.len-place.result in
    let trigger = c.in-Some.trigger in
    let one : c.in_ok-linked.field-0 ≡ linked trigger (get_or links place []) (get_or depths place 0) =
    c.in_ok-linked.ensures ∙ ap₂ (λ ends depth. linked trigger ends depth) c.ends_at.ensures c.depth_at.ensures in
    linked_more links depths c.loop-trigger.yielded trigger c.loop-trigger.made c.push.new.self place c.loop-trigger.invariant c.len-place.ensures
    (c.in_ok-push.ensures.ok ∙ ap (λ t. c.loop-trigger.made ++ t ∷ []) one)
