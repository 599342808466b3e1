use Rattle.std.proofs.Common.{◌++◌, ◌∙◌, [], sym, ap, map, List, append-nil, arith}
use Rattle.std.proofs.lemmas.List.{length-map}
use Rattle.conf_index.specs.Plans.{plan_of}
use Rattle.conf_index.specs.declared.plans.Node.{Node}
use Rattle.conf_index.proofs.Packing.{packed_all}
use Rattle.conf_index.proofs.Planned.{plan_more}
use Rattle.conf_index.proofs.plans.plans_of.Goals as goal

pub loop-trigger-preserved : goal.loop-trigger-preserved
loop-trigger-preserved c =
    plan_more plan_of c.args.triggers.now c.loop-trigger.trigger-index c.trigger-item.result c.loop-trigger.made.starts c.begin.new.packed.starts c.loop-trigger.made.items c.add.new.nodes
    c.loop-trigger-test.true c.trigger-item.is c.in_ok-begin.ensures.starts
    (sym (append-nil c.add.new.nodes) ∙ c.in_ok-add.ensures [] ∙ ap (λ (ns : List Node). ns ++ plan_of c.trigger-item.result) c.in_ok-begin.ensures.items) c.loop-trigger.invariant

pub returns : goal.returns
returns c =
    let size = length-map c.args.triggers.now plan_of in let past = c.loop-trigger-test.false in
    λ number. packed_all (map plan_of c.args.triggers.now) c.loop-trigger.trigger-index c.loop-trigger.made.starts c.loop-trigger.made.items number (omega arith) c.loop-trigger.invariant
