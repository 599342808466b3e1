use Rattle.std.proofs.Common.{◌∙◌}
use Rattle.book.proofs.Claiming.{order_is}
use Rattle.book.proofs.inputs.order_of.Goals as goal

pub invariant_of-result : goal.invariant_of-result
invariant_of-result g c =
    order_is c.args.all.before g.S.StartName.start.stage c.args.cells.now c.args.all.entries.now c.in-Ok.inputs.entries c.args.batch.id c.args.batch.numbers c.as_slice-numbers.result.now c.in-Ok.inputs.part c.in-Ok-scratch_of.scratch g.S.StartName.cache c.as_slice-numbers.ensures c.in-Ok.ensures.entries c.requires.ready c.in-Ok.ensures.part (c.in-Ok.ensures.cache ∙ c.requires.cache) c.in-Ok-scratch_of.ensures.cells
