use Rattle.book.proofs.Claiming.{put_worked}
use Rattle.book.proofs.inputs.put_in.Goals as goal

pub returns-clause-works : goal.returns-clause-works
returns-clause-works c = λ stage outputs. put_worked c.args.ones.before stage c.args.cells.now c.put.new.self c.args.ones.entries.now c.args.part c.args.lists c.args.made.now.items c.keep.new.made.items c.put.ensures.replaced c.keep.ensures.size c.keep.ensures.kept outputs
