use Rattle.std.proofs.Common.{rules, ◌∙◌}
use Rattle.book.proofs.Numbers.{came_whole}
use Rattle.book.proofs.Finishing.{blank_row}
use Rattle.book.proofs.progress.pull_known.Goals as goal

pub loop-entry-preserved : goal.loop-entry-preserved
loop-entry-preserved g c = record {
  received = search rules;
  fifo = search rules;
  capacity = search rules;
  counted = search rules;
  whole = came_whole g.S.StartName.start c.loop-entry.ring.received c.take_known.new.self.received c.loop-entry.entries.items c.push_reserved.new.self.items c.take_known.result c.loop-entry.invariant.received c.take_known.ensures.received c.push_reserved.ensures.items c.take_known.ensures.whole;
  room = search rules;
  rows = search rules;
  size = search rules;
  made = λ n. blank_row c.loop-entry.made.items c.push_reserved-in-loop-entry.new.self.items c.new.result c.new.ensures c.push_reserved-in-loop-entry.ensures.items n ∙ c.loop-entry.invariant.made n;
}
