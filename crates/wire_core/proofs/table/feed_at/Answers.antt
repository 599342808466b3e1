use Rattle.wire_core.proofs.Entries.{answered, taken, refused}
use Rattle.wire_core.proofs.table.feed_at.Goals as goal

pub returns-clause-answer : goal.returns-clause-answer
returns-clause-answer c = answered c.hand_over.result c.args.peers.now.entries c.args.place _ c.args.piece.now c.index_mut-opened.ensures.value c.requires.waits c.hand_over.ensures.answer

pub returns-clause-after : goal.returns-clause-after
returns-clause-after c = taken c.hand_over.result c.args.peers.now.entries c.args.place _ c.args.piece.now _ c.index_mut-opened.ensures.value c.requires.waits c.hand_over.ensures.left

pub returns-clause-err : goal.returns-clause-err
returns-clause-err c = refused c.hand_over.result c.args.peers.now.entries c.args.place _ _ c.index_mut-opened.ensures.value c.hand_over.ensures.err
