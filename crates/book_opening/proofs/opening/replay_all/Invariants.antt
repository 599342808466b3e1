use Rattle.std.proofs.Common.{◌≡◌, ◌++◌, List, length, take, drop}
use Rattle.std.specs.VecDeque.{deque_len}
use Rattle.zbx_types.specs.declared.entries.Numbered.{Numbered}
use Rattle.entry_step.specs.Log.{log_of}
use Rattle.book_opening.specs.Opening.{IsSound, IsReplayed, epochs_of}
use Rattle.book_opening.specs.Outgoing.{IsLeft}
use Rattle.book_opening.proofs.opening.replay_all.Given as goal

-- the entries so far are replayed, and the configurations of the others are still to come
abbrev pub invariant-loop-entry : goal.invariant-loop-entry
invariant-loop-entry g l = record {
  replayed : (log : List Numbered) → IsSound g.S.StartName.flat g.S.StartName.base (log_of l.kept ++ log) → IsReplayed g.S.StartName.flat g.S.StartName.base log (g.O.Sink.tells l.fn.outbox) l.fn.so_far
      → IsReplayed g.S.StartName.flat g.S.StartName.base (log_of (take l.entry-index l.kept) ++ log) (g.O.Sink.tells l.fn.outbox) l.so_far;
  epochs : l.epochs.items ≡ epochs_of g.S.StartName.flat (drop l.entry-index l.kept);
  counted : deque_len l.epochs ≡ length l.epochs.items;
  left : IsLeft (g.O.Sink.tells l.fn.outbox) (g.O.Sink.tells l.outbox);
}
