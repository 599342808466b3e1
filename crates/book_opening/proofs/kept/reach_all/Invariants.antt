use Rattle.std.proofs.Common.{◌≡◌, ◌++◌, List, length, take, drop}
use Rattle.std.specs.VecDeque.{deque_len}
use Rattle.zbx_types.specs.declared.entries.Numbered.{Numbered}
use Rattle.entry_step.specs.Log.{log_of}
use Rattle.book_opening.specs.Opening.{IsSound, IsReached, epochs_of}
use Rattle.book_opening.proofs.kept.reach_all.Given as goal

-- the entries so far are replayed, and the configurations of the others are still to come
abbrev pub invariant-loop-entry : goal.invariant-loop-entry
invariant-loop-entry g l = record {
  reached : (log : List Numbered) → IsSound g.S.StartName.flat g.S.StartName.base (log_of l.kept ++ log)
      → IsReached g.S.StartName.flat g.S.StartName.base log l.fn.so_far
      → IsReached g.S.StartName.flat g.S.StartName.base (log_of (take l.entry-index l.kept) ++ log) l.so_far;
  epochs : l.epochs.items ≡ epochs_of g.S.StartName.flat (drop l.entry-index l.kept);
  counted : deque_len l.epochs ≡ length l.epochs.items;
}
