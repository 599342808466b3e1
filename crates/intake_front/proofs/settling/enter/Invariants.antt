use Rattle.std.proofs.Common.{◌≡◌, ◌≤◌, ◌+◌, length}
use Rattle.std.specs.Vec.{vec_len, vec_capacity}
use Rattle.std.specs.Vec.Iter.{into_iter_items, into_iter_len}
use Rattle.intake_front.specs.Intake.{with_group}
use Rattle.intake_front.proofs.settling.enter.Given as goal

abbrev pub invariant-loop-entry : goal.invariant-loop-entry
invariant-loop-entry l = record {
  counted : into_iter_len l.entry-iterator ≡ length (into_iter_items l.entry-iterator);
  room : vec_len l.entries + length (into_iter_items l.entry-iterator) ≤ vec_capacity l.entries;
  capacity : vec_capacity l.entries ≡ vec_capacity l.initial.entries;
  long : vec_len l.entries + length (into_iter_items l.entry-iterator) ≡ vec_len l.initial.entries + length l.fn.group;
  made : with_group l.before l.entries.items (into_iter_items l.entry-iterator) ≡ with_group l.before l.initial.entries.items l.fn.group;
}
