use Rattle.std.proofs.Common.{◌≡◌, ◌++◌, ◌-◌}
use Rattle.outside.specs.Workload.{listed, value_text, behind_value, behind_values}
use Rattle.outside.proofs.work_frames.put_values.Given as goal

-- the text so far and the values to come are the whole, and so is the state behind them
abbrev pub invariant-loop-done : goal.invariant-loop-done
invariant-loop-done l = record {
  text : l.text ++ listed value_text behind_value l.next (l.count - l.done) ≡ l.fn.text ++ listed value_text behind_value l.state l.count;
  behind : behind_values l.next (l.count - l.done) ≡ behind_values l.state l.count;
}
