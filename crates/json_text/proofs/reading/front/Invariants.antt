use Rattle.std.proofs.Common.{length, ◌-◌, ◌≤◌}
use Rattle.byte_grammar.proofs.Faults.{Reached}
use Rattle.json_text.specs.Machine.{step, start}
use Rattle.json_text.proofs.reading.front.Given as goal

abbrev pub invariant-loop-count : goal.invariant-loop-count
invariant-loop-count l = record {
  within : l.count ≤ length l.bytes;
  reached : Reached step start l.bytes l.count l.state;
}

abbrev pub decreases-loop-count : goal.decreases-loop-count
decreases-loop-count l = length l.bytes - l.count
