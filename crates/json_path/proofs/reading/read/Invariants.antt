use Rattle.std.proofs.Common.{◌≡◌}
use Rattle.byte_grammar.proofs.Faults.{Reached}
use Rattle.json_path.specs.Machine.{step, start}
use Rattle.json_path.proofs.reading.read.Given as goal

abbrev pub invariant-loop-byte : goal.invariant-loop-byte
invariant-loop-byte l = record {
  count : l.count ≡ l.byte-index;
  reached : Reached step start l.text l.byte-index l.state;
}
