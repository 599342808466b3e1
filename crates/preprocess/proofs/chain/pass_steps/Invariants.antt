use Rattle.std.proofs.Common.{◌≡◌, ◌+◌, ◌++◌, drop}
use Rattle.preprocess.specs.Chain.{comes_of, marks_of}
use Rattle.preprocess.specs.Parsing.{IsParsed}
use Rattle.preprocess.specs.Ways.{memory_at}
use Rattle.preprocess.proofs.chain.pass_steps.Given as goal

abbrev pub invariant-loop-index : goal.invariant-loop-index
invariant-loop-index l = record {
  parsed : IsParsed l.text l.parsed;
  comes : comes_of (drop l.index l.steps) (l.index + 1) (memory_at l.memories) l.text l.time ≡ comes_of l.steps 1 (memory_at l.memories) l.value l.time;
  marked : l.marks ++ marks_of (drop l.index l.steps) (l.index + 1) (memory_at l.memories) l.text l.time ≡ marks_of l.steps 1 (memory_at l.memories) l.value l.time;
}
