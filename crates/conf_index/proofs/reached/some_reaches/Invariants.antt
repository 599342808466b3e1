use Rattle.std.proofs.Common.{◌≡◌, drop}
use Rattle.conf_index.specs.Index.{some_reaches}
use Rattle.conf_index.proofs.reached.some_reaches.Given as goal

abbrev pub invariant-loop-rule : goal.invariant-loop-rule
invariant-loop-rule l = some_reaches (drop l.rule-index l.rules) l.trigger ≡ some_reaches l.rules l.trigger
