use Rattle.std.proofs.Common.{◌≡◌, ◌++◌, drop}
use Rattle.config_templates.specs.Uses.{patterns_called}
use Rattle.config_templates.proofs.uses.patterns_called.Given as goal

abbrev pub invariant-loop-call : goal.invariant-loop-call
invariant-loop-call l = l.made ++ patterns_called (drop l.call-index l.calls) ≡ patterns_called l.calls
