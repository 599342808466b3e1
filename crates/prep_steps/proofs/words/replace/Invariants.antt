use Rattle.std.proofs.Common.{◌≡◌, ◌++◌, zero, length}
use denote.Text.{Utf8}
use denote.Shadow.{shadow}
use Rattle.prep_steps.specs.Words.{replaced_behind}
use Rattle.prep_steps.proofs.words.replace.Given as goal

abbrev pub invariant-loop-before : goal.invariant-loop-before
invariant-loop-before l = shadow (Utf8 l.rest) × (l.made ++ replaced_behind zero l.search l.other l.rest ≡ replaced_behind zero l.search l.other l.fn.text)

abbrev pub decreases-loop-before : goal.decreases-loop-before
decreases-loop-before l = length l.rest
