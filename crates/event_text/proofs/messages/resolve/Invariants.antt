use Rattle.std.proofs.Common.{◌≡◌, ◌++◌, length}
use denote.Text.{Utf8}
use denote.Shadow.{shadow}
use Rattle.event_text.specs.Messages.{resolved}
use Rattle.event_text.proofs.messages.resolve.Given as goal

abbrev pub invariant-loop-plain : goal.invariant-loop-plain
invariant-loop-plain l = record {
  so_far : l.made ++ resolved l.conf l.problem l.recovered l.rest ≡ resolved l.conf l.problem l.recovered l.text;
  utf8 : shadow (Utf8 l.rest);
}

abbrev pub decreases-loop-plain : goal.decreases-loop-plain
decreases-loop-plain l = length l.rest
