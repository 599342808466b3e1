use Rattle.std.proofs.Common.{◌≡◌, ◌++◌, length}
use denote.Text.{Utf8}
use denote.Shadow.{shadow}
use Rattle.event_text.specs.Forms.{patterns_of}
use Rattle.event_text.proofs.titles.patterns_in.Given as goal

abbrev pub invariant-loop-behind : goal.invariant-loop-behind
invariant-loop-behind l = record {
  so_far : l.made ++ patterns_of l.rest ≡ patterns_of l.text;
  utf8 : shadow (Utf8 l.rest);
}

abbrev pub decreases-loop-behind : goal.decreases-loop-behind
decreases-loop-behind l = length l.rest
