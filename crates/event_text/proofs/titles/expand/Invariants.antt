use Rattle.std.proofs.Common.{length}
use denote.Text.{Utf8}
use denote.Shadow.{shadow}
use Rattle.event_text.specs.Cuts.{IsOnTheWay}
use Rattle.event_text.specs.Titles.{expanded, HasPatterns}
use Rattle.event_text.proofs.titles.expand.Given as goal

abbrev pub invariant-loop-rest : goal.invariant-loop-rest
invariant-loop-rest l = record {
  way : IsOnTheWay l.fn.limit l.front (expanded l.host l.values l.rest) (expanded l.host l.values l.fn.text);
  patterns : HasPatterns l.patterns l.rest;
  utf8 : shadow (Utf8 l.rest);
}

abbrev pub decreases-loop-rest : goal.decreases-loop-rest
decreases-loop-rest l = length l.rest
