use Rattle.std.proofs.Common.{◌≡◌, length, map}
use Rattle.zbx_types.specs.Ids.{ids_from}
use Rattle.zbx_types.specs.declared.entries.Numbered.{Numbered}
use Rattle.event_cases.proofs.claims.entries.Given as goal

abbrev pub invariant-loop-place : goal.invariant-loop-place
invariant-loop-place l = record {
  size : length l.made ≡ l.place;
  numbers : map (λ (e : Numbered). e.number) l.made ≡ ids_from l.first l.made;
}
