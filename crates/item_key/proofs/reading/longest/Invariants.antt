use Rattle.std.proofs.Common.{◌≡◌, take, Some}
use Rattle.item_key.specs.Machine.{place_of}
use Rattle.item_key.proofs.Runs.{Seen}
use Rattle.item_key.proofs.reading.longest.Given as goal

abbrev pub invariant-loop-byte : goal.invariant-loop-byte
invariant-loop-byte l = record {
  count : l.count ≡ l.byte-index;
  place : place_of (take l.byte-index l.text) ≡ Some l.place;
  seen : Seen l.text l.byte-index l.longest;
}
