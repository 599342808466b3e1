use Rattle.std.proofs.Common.{◌≡◌, ◌+◌, drop}
use Rattle.std.specs.Fmt.{char_count}
use Rattle.event_text.proofs.fronts.char_count.Given as goal

abbrev pub invariant-loop-byte : goal.invariant-loop-byte
invariant-loop-byte l = l.count + char_count (drop l.byte-index l.text) ≡ char_count l.text
