use Rattle.std.proofs.Common.{◌≡◌, ◌++◌, take, drop}
use Rattle.std.specs.Fmt.{take_chars}
use Rattle.event_text.proofs.fronts.end_of_chars.Given as goal

abbrev pub invariant-loop-index : goal.invariant-loop-index
invariant-loop-index l = take l.index l.text ++ take_chars l.left (drop l.index l.text) ≡ take_chars l.count l.text
