use Rattle.std.proofs.Common.{◌≡◌, ◌++◌, take}
use Rattle.std.specs.List.{All, flat_map}
use Rattle.intake_journal.proofs.base_encoding.put_all.Given as goal

abbrev pub invariant-loop-part : goal.invariant-loop-part
invariant-loop-part g l = record { out : l.out ≡ l.fn.out ++ flat_map g.W.Written.bytes (take l.part-index l.parts); typed : All g.W.Written.typed (take l.part-index l.parts) }
