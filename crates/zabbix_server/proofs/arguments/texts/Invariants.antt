use Rattle.std.proofs.Common.{◌≡◌, ◌++◌, map, string_bytes}
use Rattle.std.specs.Vec.Iter.{into_iter_items}
use Rattle.zabbix_server.proofs.arguments.texts.Given as goal

-- the words so far, and those of the arguments that are left
abbrev pub invariant-loop-argument : goal.invariant-loop-argument
invariant-loop-argument l = l.words ++ map string_bytes (into_iter_items l.argument-iterator) ≡ map string_bytes (into_iter_items l.fn.arguments)
