use Rattle.std.proofs.Common.{◌≡◌, ◌++◌, string_bytes}
use Rattle.std.specs.List.{flat_map}
use Rattle.json_form.specs.Places.{escaped_char}
use Rattle.json_form.proofs.pointers.put_escaped.Given as goal

abbrev pub invariant-loop-c : goal.invariant-loop-c
invariant-loop-c l = string_bytes l.pointer ≡ string_bytes l.fn.pointer ++ flat_map escaped_char l.yielded
