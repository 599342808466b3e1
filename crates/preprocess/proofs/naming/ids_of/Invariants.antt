use Rattle.std.proofs.Common.{◌≡◌, ◌+◌, ℕ, List, drop}
use Rattle.std.specs.List.{position_from}
use Rattle.std.specs.Option.{option_or}
use Rattle.preprocess.specs.Naming.{id_in, is_named, item_named}
use Rattle.preprocess.proofs.naming.ids_of.Given as goal

abbrev pub invariant-loop-place : goal.invariant-loop-place
invariant-loop-place l = (h q : List ℕ)
    → option_or (id_in l.ids h q) (position_from (is_named l.conf h q l.value_type) (l.place + 1) (drop l.place l.conf.items)) ≡ item_named l.conf h q l.value_type
