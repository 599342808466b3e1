use Rattle.std.proofs.Common.{◌≡◌, ◌+◌, ℕ, List, drop}
use Rattle.std.specs.List.{position_from}
use Rattle.std.specs.Option.{option_or}
use Rattle.trigger_state.specs.Naming.{id_in}
use Rattle.trigger_state.specs.Stages.{has_names, id_named}
use Rattle.trigger_state.proofs.naming.ids_of.Given as goal

abbrev pub invariant-loop-place : goal.invariant-loop-place
invariant-loop-place l = (h q : List ℕ)
    → option_or (id_in l.ids h q) (position_from (has_names l.conf h q) (l.place + 1) (drop l.place l.conf.triggers)) ≡ id_named l.conf h q
