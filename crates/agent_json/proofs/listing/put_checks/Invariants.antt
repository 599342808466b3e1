use Rattle.std.proofs.Common.{◌≡◌, ◌++◌, drop, true}
use Rattle.agent_json.specs.Checks.{told}
use Rattle.agent_json.proofs.listing.put_checks.Given as goal

abbrev pub invariant-loop-item : goal.invariant-loop-item
invariant-loop-item l = l.body ++ told l.host l.first (drop l.item-index l.items) ≡ l.fn.body ++ told l.host true l.items
