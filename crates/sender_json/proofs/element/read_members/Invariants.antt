use Rattle.std.proofs.Common.{◌≡◌, ℕ, ◌≤◌, length, codes}
use Rattle.json.specs.Json.{members, value}
use Rattle.serde_json.specs.Data.{Members, object}
use Rattle.serde_json.specs.Read.{of_members, converted}
use Rattle.sender_json.specs.Seen.{Holds}
use Rattle.sender_json.specs.Tokens.{members_first}
use Rattle.sender_json.proofs.element.read_members.Given as goal

abbrev pub invariant-members : goal.invariant-members
invariant-members l = record {
  turns : ℕ;
  enough : length l.reader ≤ turns;
  found : Members;
  reads : members_first l.depth l.initial.reader ≡ converted (λ ms. of_members ms found) (members (value l.depth) turns l.reader);
  host : Holds (codes "host") l.host (object found);
  key : Holds (codes "key") l.key (object found);
  value : Holds (codes "value") l.value (object found);
  clock : Holds (codes "clock") l.clock (object found);
  ns : Holds (codes "ns") l.ns (object found);
  state : Holds (codes "state") l.state (object found);
  shorter : length l.reader ≤ length l.initial.reader;
}

abbrev pub decreases-members : goal.decreases-members
decreases-members l = length l.reader
