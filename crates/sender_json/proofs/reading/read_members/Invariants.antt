use Rattle.std.proofs.Common.{◌≡◌, ℕ, ◌≤◌, length}
use Rattle.json.specs.Json.{members, value}
use Rattle.serde_json.specs.Data.{Members, object}
use Rattle.serde_json.specs.Read.{of_members, converted}
use Rattle.sender_json.specs.Requests.{gathered_by}
use Rattle.sender_json.specs.Seen.{HoldsTop}
use Rattle.sender_json.specs.Tokens.{members_first}
use Rattle.sender_json.proofs.reading.read_members.Given as goal

abbrev pub invariant-members : goal.invariant-members
invariant-members g l = record {
  turns : ℕ;
  enough : length l.reader ≤ turns;
  found : Members;
  reads : members_first l.depth l.initial.reader ≡ converted (λ ms. of_members ms found) (members (value l.depth) turns l.reader);
  holds : HoldsTop (gathered_by (g.G.Gatherer.of l.gatherer) g.E.Element.of) l.top (object found);
  shorter : length l.reader ≤ length l.initial.reader;
}

abbrev pub decreases-members : goal.decreases-members
decreases-members g l = length l.reader
