use Rattle.std.proofs.Common.{◌≡◌, drop}
use Rattle.json_text.specs.Trees.{members_of}
use Rattle.json_text.specs.Json.{member_list}
use Rattle.json_path.specs.Comparing.{named_in}
use Rattle.json_path.proofs.comparing.first_named.Given as goal

abbrev pub invariant-loop-member : goal.invariant-loop-member
invariant-loop-member l = named_in l.name (member_list (members_of (drop l.member-index l.members))) ≡ named_in l.name (member_list (members_of l.members))
