use Rattle.std.proofs.Common.{◌≡◌, ◌++◌, drop}
use Rattle.json_text.specs.Trees.{members_of}
use Rattle.json_text.specs.Json.{member_list}
use Rattle.json_path.specs.Contents.{member_values}
use Rattle.json_path.specs.Seen.{seen}
use Rattle.json_path.proofs.contents.add_members.Given as goal

abbrev pub invariant-loop-member : goal.invariant-loop-member
invariant-loop-member l = seen l.found.items ++ member_values (member_list (members_of (drop l.member-index l.members))) ≡ seen l.fn.found.items ++ member_values (member_list (members_of l.members))
