use Rattle.std.proofs.Common.{◌≡◌, drop}
use Rattle.footprint.specs.Rows.{walk_meets}
use Rattle.footprint.proofs.meeting.walk_meets.Given as goal

abbrev pub invariant-loop-id : goal.invariant-loop-id
invariant-loop-id l = walk_meets (drop l.id-index l.a) l.rest ≡ walk_meets l.a l.b
