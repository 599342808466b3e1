use Rattle.std.proofs.Common.{◌≡◌, drop}
use Rattle.footprint.specs.Rows.{from_id}
use Rattle.footprint.proofs.meeting.from_id.Given as goal

abbrev pub invariant-loop-place : goal.invariant-loop-place
invariant-loop-place l = from_id l.id (drop l.place l.ids) ≡ from_id l.id l.ids
