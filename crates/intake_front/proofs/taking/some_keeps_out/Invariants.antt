use Rattle.std.proofs.Common.{◌≡◌, false, take}
use Rattle.std.specs.List.{list_any}
use Rattle.intake_front.proofs.Collecting.{is_out}
use Rattle.intake_front.proofs.taking.some_keeps_out.Given as goal

abbrev pub invariant-loop-place : goal.invariant-loop-place
invariant-loop-place l = list_any (is_out l.conf l.now) (take l.place l.conf.maintenances) ≡ false
