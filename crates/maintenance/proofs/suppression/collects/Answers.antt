use Rattle.std.proofs.Common.{◌≡◌, ◌↔◌, ◌/◌, arith}
use Rattle.std.specs.Prelude.{IsTrue}
use Rattle.std.proofs.lemmas.Bool.Decides.{Decides-not}
use Rattle.maintenance.specs.Suppression.{Collects}
use Rattle.std.proofs.Common.{not}
use Rattle.maintenance.proofs.Deciding.{is_collected_as}
use Rattle.maintenance.proofs.suppression.collects.Goals as goal

pub returns : goal.returns
returns c =
    let a = c.args in
    let second : a.now / 1000000000 ≡ c.now.inside.sec = omega (arith, c.now.view_is, c.now.invariant) in
    let some = rw (← second) at c.some_keeps_out.ensures in
    let decides : IsTrue (not c.some_keeps_out.result) ↔ Collects a.conf.now a.host a.now = Decides-not c.some_keeps_out.result some in
    record { value = is_collected_as a.conf.now a.host a.now (not c.some_keeps_out.result) decides; decides = decides }
