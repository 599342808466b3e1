use Rattle.std.proofs.Common.{◌≡◌, ◌↔◌, ◌/◌, refl, sym, Some, None, arith}
use Rattle.std.specs.Prelude.{IsTrue}
use Rattle.zbx_types.specs.Ids.{at_id}
use Rattle.maintenance.specs.Force.{InForce, is_in_force}
use Rattle.maintenance.proofs.Deciding.{is_in_force_as}
use Rattle.maintenance.proofs.force.in_force.Goals as goal

pub returns-in-None-clause-value : goal.returns-in-None-clause-value
unfolding is_in_force
returns-in-None-clause-value c =
    let a = c.args in
    let none : at_id a.conf.now.maintenances a.place ≡ None = rw (← c.as_slice.ensures) (sym c.in-None.ensures) in
    rw none refl

pub returns-in-Some : goal.returns-in-Some
returns-in-Some c =
    let a = c.args in
    let found : at_id a.conf.now.maintenances a.place ≡ Some c.in-Some.maintenance.now = rw (← c.as_slice.ensures) (sym c.in-Some.ensures) in
    let second : a.now / 1000000000 ≡ c.now.inside.sec = omega (arith, c.now.view_is, c.now.invariant) in
    let decides : IsTrue c.is_active.result ↔ InForce a.conf.now a.place a.now = rw (found, second) c.is_active.ensures in
    record { value = is_in_force_as a.conf.now a.place a.now c.is_active.result decides; decides = decides }
