use Rattle.std.proofs.Common.{◌≡◌, ◌↔◌, ◌/◌, refl, sym, Some, None, arith}
use Rattle.std.specs.Prelude.{IsTrue}
use Rattle.zbx_types.specs.Ids.{at_id}
use Rattle.maintenance.specs.Suppression.{IsSuppressed, is_suppressed}
use Rattle.maintenance.proofs.Deciding.{is_suppressed_as}
use Rattle.maintenance.proofs.suppression.suppressed.Goals as goal

pub returns-in-None-clause-value : goal.returns-in-None-clause-value
unfolding is_suppressed
returns-in-None-clause-value c =
    let a = c.args in
    let none : at_id a.conf.now.triggers a.trigger ≡ None = rw (← c.as_slice.ensures) (sym c.in-None.ensures) in
    rw none refl

pub returns-in-Some : goal.returns-in-Some
returns-in-Some c =
    let a = c.args in
    let found : at_id a.conf.now.triggers a.trigger ≡ Some c.in-Some.trigger.now = rw (← c.as_slice.ensures) (sym c.in-Some.ensures) in
    let second : a.now / 1000000000 ≡ c.now.inside.sec = omega (arith, c.now.view_is, c.now.invariant) in
    let decides : IsTrue c.some_suppresses.result ↔ IsSuppressed a.conf.now a.trigger a.tags.now a.now = rw (found, second) c.some_suppresses.ensures in
    record { value = is_suppressed_as a.conf.now a.trigger a.tags.now a.now c.some_suppresses.result decides; decides = decides }
