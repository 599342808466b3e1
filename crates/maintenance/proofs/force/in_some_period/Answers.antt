use Rattle.std.proofs.Common.{rules, tests}
use Rattle.std.proofs.lemmas.Iterator.{cases_from_any, YieldsList-from_slice}
use Rattle.zbx_types.specs.declared.maintenances.Period.{Period}
use Rattle.maintenance.specs.Force.{IsInPeriod}
use Rattle.maintenance.proofs.Anyone.{found_decides}
use Rattle.maintenance.proofs.force.in_some_period.Goals as goal

pub returns : goal.returns
returns c =
    let a = c.args in
    let P : Period → Type 0 = IsInPeriod a.conf.now.utc_offset a.maintenance.now.since a.second in
    found_decides P c.any.result a.maintenance.now.periods
    (cases_from_any _ _ _ P (λ x. P x → ⊥) c.any.ensures.ran (YieldsList-from_slice a.maintenance.now.periods cc) (λ x q k. search (rules, tests)) (λ x q k. search (rules, tests)))
