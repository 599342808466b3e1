use Rattle.std.proofs.Common.{rules, tests}
use Rattle.std.proofs.lemmas.Iterator.{cases_from_any, YieldsList-from_slice}
use Rattle.zbx_types.specs.declared.maintenances.Maintenance.{Maintenance}
use Rattle.maintenance.specs.Suppression.{KeepsOut}
use Rattle.maintenance.proofs.Anyone.{found_decides}
use Rattle.maintenance.proofs.suppression.some_keeps_out.Goals as goal

pub returns : goal.returns
returns c =
    let a = c.args in
    let P : Maintenance → Type 0 = KeepsOut a.conf.now a.host a.second in
    found_decides P c.any.result a.conf.now.maintenances
    (cases_from_any _ _ _ P (λ x. P x → ⊥) c.any.ensures.ran (YieldsList-from_slice a.conf.now.maintenances cc) (λ x q k. search (rules, tests)) (λ x q k. search (rules, tests)))
