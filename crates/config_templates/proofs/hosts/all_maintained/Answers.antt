use Rattle.std.proofs.Common.{codes, length, ap, arith}
use Rattle.std.proofs.lemmas.Result.{err_from_is_err_and}
use Rattle.config_templates.specs.NamedHosts.{unknown_host, maintained, all_maintained}
use Rattle.host_layout.specs.Places.{first_fault}
use Rattle.config_templates.proofs.HostFaults.{list_told}
use Rattle.config_templates.proofs.hosts.all_maintained.Goals as goal

pub returns-in_err-maintained-clause-refused : goal.returns-in_err-maintained-clause-refused
returns-in_err-maintained-clause-refused c =
    let raw = c.args.raw.now in
    let p = err_from_is_err_and c.from_residual.result c.from_residual.ensures.1 in
    rw (p.1, p.2) (list_told (unknown_host raw.hosts) maintained (codes "/maintenances") raw.maintenances c.loop-place.place c.one-item.result
    (first_fault (unknown_host raw.hosts) (all_maintained raw)) c.in_err-maintained.field-0.0
    (omega (arith, c.loop-place-test.true, ap length c.as_slice-one-items.ensures)) (rw c.as_slice-one-items.ensures at c.one-item.is) c.in_err-maintained.ensures.refused c.loop-place.invariant)
