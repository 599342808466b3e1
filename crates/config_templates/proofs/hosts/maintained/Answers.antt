use Rattle.std.proofs.Common.{◌++◌, ◌∙◌, codes, length, ap, sym, arith, None, Some, if◌then◌else◌}
use Rattle.zbx_types.specs.declared.causes.Cause.TheVariants.{UnknownName}
use Rattle.config_templates.specs.NamedHosts.{unknown_host, maintenance_at, maintained}
use Rattle.host_layout.specs.Places.{first_fault}
use Rattle.config_templates.proofs.HostFaults.{element_told}
use Rattle.config_templates.proofs.hosts.maintained.Goals as goal

pub returns-then-not-is_host-clause-refused : goal.returns-then-not-is_host-clause-refused
returns-then-not-is_host-clause-refused c =
    let hosts = c.args.raw.now.hosts in
    let m = c.args.maintenance.now in
    element_told (unknown_host hosts) ((maintenance_at c.args.place m).path ++ codes "/hosts") m.hosts c.loop-at.at c.name-item.result UnknownName
    (first_fault (unknown_host hosts) (maintained (maintenance_at c.args.place m))) c.refused_maintenance.result
    (omega (arith, c.loop-at-test.true, ap length c.as_slice-name-items.ensures)) (rw c.as_slice-name-items.ensures at c.name-item.is)
    (ap (λ b. if b then None else Some UnknownName) (sym c.is_host.ensures ∙ c.if-not-is_host.true)) c.loop-at.invariant c.refused_maintenance.ensures
