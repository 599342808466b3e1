use Rattle.std.proofs.Common.{◌∙◌}
use Rattle.std.proofs.lemmas.Result.{err_from_is_err_and}
use Rattle.host_layout.proofs.AllLinks.{known-links, no_cycles, templates_told, hosts_told, cycles_told}
use Rattle.host_layout.proofs.templates.links.Links.of.Goals as goal

pub returns-in_err-templates-clause-refused : goal.returns-in_err-templates-clause-refused
returns-in_err-templates-clause-refused c =
    let p = err_from_is_err_and c.from_residual-in_err-templates.result c.from_residual-in_err-templates.ensures.1 in
    rw (p.1, p.2) (templates_told c.args.raw.now c.in_ok-names.names.templates.now c.as_slice-2.result.now c.in_err-templates.field-0.0
    (c.in_ok-names.ensures ∙ c.as_slice.ensures) c.as_slice-2.ensures c.in_err-templates.ensures.refused)

pub returns-in_err-hosts-clause-refused : goal.returns-in_err-hosts-clause-refused
returns-in_err-hosts-clause-refused c =
    let p = err_from_is_err_and c.from_residual-in_err-hosts.result c.from_residual-in_err-hosts.ensures.1 in
    rw (p.1, p.2) (hosts_told c.args.raw.now c.in_ok-names.names.templates.now c.as_slice-2.result.now c.as_slice-3.result.now c.in_err-hosts.field-0.0
    (c.in_ok-names.ensures ∙ c.as_slice.ensures) c.as_slice-2.ensures c.as_slice-3.ensures c.in_ok-templates.ensures.known c.in_err-hosts.ensures.refused)

pub returns-in_err-acyclic-clause-refused : goal.returns-in_err-acyclic-clause-refused
returns-in_err-acyclic-clause-refused c =
    let p = err_from_is_err_and c.from_residual-in_err-acyclic.result c.from_residual-in_err-acyclic.ensures.1 in
    rw (p.1, p.2) (cycles_told c.args.raw.now c.in_ok-names.names.templates.now c.in_err-acyclic.field-0.0
    (c.in_ok-names.ensures ∙ c.as_slice.ensures)
    (known-links c.args.raw.now c.in_ok-names.names.templates.now c.as_slice-2.result.now c.as_slice-3.result.now
    (c.in_ok-names.ensures ∙ c.as_slice.ensures) c.as_slice-2.ensures c.as_slice-3.ensures c.in_ok-templates.ensures.known c.in_ok-hosts.ensures.known)
    c.in_err-acyclic.ensures.refused)

pub returns-clause-known : goal.returns-clause-known
returns-clause-known c =
    known-links c.args.raw.now c.in_ok-names.names.templates.now c.as_slice-2.result.now c.as_slice-3.result.now
    (c.in_ok-names.ensures ∙ c.as_slice.ensures) c.as_slice-2.ensures c.as_slice-3.ensures c.in_ok-templates.ensures.known c.in_ok-hosts.ensures.known

pub returns-clause-acyclic : goal.returns-clause-acyclic
returns-clause-acyclic c =
    no_cycles c.args.raw.now c.in_ok-names.names.templates.now (c.in_ok-names.ensures ∙ c.as_slice.ensures) c.in_ok-acyclic.ensures.none
