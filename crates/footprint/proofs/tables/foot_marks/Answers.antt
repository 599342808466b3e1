use Rattle.std.proofs.Common.{◌∙◌, refl}
use Rattle.footprint.proofs.TableLemmas.{marks_are, met_are}
use Rattle.footprint.proofs.tables.foot_marks.Goals as goal

pub returns-clause-own : goal.returns-clause-own
returns-clause-own c =
    marks_are c.args.conf.now c.in_ok-reached.reached.items c.args.triggers.now c.in_ok-own.own.items (c.in_ok-reached.ensures ∙ rw (c.as_slice-rules.ensures, c.as_slice-all.ensures) refl) c.requires
    (c.in_ok-own.ensures ∙ rw (c.as_slice-rules.ensures, c.as_slice.ensures.value) refl)

pub returns-clause-met : goal.returns-clause-met
returns-clause-met c =
    met_are c.args.conf.now c.in_ok-reached.reached.items c.in_ok-members.members.items c.in_ok-shares.shares.items c.in_ok-own.own.items c.in_ok-met.met.items (c.in_ok-reached.ensures ∙ rw (c.as_slice-rules.ensures, c.as_slice-all.ensures) refl)
    (λ id. c.in_ok-members.ensures id ∙ rw (c.as_slice-rules.ensures, c.as_slice-all.ensures, c.as_slice-2.ensures.value) refl)
    (c.in_ok-shares.ensures ∙ rw (c.as_slice-rules.ensures, c.as_slice-3.ensures.value, c.as_slice-4.ensures.value) refl)
    (marks_are c.args.conf.now c.in_ok-reached.reached.items c.args.triggers.now c.in_ok-own.own.items (c.in_ok-reached.ensures ∙ rw (c.as_slice-rules.ensures, c.as_slice-all.ensures) refl) c.requires
    (c.in_ok-own.ensures ∙ rw (c.as_slice-rules.ensures, c.as_slice.ensures.value) refl))
    (c.in_ok-met.ensures ∙ rw (c.as_slice-rules.ensures, c.as_slice-5.ensures.value, c.as_slice-6.ensures.value) refl)
