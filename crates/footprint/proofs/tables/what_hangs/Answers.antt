use Rattle.std.proofs.Common.{◌∙◌, length, refl, ap, arith}
use Rattle.footprint.specs.Feet.{chain}
use Rattle.footprint.proofs.TableLemmas.{length_rows, under_is, called_is, over_is}
use Rattle.footprint.proofs.tables.what_hangs.Goals as goal

pub inverse-requires : goal.inverse-requires
inverse-requires c = ap length (c.as_slice.ensures.value ∙ c.in_ok-chains.ensures) ∙ (let e = length_rows (chain c.args.conf.now (length c.args.conf.now.items)) 1 c.args.conf.now.items in let f = ap length c.as_slice-items.ensures in omega (arith, e, f))

pub returns-clause-called : goal.returns-clause-called
returns-clause-called c = called_is c.args.conf.now c.in_ok-called.called.items (c.in_ok-called.ensures ∙ rw c.as_slice-triggers.ensures refl)

pub returns-clause-under : goal.returns-clause-under
returns-clause-under c =
    under_is c.args.conf.now c.in_ok-chains.chains.items c.in_ok-under.under.items c.in_ok-chains.ensures
    (λ id. c.in_ok-under.ensures id ∙ rw (c.as_slice-items.ensures, c.as_slice.ensures.value) refl)

pub returns-clause-over : goal.returns-clause-over
returns-clause-over c =
    over_is c.args.conf.now c.in_ok-called.called.items c.in_ok-calls.calls.items c.in_ok-under.under.items c.in_ok-over.over.items
    (called_is c.args.conf.now c.in_ok-called.called.items (c.in_ok-called.ensures ∙ rw c.as_slice-triggers.ensures refl))
    (under_is c.args.conf.now c.in_ok-chains.chains.items c.in_ok-under.under.items c.in_ok-chains.ensures (λ id. c.in_ok-under.ensures id ∙ rw (c.as_slice-items.ensures, c.as_slice.ensures.value) refl))
    (λ id. c.in_ok-calls.ensures id ∙ rw (c.as_slice-items.ensures, c.as_slice-triggers.ensures, c.as_slice-2.ensures.value) refl)
    (c.in_ok-over.ensures ∙ rw (c.as_slice-triggers.ensures, c.as_slice-3.ensures.value, c.as_slice-4.ensures.value) refl)
