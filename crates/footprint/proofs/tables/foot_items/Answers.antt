use Rattle.std.proofs.Common.{◌∙◌, refl}
use Rattle.footprint.proofs.TableLemmas.{foot_items_are}
use Rattle.footprint.proofs.tables.foot_items.Goals as goal

pub returns : goal.returns
returns c =
    foot_items_are c.args.conf.now c.args.hanging.now.called.items c.args.hanging.now.under.items c.args.hanging.now.over.items c.in_ok-others.others.items c.in_ok-made.made.items c.requires.called c.requires.under c.requires.over
    (c.in_ok-others.ensures ∙ rw (c.as_slice-items.ensures, c.as_slice.ensures.value, c.as_slice-2.ensures.value) refl)
    (λ id. c.in_ok-made.ensures id ∙ rw (c.as_slice-items.ensures, c.as_slice-3.ensures.value, c.as_slice-4.ensures.value) refl)
