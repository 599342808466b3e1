use Rattle.std.proofs.Common.{◌∙◌, refl}
use Rattle.footprint.proofs.TableLemmas.{foot_triggers_are}
use Rattle.footprint.proofs.tables.foot_triggers.Goals as goal

pub returns : goal.returns
returns c =
    foot_triggers_are c.args.conf.now c.in_ok-families.families.items c.args.over.now c.in_ok-made.made.items c.requires.over c.in_ok-families.ensures
    (c.in_ok-made.ensures ∙ rw (c.as_slice.ensures.value, c.as_slice-2.ensures) refl)
