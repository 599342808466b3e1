use Rattle.std.proofs.Common.{◌∙◌, ◌==◌, ◌&&◌, ◌||◌, not, ap, refl}
use Rattle.zbx_types.specs.Masters.{has_id}
use Rattle.syncer_gate.specs.Stamped.{is_stamped}
use Rattle.syncer_gate.proofs.TouchLemmas.{value_touched}
use Rattle.syncer_gate.proofs.touched.Touched.touch_value.Goals as goal

pub returns : goal.returns
returns c =
    value_touched _ _ _ c.args.item refl refl
    (λ x. c.in_ok-note_lone.ensures x ∙ ap (λ row. has_id c.args.self.now.lone.items x || ((c.args.item == x) && not (has_id row c.args.item))) c.items.ensures.row)
    (λ x. c.in_ok-set_all.ensures x ∙ ap (λ row. is_stamped c.args.self.now.items x || has_id row x) c.items-2.ensures.row)
    (λ x. c.in_ok-set_all-2.ensures x ∙ ap (λ row. is_stamped c.args.self.now.triggers x || has_id row x) c.triggers.ensures.row)
    (λ x. c.in_ok-set_all-3.ensures x ∙ ap (λ row. is_stamped c.args.self.now.marks x || has_id row x) c.marks.ensures.row)
