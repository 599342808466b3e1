use Rattle.std.proofs.Common.{◌∙◌, ◌∷◌, ap, arith}
use Rattle.zbx_types.specs.Masters.{masters_of}
use Rattle.footprint.proofs.TableLemmas.{rows_go}
use Rattle.footprint.proofs.tables.families.Goals as goal

pub loop-place-preserved : goal.loop-place-preserved
loop-place-preserved c =
    rows_go (λ t. t ∷ masters_of c.args.conf.now t) c.args.conf.now.triggers c.loop-place.made.items c.push-in-loop-place.new.self.items _ c.in_ok-family.field-0 c.loop-place.place
    (omega (arith, c.loop-place-test.true, c.len-place-end.ensures)) c.in_ok-push-2.ensures.items (c.in_ok-family.ensures ∙ ap (λ t. t ∷ masters_of c.args.conf.now t) c.in_ok-id_of.ensures) c.loop-place.invariant
