use Rattle.std.proofs.Common.{◌∙◌, ◌+◌, map, length, refl, ap}
use Rattle.zbx_types.specs.Masters.{has_id}
use Rattle.footprint.specs.Rows.{row_at, those}
use Rattle.footprint.proofs.RowLemmas.{inverse_is}
use Rattle.footprint.proofs.rows.inverse.Goals as goal

pub returns : goal.returns
returns g c id =
    ap (λ rows. row_at rows id) (c.in_ok-made.ensures ∙ ap (λ rows. map (λ row. those c.args.from.now (has_id row)) rows) c.as_slice.ensures.value)
    ∙ inverse_is c.args.all.now c.args.from.now c.args.rows.now c.in_ok-turned.turned.items (length c.args.all.now + 1) c.requires refl c.in_ok-turned.ensures id
