use Rattle.std.proofs.Common.{◌≡◌, ℕ, List, subst}
use Rattle.std.specs.Prelude.{IfOk}
use Rattle.footprint.proofs.Settling.{gathered_is}
use Rattle.footprint.proofs.rows.gathered.Goals as goal

pub returns : goal.returns
returns g c =
    subst (λ (r : List ℕ). IfOk c.settled.result (λ row. row ≡ r))
    (gathered_is c.args.all.now c.args.table.now c.args.ids.now c.in_ok-joined.field-0.items c.in_ok-joined.ensures)
    c.settled.ensures
