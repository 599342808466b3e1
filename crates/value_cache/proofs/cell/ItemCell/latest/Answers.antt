use Rattle.std.proofs.Common.{subst, sym, Some}
use Rattle.std.specs.Option.{option_copied, option_map}
use Rattle.value_cache.specs.Cells.{ShowsLatest}
use Rattle.value_cache.proofs.cell.ItemCell.latest.Goals as goal

pub returns-in-Some-clause-latest : goal.returns-in-Some-clause-latest
returns-in-Some-clause-latest c =
    subst (λ v. ShowsLatest c.args.self.now (Some v)) (sym c.value.ensures)
    (subst (λ o. ShowsLatest c.args.self.now (option_map (λ t. t.value) (option_copied o))) c.in-Some.is c.last.ensures.latest)
