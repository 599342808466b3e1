use Rattle.std.proofs.Common.{◌≡◌, ◌∙◌, ◌-◌, ap, length, subst, sym}
use Rattle.std.specs.Prelude.{slice_get}
use Rattle.std.specs.Option.{option_copied, option_map}
use Rattle.value_cache.specs.Cells.{ShowsLatest}
use Rattle.value_cache.proofs.Pruning.{shows_latest}
use Rattle.value_cache.proofs.Shown.{latest_got}
use Rattle.value_cache.proofs.cell.ItemCell.last.Goals as goal

first : (c : goal.After-last) → option_copied c.last.result ≡ slice_get c.self.inside.tokens.items (length c.self.inside.tokens.items - 1)
first c = c.last.ensures.value ∙ ap (λ xs. slice_get xs (length xs - 1)) c.as_slice.ensures

pub returns-clause-value : goal.returns-clause-value
returns-clause-value c = latest_got c.self.inside.tokens.items (option_copied c.last.result) (first c) ∙ ap (λ cell. slice_get cell.values 0) c.self.view_is

pub returns-clause-latest : goal.returns-clause-latest
returns-clause-latest c =
    subst (λ cell. ShowsLatest cell (option_map (λ t. t.value) (option_copied c.last.result))) c.self.view_is
    (subst (ShowsLatest _) (sym (latest_got c.self.inside.tokens.items (option_copied c.last.result) (first c))) (shows_latest _ c.self.invariant))
