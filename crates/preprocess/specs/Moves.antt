-- Cells that are moved.
use Rattle.std.specs.Prelude.{◌≡◌, ℕ, Bool, true, false, List, Option, Some, None, slice_get}
use Rattle.zbx_types.specs.Ids.{at_id}
use Rattle.preprocess.specs.Rows.{with_row}

-- the mark of an id was there, and is taken; where there is no id, all marks are as before
abbrev pub Claims : List Bool → List Bool → Option ℕ → Type 0
Claims before after None = before ≡ after
Claims before after (Some id) = (at_id before id ≡ Some true) × (after ≡ with_row before id false)

-- no id stands at two places
abbrev pub GoApart : List (Option ℕ) → Type 0
GoApart olds = (p q id : ℕ) → slice_get olds p ≡ Some (Some id) → slice_get olds q ≡ Some (Some id) → p ≡ q
