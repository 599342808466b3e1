-- What a visit changes.
use Rattle.std.specs.Prelude.{ℕ, List, Option, Some, None}
use Rattle.zbx_types.specs.Ids.{at_id}
use Rattle.zbx_types.specs.declared.entries.Stored.{Stored}
use Rattle.preprocess.specs.Draft.{Kept, kept_with}
use Rattle.preprocess.specs.Rows.{with_row}

-- what cells keep with one more value of an item that keeps this, if it has a cell
abbrev pub kept_row : ℕ → Stored → ℕ → List Kept → Option Kept → List Kept
kept_row now stored id rows None = rows
kept_row now stored id rows (Some kept) = with_row rows id (kept_with now (Some stored) kept)

-- what cells keep with one more value of an item, if there is one
abbrev pub kept_put : ℕ → Option Stored → ℕ → List Kept → List Kept
kept_put now None id rows = rows
kept_put now (Some stored) id rows = kept_row now stored id rows (at_id rows id)
