-- Ids that are found in feet.
use Rattle.std.specs.Prelude.{◌≡◌, ℕ, Bool, true, ◌||◌, List}
use Rattle.zbx_types.specs.Masters.{has_id}
use Rattle.footprint.specs.Rows.{is_one}

-- with ids that were found before, those of a list's ids that pass a test are found
abbrev pub IsFound : {A : Type 0} → List A → List ℕ → (ℕ → Bool) → List ℕ → Type 0
IsFound all before test found = (id : ℕ) → is_one all id ≡ true → has_id found id ≡ (has_id before id || test id)
