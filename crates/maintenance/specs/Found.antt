-- Searches that answer a test.
use Rattle.std.specs.Prelude.{ℕ, zero, suc, Bool, false, ◌||◌, Option, Some, None}

-- some number below a bound passes
unfoldable pub some_below : (ℕ → Bool) → ℕ → Bool
some_below test zero = false
some_below test (suc n) = test n || some_below test n

-- there is something, and it passes
abbrev pub is_some_that : {A : Type 0} → (A → Bool) → Option A → Bool
is_some_that test None = false
is_some_that test (Some x) = test x
