-- What whole reads do.
use Rattle.std.specs.Prelude.{◌≡◌, ◌⊎◌, ◌≤◌, ◌<◌, ◌+◌, ℕ, List, length, Option, IsErrOf, Result}
use Rattle.std.specs.Io.KnownBytes.{Consumes}
use Rattle.outside.specs.Causes.{Rose}
use Rattle.whole_texts.specs.declared.reading.ReadError.{ReadError}
use Rattle.whole_texts.specs.declared.reading.ReadError.TheVariants as errors

-- the whole text, or more than `most` bytes of a text that has more
abbrev pub IsTextUpTo : ℕ → List ℕ → List ℕ → Type 0
IsTextUpTo most all text = (text ≡ all) ⊎ ((most < length text) × (most < length all))

-- a text was taken from the front of what a source has left, at most one byte more than `most`
abbrev pub ReadsText : ℕ → Option (List ℕ) → Option (List ℕ) → List ℕ → Type 0
ReadsText most left left' text = (length text ≤ most + 1) × Consumes left left' text

-- some text was
abbrev pub ReadsUpTo : ℕ → Option (List ℕ) → Option (List ℕ) → Type 0
ReadsUpTo most left left' = (text : List ℕ) × ReadsText most left left' text

-- the count of a source has not fallen, and where the read failed it rose
pub record HasReadCause {T : Type 0} (before now : ℕ) (result : Result T ReadError) : Type 0 where
  pub later : before ≤ now
  pub failed : IsErrOf result errors.Failed → Rose before now
