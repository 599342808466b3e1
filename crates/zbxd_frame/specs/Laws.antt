-- What bytes are, in the words of frames.
use Rattle.std.specs.Prelude.{◌≡◌, ◌≢◌, ℕ, List, [], ◌++◌}
use Rattle.zbx_types.specs.Frames.{IsFrame}
use Rattle.zbxd_frame.specs.Found.{Found, short, whole, bad, found}
use Rattle.zbxd_frame.specs.declared.fault.Fault.{Fault}

-- they are a frame of this body and what stands behind it
abbrev pub BeginsWithFrame : List ℕ → List ℕ → List ℕ → Type 0
BeginsWithFrame body behind bytes = (front : List ℕ) × (bytes ≡ front ++ behind) × IsFrame body front

-- they are the beginning of a frame, and not the whole of it
pub record IsPartOfFrame (bytes : List ℕ) : Type 0 where
  pub body : List ℕ
  pub more : List ℕ
  pub goes_on : more ≢ []
  pub is_frame : IsFrame body (bytes ++ more)

-- no frame begins with them, and they begin with no frame
abbrev pub IsNoFrame : List ℕ → Type 0
IsNoFrame bytes = (body front more : List ℕ) → IsFrame body front → (bytes ++ more ≢ front) × (front ++ more ≢ bytes)

-- the bytes at the end of a piece
abbrev pub EndsWith : List ℕ → List ℕ → Type 0
EndsWith behind piece = (used : List ℕ) × (piece ≡ used ++ behind)

-- what is found where more bytes follow those of a frame, or those that no frame begins with
abbrev pub found_onward : Found → List ℕ → Found
found_onward short more = short
found_onward (whole body behind) more = whole body (behind ++ more)
found_onward (bad fault) more = bad fault

-- what is found of the bytes is true of them, and more bytes don't change it
pub record IsFoundRight (bytes : List ℕ) : Type 0 where
  pub whole_is : (body behind : List ℕ) → found bytes ≡ whole body behind → BeginsWithFrame body behind bytes
  pub short_is : found bytes ≡ short → IsPartOfFrame bytes
  pub bad_is : (fault : Fault) → found bytes ≡ bad fault → IsNoFrame bytes
  pub onward : (more : List ℕ) → found bytes ≢ short → found (bytes ++ more) ≡ found_onward (found bytes) more
