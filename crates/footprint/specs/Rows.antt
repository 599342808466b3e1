-- Rows of ids, and what they have in common.
use Rattle.std.specs.Prelude.{◌≡◌, ℕ, ◌==◌, Bool, true, false, ◌&&◌, ◌||◌, nat_lt, nat_le, ◌+◌, if◌then◌else◌, List, []}
use Rattle.std.specs.Prelude.{◌∷◌, filter, length, slice_get}
use Rattle.std.specs.List.{list_any, list_all}
use Rattle.std.specs.Option.{unwrap_or}
use Rattle.zbx_types.specs.Ids.{ids_from}
use Rattle.zbx_types.specs.Masters.{has_id}

-- the row at an id, empty where there is none
abbrev pub row_at : List (List ℕ) → ℕ → List ℕ
row_at rows id = unwrap_or (slice_get rows id) []

-- the ids of a list that a test tells, rising
abbrev pub those : {A : Type 0} → List A → (ℕ → Bool) → List ℕ
those all test = filter test (ids_from 1 all)

-- an id is below a count of rows, and isn't 0
abbrev pub is_in : ℕ → ℕ → Bool
is_in count id = nat_lt 0 id && nat_lt id count

-- an id is one of a list's
abbrev pub is_one : {A : Type 0} → List A → ℕ → Bool
is_one all id = is_in (length all + 1) id

-- those ids of a list that the rows at some ids hold
unfoldable pub held_by : {A : Type 0} → List A → List (List ℕ) → List ℕ → List ℕ
held_by all table ids = those all (λ x. list_any (λ id. has_id (row_at table id) x) ids)

-- the rows at each id are those that a function tells
abbrev pub IsTable : List (List ℕ) → (ℕ → List ℕ) → Type 0
IsTable rows f = (id : ℕ) → row_at rows id ≡ f id

-- two rows have an id in common
abbrev pub meet : List ℕ → List ℕ → Bool
meet xs ys = list_any (λ x. has_id ys x) xs

-- each id is below those behind it
abbrev pub rises : List ℕ → Bool
rises [] = true
rises (x ∷ xs) = list_all (λ y. nat_lt x y) xs && rises xs

-- each row rises
abbrev pub RowsRise : List (List ℕ) → Type 0
RowsRise rows = (id : ℕ) → rises (row_at rows id) ≡ true

-- those of a list's ids that rise from above one up to a size
abbrev pub risen : ℕ → ℕ → List ℕ → List ℕ
risen size last [] = []
risen size last (x ∷ xs) = if nat_lt last x && nat_le x size then x ∷ risen size x xs else risen size last xs

-- a row for each id of a list, from this one on
abbrev pub rows_from : {A : Type 0} → (ℕ → List ℕ) → ℕ → List A → List (List ℕ)
rows_from f id [] = []
rows_from f id (x ∷ xs) = f id ∷ rows_from f (id + 1) xs

-- a table: an empty row for 0, and a row for each id of a list
abbrev pub table_of : {A : Type 0} → List A → (ℕ → List ℕ) → List (List ℕ)
table_of all f = [] ∷ rows_from f 1 all

-- what is left of rising ids from one on
abbrev pub from_id : ℕ → List ℕ → List ℕ
from_id x [] = []
from_id x (y ∷ ys) = if nat_lt y x then from_id x ys else y ∷ ys

-- a list begins with an id
abbrev pub begins : ℕ → List ℕ → Bool
begins x [] = false
begins x (y ∷ ys) = y == x

-- rising ids are walked side by side until one is in both
abbrev pub walk_meets : List ℕ → List ℕ → Bool
walk_meets [] ys = false
walk_meets (x ∷ xs) ys = begins x (from_id x ys) || walk_meets xs (from_id x ys)

-- one is added to the rows at some ids
abbrev pub IsNoted : List (List ℕ) → List ℕ → ℕ → List (List ℕ) → Type 0
IsNoted before ids one rows =
    (id x : ℕ)
    → has_id (row_at rows id) x
    ≡ (has_id (row_at before id) x || (is_in (length before) id && (has_id ids id && (one == x))))

-- so many rows hold, of the first rows so many, those that hold their ids
abbrev pub IsTurned : ℕ → ℕ → List (List ℕ) → List (List ℕ) → Type 0
IsTurned count known rows turned =
    (id x : ℕ) → has_id (row_at turned id) x ≡ (is_in count id && (nat_lt x known && has_id (row_at rows x) id))
