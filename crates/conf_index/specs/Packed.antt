-- Lists that lie one behind another in one list, with the place at which each begins. They go by numbers from 0 on.
use Rattle.std.specs.Prelude.{ℕ, ◌+◌, ◌-◌, List, length, take, drop, slice_index_or}

-- the place at which the list of a number begins. Where there is no such list, that is the end of all.
abbrev pub begin_at : List ℕ → ℕ → ℕ → ℕ
begin_at starts end number = slice_index_or starts number end

-- the list of a number. Where there is no such list, it is empty.
abbrev pub row_at : {A : Type 0} → List ℕ → List A → ℕ → List A
row_at starts items number =
    take (begin_at starts (length items) (number + 1) - begin_at starts (length items) number)
    (drop (begin_at starts (length items) number) items)
