-- Functions of neighbouring values (the Zabbix 6.0 manual, "History functions").
use Rattle.std.specs.Prelude.{ℕ, ◌==◌, length, ℤ, int_lt, int_le, Bool, true, not, List, count_by, codes, bytes_eq, Option, Some, None, option_and_then, if◌then◌else◌}
use Rattle.std.specs.Ordering.{int_eq}
use Rattle.std.specs.List.{list_all}
use Rattle.zbx_types.specs.Arithmetic.{truth, difference_of}
use Rattle.zbx_types.specs.declared.entries.Stored.{Stored}
use Rattle.zbx_types.specs.declared.entries.Held.{Held}
use Rattle.zbx_types.specs.declared.entries.Held.TheVariants.{Number, Words}
use Rattle.history_functions.specs.Values.{neighbours, nth_last, whole}
use Rattle.history_functions.specs.declared.changes.Counted.{Counted}
use Rattle.history_functions.specs.declared.changes.Counted.TheVariants.{Every, Rises, Falls}

-- a later value less an earlier one; of texts 0 where they are equal, else 1
abbrev pub change_between : Held → Held → Option ℤ
change_between (Number later) (Number earlier) = difference_of later earlier
change_between (Words later) (Words earlier) = Some (truth (not (bytes_eq later earlier)))
change_between (Number later) (Words earlier) = None
change_between (Words later) (Number earlier) = None

-- `change`: the latest value less the one before it
abbrev pub change_of : List Stored → Option ℤ
change_of window =
    option_and_then (λ earlier. option_and_then (λ later. change_between later.value earlier.value) (nth_last 1 window))
    (nth_last 2 window)

-- what `changecount` counts, by its mode
abbrev pub counted_by : List ℕ → Counted
counted_by mode = if bytes_eq mode (codes "inc") then Rises else if bytes_eq mode (codes "dec") then Falls else Every

-- a number after an earlier one counts
abbrev pub number_counts : Counted → ℤ → ℤ → Bool
number_counts Every later earlier = not (int_eq later earlier)
number_counts Rises later earlier = int_lt earlier later
number_counts Falls later earlier = int_lt later earlier

-- a value after an earlier one counts: of texts each that differs
abbrev pub counts : Counted → Held → Held → Bool
counts counted (Number later) (Number earlier) = number_counts counted later earlier
counts counted (Words later) (Words earlier) = not (bytes_eq later earlier)
counts counted (Number later) (Words earlier) = true
counts counted (Words later) (Number earlier) = true

-- how many neighbours count
unfoldable pub changes : Counted → List Stored → ℕ
changes counted window = count_by (λ pair. counts counted pair.1.value pair.0.value) (neighbours window)

-- `changecount`: how many neighbours differ, rise or fall
abbrev pub changecount_of : List ℕ → List Stored → Option ℤ
changecount_of mode window = whole (changes (counted_by mode) window)

-- a number may follow an earlier one where the numbers rise, strictly or not
abbrev pub may_rise : Bool → ℤ → ℤ → Bool
may_rise strict earlier later = if strict then int_lt earlier later else int_le earlier later

-- the mode `strict`
abbrev pub is_strict : List ℕ → Bool
is_strict mode = bytes_eq mode (codes "strict")

-- all neighbours rise
unfoldable pub all_rise : Bool → List ℤ → Bool
all_rise strict zs = list_all (λ pair. may_rise strict pair.0 pair.1) (neighbours zs)

-- all neighbours fall
unfoldable pub all_fall : Bool → List ℤ → Bool
all_fall strict zs = list_all (λ pair. may_rise strict pair.1 pair.0) (neighbours zs)

-- `monoinc`: whether they rise; of no number unknown
abbrev pub monoinc_of : List ℕ → List ℤ → Option ℤ
monoinc_of mode zs = if length zs == 0 then None else Some (truth (all_rise (is_strict mode) zs))

-- `monodec`: whether they fall
abbrev pub monodec_of : List ℕ → List ℤ → Option ℤ
monodec_of mode zs = if length zs == 0 then None else Some (truth (all_fall (is_strict mode) zs))
