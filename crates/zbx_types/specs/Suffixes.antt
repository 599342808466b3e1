-- Number texts with a suffix that multiplies them.
use Rattle.std.specs.Prelude.{ℕ, ◌==◌, ◌-◌, List, length, take, slice_index, Option, option_and_then, if◌then◌else◌, pos, ℤ, ◌*ℤ◌}
use Rattle.zbx_types.specs.Arithmetic.{in_range}
use Rattle.zbx_types.specs.Numerals.{read_number}
use Rattle.zbx_types.specs.Periods.{suffix_seconds}

-- what a suffix multiplies a number by: K, M, G, T, and s, m, h, d, w as in periods; 0 where the byte is none
abbrev pub suffix_factor : ℕ → ℕ
suffix_factor c =
    if c == 75 then 1024 else if c == 77 then 1048576 else if c == 71 then 1073741824 else if c == 84 then 1099511627776 else suffix_seconds c

-- the last byte of a text, 0 where it has none
abbrev pub last_byte : List ℕ → ℕ
last_byte text = slice_index text (length text - 1)

-- a text without its last byte
abbrev pub but_last : List ℕ → List ℕ
but_last text = take (length text - 1) text

-- so many times a number, where it is in range
unfoldable pub times_factor : ℕ → ℤ → Option ℤ
times_factor factor z = in_range (z *ℤ pos factor)

-- the value of a number text that may have a suffix, in millionths: what stands before the suffix is cut first
unfoldable pub read_suffixed : List ℕ → Option ℤ
read_suffixed text =
    if suffix_factor (last_byte text) == 0 then read_number text
    else option_and_then (times_factor (suffix_factor (last_byte text))) (read_number (but_last text))
