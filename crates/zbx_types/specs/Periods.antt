-- Period texts: digits, or digits with a suffix.
use Rattle.std.specs.Prelude.{ℕ, ◌&&◌, ◌==◌, ◌-◌, ◌*◌, nat_le, List, length, take, slice_index, Option, Some, None, option_and_then, if◌then◌else◌}
use Rattle.zbx_types.specs.Numerals.{all_digits, digits_after}

-- the seconds of a suffix: s, m, h, d, w; 0 where the byte is none
abbrev pub suffix_seconds : ℕ → ℕ
suffix_seconds c = if c == 115 then 1 else if c == 109 then 60 else if c == 104 then 3600 else if c == 100 then 86400 else if c == 119 then 604800 else 0

-- so many times these seconds
abbrev pub times : ℕ → List ℕ → Option ℕ
times seconds digits = if nat_le 1 seconds && nat_le 1 (length digits) && all_digits digits then Some (digits_after 0 digits * seconds) else None

-- the seconds of a period text: digits, or digits with a suffix
abbrev pub seconds_of : List ℕ → Option ℕ
seconds_of text = if all_digits text then times 1 text else times (suffix_seconds (slice_index text (length text - 1))) (take (length text - 1) text)

-- a number, where it isn't more than this
abbrev pub up_to : ℕ → ℕ → Option ℕ
up_to most n = if nat_le n most then Some n else None

-- the seconds of a period text, where they aren't more than this
unfoldable pub seconds_up_to : ℕ → List ℕ → Option ℕ
seconds_up_to most text = option_and_then (up_to most) (seconds_of text)
