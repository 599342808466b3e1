-- The entries of a group as bytes.
use Rattle.std.specs.Prelude.{ℕ, ◌<◌, ◌≤◌, ◌^◌, ◌/◌, ◌%◌, ⊤, List, ◌∷◌, ◌++◌, length}
use Rattle.std.specs.List.{flat_map}
use Rattle.std.specs.Str.{IsUtf8}
use Rattle.byteorder.specs.Endian.{little_bytes}
use Rattle.zbx_types.specs.Limits.{longest_value}
use Rattle.zbx_types.specs.declared.entries.Entry.{Entry}
use Rattle.zbx_types.specs.declared.entries.Entry.TheVariants.{Config, Value, Tick}

-- a number of four bytes, the lowest first
abbrev pub number_bytes : ℕ → List ℕ
number_bytes n = little_bytes 4 n

-- a moment: its seconds, and the nanoseconds since that second began
abbrev pub moment_bytes : ℕ → List ℕ
moment_bytes m = number_bytes (m / 1000000000) ++ number_bytes (m % 1000000000)

-- a text: how many bytes it has, and these
abbrev pub text_bytes : List ℕ → List ℕ
text_bytes text = number_bytes (length text) ++ text

-- an entry: its kind, its moment, and what its kind has besides
unfoldable pub entry_bytes : Entry → List ℕ
entry_bytes (Config now text) = 1 ∷ moment_bytes now ++ text_bytes text
entry_bytes (Value now item time value) = 2 ∷ moment_bytes now ++ number_bytes item ++ moment_bytes time ++ text_bytes value
entry_bytes (Tick now) = 3 ∷ moment_bytes now

-- entries, one behind the other
abbrev pub entries_bytes : List Entry → List ℕ
entries_bytes es = flat_map entry_bytes es

-- what stands behind a group's gate, up to the next gate: the size of the entries, their number, and the entries
abbrev pub group_bytes : List Entry → List ℕ
group_bytes es = number_bytes (length (entries_bytes es)) ++ number_bytes (length es) ++ entries_bytes es

-- a value has at most 65,535 bytes
abbrev pub HasShortValue : Entry → Type 0
HasShortValue (Config now text) = ⊤
HasShortValue (Value now item time value) = length value ≤ longest_value
HasShortValue (Tick now) = ⊤

-- what the types of an entry's parts say of it: seconds and items have four bytes, and texts are UTF-8
abbrev pub IsTyped : Entry → Type 0
IsTyped (Config now text) = (now / 1000000000 < 2 ^ 32) × IsUtf8 text
IsTyped (Value now item time value) = (now / 1000000000 < 2 ^ 32) × (item < 2 ^ 32) × (time / 1000000000 < 2 ^ 32) × IsUtf8 value
IsTyped (Tick now) = now / 1000000000 < 2 ^ 32
