-- The entries that bytes are.
use Rattle.std.specs.Prelude.{ℕ, zero, suc, ◌+◌, ◌*◌, nat_lt, ◌==◌, List, [], ◌∷◌, length, take, drop, Option, Some, None, if◌then◌else◌}
use Rattle.std.specs.Str.{is_utf8}
use Rattle.byteorder.specs.Endian.{little_number}
use Rattle.zbx_types.specs.Limits.{longest_value}
use Rattle.zbx_types.specs.declared.entries.Entry.{Entry}
use Rattle.zbx_types.specs.declared.entries.Entry.TheVariants.{Config, Value, Tick}

-- what is read first, and then what is read behind it
infixl 10 ◌>>=◌
abbrev pub ◌>>=◌ : {A B : Type 0} → Option A → (A → Option B) → Option B
None >>= f = None
(Some x) >>= f = f x

-- the number in the first four bytes, the lowest first, and the bytes behind it
abbrev pub number_at : List ℕ → Option (ℕ × List ℕ)
number_at bytes = if nat_lt (length bytes) 4 then None else Some (little_number 4 bytes, drop 4 bytes)

-- the moment at the front, whose nanoseconds are below a second, and the bytes behind it
unfoldable pub moment_at : List ℕ → Option (ℕ × List ℕ)
moment_at bytes = do
  sec ← number_at bytes
  ns ← number_at sec.1
  if nat_lt ns.0 1000000000 then Some (sec.0 * 1000000000 + ns.0, ns.1) else None

-- the bytes of the text at the front, behind how many they are, and the bytes behind it
unfoldable pub piece_at : List ℕ → Option (List ℕ × List ℕ)
piece_at bytes = do
  size ← number_at bytes
  if nat_lt (length size.1) size.0 then None else Some (take size.0 size.1, drop size.0 size.1)

-- these bytes as a text, which is UTF-8
abbrev pub text_of : List ℕ → Option (List ℕ)
text_of bytes = if is_utf8 bytes then Some bytes else None

-- what stands behind the moment of a value, and the bytes behind it
unfoldable pub value_at : ℕ → List ℕ → Option (Entry × List ℕ)
value_at now bytes = do
  item ← number_at bytes
  time ← moment_at item.1
  piece ← piece_at time.1
  value ← if nat_lt longest_value (length piece.0) then None else text_of piece.0
  Some (Value now item.0 time.0 value, piece.1)

-- what stands behind the moment of a configuration, and the bytes behind it
unfoldable pub config_at : ℕ → List ℕ → Option (Entry × List ℕ)
config_at now bytes = do
  piece ← piece_at bytes
  text ← text_of piece.0
  Some (Config now text, piece.1)

-- what stands behind the kind and the moment of an entry, and the bytes behind it
unfoldable pub kind_at : ℕ → ℕ → List ℕ → Option (Entry × List ℕ)
kind_at kind now bytes =
    if kind == 1 then config_at now bytes
    else if kind == 2 then value_at now bytes
    else if kind == 3 then Some (Tick now, bytes)
    else None

-- the entry at the front, and the bytes behind it
unfoldable pub entry_at : List ℕ → Option (Entry × List ℕ)
entry_at [] = None
entry_at (kind ∷ bytes) = moment_at bytes >>= λ now. kind_at kind now.0 now.1

-- so many entries, which are all of the bytes
unfoldable pub entries_of : ℕ → List ℕ → Option (List Entry)
entries_of zero bytes = if length bytes == 0 then Some [] else None
entries_of (suc n) bytes = do
  first ← entry_at bytes
  others ← entries_of n first.1
  Some (first.0 ∷ others)
