-- A file of marks on its way through its groups.
use Rattle.std.specs.Prelude.{◌≡◌, ◌<◌, ◌≤◌, ℕ, ◌==◌, nat_le, Bool, List, [], ◌∷◌, ◌++◌, length, take, get_or, map, Option, Some, None, option_map, IfSome, if◌then◌else◌, codes}
use Rattle.outside.specs.Disk.{DiskTells, Only}
use Rattle.gated_file.specs.Groups.{IsFront}
use Rattle.alert_queue.specs.declared.types.Mark.{Mark}
use Rattle.alert_queue.specs.declared.types.Mark.TheVariants.{Done, Failed}
use Rattle.alert_queue.specs.declared.types.NoteMark.{NoteMark}
use Rattle.alert_marks.specs.declared.reading.Reader.{Reader}
use Rattle.alert_marks.specs.Marks.{mark_form, listed, number_in, AreOnce, IsCoded}

-- the mark of a byte, where it is one of a mark
abbrev pub mark_at : ℕ → Option Mark
mark_at byte = if byte == 100 then Some Done else if byte == 102 then Some Failed else None

-- the number and the mark of the bytes behind a gate, where another gate follows them
abbrev pub numbered_behind : List ℕ → Option NoteMark
numbered_behind bytes = if nat_le 6 (length bytes) then option_map (λ mark. record { note = number_in bytes; mark = mark }) (mark_at (get_or bytes 4 0)) else None

-- the byte behind a gate, where another gate follows it; 0 where none does
abbrev pub plain_behind : List ℕ → ℕ
plain_behind [] = 0
plain_behind (byte ∷ []) = 0
plain_behind (byte ∷ gate ∷ rest) = byte

-- the notes of marks
abbrev pub notes_of : List NoteMark → List ℕ
notes_of marks = map (λ (m : NoteMark). m.note) marks

-- no note was counted twice, and the notes that were met are those of the marks
pub record AreMet (reader : Reader) : Type 0 where
  pub seen_are : reader.seen ≡ notes_of reader.list.items
  pub once : AreOnce reader.list.items

-- bytes that begin as a file of marks does, with a gate
abbrev pub IsOurs : List ℕ → Type 0
IsOurs bytes = (take 8 bytes ≡ codes "ZTSALR01") × (8 < length bytes)

-- where the disk tells, its file begins as one of marks does, and all of it is durable
abbrev pub IsOpened : DiskTells → Type 0
IsOpened disk = IfSome disk.bytes (λ bytes. IsOurs bytes × Only bytes disk)

-- bytes of a file that was read up to a gate: these marks stand before it
pub record IsRead (bytes : List ℕ) (reader : Reader) : Type 0 where
  pub state : ℕ
  pub groups : List (List ℕ)
  pub front : IsFront mark_form state groups (take reader.gate bytes)
  pub inside : reader.gate < length bytes
  pub lists : (more : List (List ℕ)) → listed 0 [] (groups ++ more) ≡ listed state reader.list.items more
  pub coded : IsCoded state reader.is_numbered reader.list.items
  pub seen_are : reader.seen ≡ notes_of reader.list.items
