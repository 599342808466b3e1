-- Files of marks: first those of the notes in their order, and behind a switch those of any notes.
use Rattle.std.specs.Prelude.{◌≡◌, ◌⊎◌, ◌≤◌, ℕ, ◌+◌, ◌-◌, ◌*◌, ◌^◌, ◌==◌, ◌||◌, ◌&&◌, not, nat_le, Bool, true, false, List, [], ◌∷◌, ◌++◌, length, get_or, Option, Some, None, option_map, IfSome, Result, Ok, Err, ⊤, if◌then◌else◌, codes}
use Rattle.std.specs.List.{list_any}
use Rattle.std.specs.Int.{bit_at, from_le_bytes, to_le_bytes, w32}
use Rattle.std.specs.Int.Bits.{bit_or}
use Rattle.outside.specs.Disk.{DiskTells}
use Rattle.gated_file.specs.Groups.{Form, kept, groups_of, IsReady}
use Rattle.alert_queue.specs.declared.types.Mark.{Mark}
use Rattle.alert_queue.specs.declared.types.Mark.TheVariants.{Done, Failed}
use Rattle.alert_queue.specs.declared.types.NoteMark.{NoteMark}
use Rattle.alert_marks.specs.declared.types.MarksError.{MarksError}

-- what contracts see of marks: their disk, the list, and whether the disk has failed
pub record Marked (D : Type 0) : Type 0 where
  pub disk : D
  pub list : List NoteMark
  pub is_broken : Bool

-- the byte of a mark: `d` or `f`
abbrev pub byte_of : Mark → ℕ
byte_of Done = 100
byte_of Failed = 102

-- the mark of such a byte
abbrev pub mark_of : ℕ → Mark
mark_of byte = if byte == 100 then Done else Failed

abbrev pub is_mark : ℕ → Bool
is_mark byte = byte == 100 || byte == 102

-- a state has a bit for each note that has a mark, by the note's number; the lowest says that the switch was met
abbrev pub is_switched : ℕ → Bool
is_switched state = bit_at state 0 == 1

abbrev pub is_marked : ℕ → ℕ → Bool
is_marked state note = bit_at state note == 1

-- how long a group before the switch is: a mark's byte, or that of the switch, `2`; a gate follows it
abbrev pub plain_size : List ℕ → Option ℕ
plain_size [] = None
plain_size (byte ∷ []) = None
plain_size (byte ∷ gate ∷ rest) = if is_mark byte || byte == 50 then Some 1 else None

-- the number of the note in a group behind it
abbrev pub number_in : List ℕ → ℕ
number_in bytes = from_le_bytes w32 bytes

-- how long a group behind the switch is: the number of a note that has no mark yet, and a mark's byte; a gate follows it
abbrev pub numbered_size : ℕ → List ℕ → Option ℕ
numbered_size state bytes =
    if nat_le 6 (length bytes) && is_mark (get_or bytes 4 0) && nat_le 1 (number_in bytes) && not (is_marked state (number_in bytes)) then Some 5 else None

abbrev pub size_in : ℕ → List ℕ → Option ℕ
size_in state bytes = if is_switched state then numbered_size state bytes else plain_size bytes

-- the state behind a group: before the switch marks are those of notes 1, 2 and so on
abbrev pub plain_state : ℕ → ℕ → ℕ
plain_state state byte = if byte == 50 then bit_or state (2 ^ 0) else 2 * state + 2

abbrev pub state_behind : ℕ → List ℕ → ℕ
state_behind state group = if is_switched state then bit_or state (2 ^ number_in group) else plain_state state (get_or group 0 0)

-- the form of a file of marks
abbrev pub mark_form : Form
mark_form = record { magic = codes "ZTSALR01"; first = 0; read = size_in; next = state_behind }

-- the marks of a group that stands behind so many
abbrev pub plain_marks : ℕ → ℕ → List NoteMark
plain_marks count byte = if byte == 50 then [] else record { note = count + 1; mark = mark_of byte } ∷ []

abbrev pub marks_by : ℕ → ℕ → List ℕ → List NoteMark
marks_by state count group =
    if is_switched state then record { note = number_in group; mark = mark_of (get_or group 4 0) } ∷ [] else plain_marks count (get_or group 0 0)

-- these marks and those of groups behind them
abbrev pub listed : ℕ → List NoteMark → List (List ℕ) → List NoteMark
listed state before [] = before
listed state before (group ∷ groups) = listed (state_behind state group) (before ++ marks_by state (length before) group) groups

-- the marks that a file keeps, where it is one of marks without damage; a short one keeps none
abbrev pub marks_in : List ℕ → Option (List NoteMark)
marks_in file = option_map (listed 0 []) (groups_of (kept mark_form file))

-- each crash leaves a file that keeps these marks
abbrev pub EachKeeps : DiskTells → List NoteMark → Type 0
EachKeeps disk marks = IfSome disk.bytes (λ _. (c : List ℕ) → disk.images c → marks_in c ≡ Some marks)

-- a file keeps these marks, or these and one more
abbrev pub KeepsBeforeOrWith : List NoteMark → NoteMark → List ℕ → Type 0
KeepsBeforeOrWith marks mark c = (marks_in c ≡ Some marks) ⊎ (marks_in c ≡ Some (marks ++ mark ∷ []))

-- a file keeps the marks of one of a disk's images, or is no file of marks, or a damaged one, as that is
abbrev pub KeepsAsOneOf : DiskTells → List ℕ → Type 0
KeepsAsOneOf disk c = (d : List ℕ) × disk.images d × (kept mark_form c ≡ kept mark_form d)

-- a note has a mark among these
abbrev pub has_mark : List NoteMark → ℕ → Bool
has_mark marks note = list_any (λ (m : NoteMark). m.note == note) marks

-- each mark is of a note from 1 on, and no note has two
abbrev pub AreOnce : List NoteMark → Type 0
AreOnce [] = ⊤
AreOnce (mark ∷ marks) = (1 ≤ mark.note) × (has_mark marks mark.note ≡ false) × AreOnce marks

-- the state is that of these marks
pub record IsCoded (state : ℕ) (switched : Bool) (marks : List NoteMark) : Type 0 where
  pub switched_is : is_switched state ≡ switched
  pub each : (note : ℕ) → 1 ≤ note → is_marked state note ≡ has_mark marks note
  pub plain : switched ≡ false → state ≡ 2 ^ (length marks + 1) - 2 ^ 1

-- a file with these marks before a closed gate at a place, all of it durable
pub record IsFiled (disk : DiskTells) (at : ℕ) (switched : Bool) (marks : List NoteMark) (bytes : List ℕ) : Type 0 where
  pub state : ℕ
  pub groups : List (List ℕ)
  pub ready : IsReady mark_form disk at state groups bytes
  pub lists : (more : List (List ℕ)) → listed 0 [] (groups ++ more) ≡ listed state marks more
  pub coded : IsCoded state switched marks

-- what marks know of their disk, where it tells and hasn't failed
abbrev pub IsSettled : Bool → DiskTells → ℕ → Bool → List NoteMark → Type 0
IsSettled broken disk at switched marks = broken ≡ false → IfSome disk.bytes (IsFiled disk at switched marks)

-- the group of a note's mark behind the switch
abbrev pub group_of : NoteMark → List ℕ
group_of m = to_le_bytes w32 m.note ++ byte_of m.mark ∷ []

-- the disk that an opening gives back, in the marks or beside the error
abbrev pub disk_of : {D : Type 0} → Result (Marked D) (D × MarksError) → D
disk_of (Ok marks) = marks.disk
disk_of (Err pair) = pair.0
