-- Groups behind gates, of whatever form: what a file of them keeps, and what is known of one that is added to.
use Rattle.std.specs.Prelude.{◌≡◌, ◌≢◌, ◌⊎◌, ◌<◌, ◌≤◌, ℕ, zero, suc, ◌+◌, ◌==◌, nat_le, List, [], ◌∷◌, ◌++◌, length, take, drop, get_or, Option, Some, None, if◌then◌else◌}
use Rattle.outside.specs.Disk.{DiskTells, Only}
use Rattle.gated_file.specs.Opened.{begins}

-- a form of files: the eight bytes before the first gate, the state before the first group, how long the group at the front of what is behind a gate is in a state, where one is, and the state behind a group
pub record Form : Type 0 where
  pub magic : List ℕ
  pub first : ℕ
  pub read : ℕ → List ℕ → Option ℕ
  pub next : ℕ → List ℕ → ℕ

-- a file of another form, an open gate at this place that no group follows, or the groups that are kept
pub data Kept : Type 0 where
  NotOurs : Kept
  Damaged : ℕ → Kept
  Groups : List (List ℕ) → Kept

-- one group more, in front
abbrev pub with_group : List ℕ → Kept → Kept
with_group g (Groups gs) = Groups (g ∷ gs)
with_group g rest = rest

-- an open gate, a group of this size behind it, and the rest
abbrev pub followed : ℕ → List ℕ → (ℕ → Kept) → Option ℕ → Kept
followed at bytes rest None = Damaged at
followed at bytes rest (Some size) = with_group (take size bytes) (rest size)

-- what the bytes keep from the gate on that stands behind the skipped ones; the first of them has this place
unfoldable pub kept_behind : Form → ℕ → ℕ → ℕ → List ℕ → Kept
kept_behind form skipped state at [] = Groups []
kept_behind form (suc skipped) state at (byte ∷ bytes) = kept_behind form skipped state (at + 1) bytes
kept_behind form zero state at (gate ∷ bytes) =
    if gate == 1
    then followed at bytes (λ size. kept_behind form size (form.next state (take size bytes)) (at + 1) bytes) (form.read state bytes)
    else Groups []

-- what a file keeps from its first gate on
abbrev pub kept_from : Form → List ℕ → Kept
kept_from form file = kept_behind form 0 form.first 8 (drop 8 file)

-- what a file keeps; one of at most 9 bytes keeps no groups
unfoldable pub kept : Form → List ℕ → Kept
kept form file =
    if nat_le (length file) 9 then Groups []
    else if begins form.magic file then kept_from form file
    else NotOurs

-- the groups, where nothing is damaged
abbrev pub groups_of : Kept → Option (List (List ℕ))
groups_of NotOurs = None
groups_of (Damaged at) = None
groups_of (Groups gs) = Some gs

-- groups in front of what the bytes behind them keep
abbrev pub onto : List (List ℕ) → Kept → Kept
onto [] rest = rest
onto (g ∷ gs) rest = with_group g (onto gs rest)

-- the beginning of a file with these groups, each behind an open gate, and the state behind them, whatever stands there
pub record IsFront (form : Form) (state : ℕ) (groups : List (List ℕ)) (front : List ℕ) : Type 0 where
  pub ours : take 8 front ≡ form.magic
  pub long : 8 ≤ length front
  pub keeps : (gate : ℕ) (rest : List ℕ) → kept_from form (front ++ gate ∷ rest) ≡ onto groups (kept_behind form 0 state (length front) (gate ∷ rest))

-- a group is read again, whatever gate and whatever else stands behind it
abbrev pub IsReadable : Form → ℕ → List ℕ → Type 0
IsReadable form state group = (gate : ℕ) (rest : List ℕ) → form.read state (group ++ gate ∷ rest) ≡ Some (length group)

-- a file with these groups before a closed gate at a place, all of it durable
pub record IsReady (form : Form) (disk : DiskTells) (at state : ℕ) (groups : List (List ℕ)) (bytes : List ℕ) : Type 0 where
  pub front : IsFront form state groups (take at bytes)
  pub gate : at < length bytes
  pub shut : get_or bytes at 1 ≢ 1
  pub durable : Only bytes disk

-- a file keeps these groups, or these and one more
abbrev pub KeepsBeforeOrAfter : Form → List (List ℕ) → List ℕ → List ℕ → Type 0
KeepsBeforeOrAfter form groups group c = (groups_of (kept form c) ≡ Some groups) ⊎ (groups_of (kept form c) ≡ Some (groups ++ group ∷ []))
