-- The batch that a claim takes.
use Rattle.std.specs.Prelude.{ℕ, ◌-◌, nat_lt, Bool, ◌&&◌, ◌||◌, List, [], ◌∷◌, if◌then◌else◌}
use Rattle.std.specs.List.{list_any}
use Rattle.zbx_types.specs.declared.entries.Entry.{Entry}
use Rattle.zbx_types.specs.declared.entries.Numbered.{Numbered}
use Rattle.footprint.specs.Feet.{Footing}
use Rattle.footprint.specs.Conflict.{conflict_by}
use Rattle.syncer_gate.specs.declared.marks.Mark.{Mark}
use Rattle.syncer_gate.specs.Marks.{is_pending, is_open}
use Rattle.syncer_gate.specs.Gate.{Gate}

-- the entries of open batches
abbrev pub opens : List Mark → List Numbered → List Entry
opens [] entries = []
opens (mark ∷ marks) [] = []
opens (mark ∷ marks) (e ∷ entries) = if is_open mark then e.entry ∷ opens marks entries else opens marks entries

-- an entry conflicts with one of these
abbrev pub conflicts_with : Footing → List Entry → Entry → Bool
conflicts_with feet those e = list_any (λ y. conflict_by feet y e) those

-- The numbers that are taken from here on, where `waits` tells the entries that something stands in the way of: of the
-- pending entries the first `looks` are looked at, and up to `room` taken. A skipped one stands in the way of what
-- conflicts with it.
unfoldable pub picked : Footing → (Entry → Bool) → ℕ → ℕ → List Mark → List Numbered → List ℕ
picked feet waits looks room [] entries = []
picked feet waits looks room (mark ∷ marks) [] = []
picked feet waits looks room (mark ∷ marks) (e ∷ entries) =
    if is_pending mark && (nat_lt 0 looks && nat_lt 0 room)
    then (if waits e.entry
    then picked feet (λ other. waits other || conflict_by feet e.entry other) (looks - 1) room marks entries
    else e.number ∷ picked feet waits (looks - 1) (room - 1) marks entries)
    else picked feet waits looks room marks entries

-- Among the first `looks` pending entries in order, each that conflicts with no skipped one before it and with no entry
-- of an open batch, up to a limit.
abbrev pub chosen : Footing → Gate → List Numbered → ℕ → ℕ → List ℕ
chosen feet gate entries looks limit =
    picked feet (conflicts_with feet (opens gate.marks entries)) looks limit gate.marks entries
