-- What contracts see of claims, and what the calls make of it.
use Rattle.std.specs.Prelude.{◌≡◌, ℕ, ◌+◌, ◌-◌, nat_lt, ◌==◌, Bool, true, false, ◌&&◌, List, [], ◌∷◌, length, map, get_or, Option, None, Some, if◌then◌else◌}
use Rattle.zbx_types.specs.Ids.{ids_from}
use Rattle.zbx_types.specs.Masters.{has_id}
use Rattle.zbx_types.specs.declared.entries.Numbered.{Numbered}
use Rattle.syncer_gate.specs.declared.batch.Batch.{Batch}
use Rattle.syncer_gate.specs.declared.marks.Mark.{Mark}
use Rattle.syncer_gate.specs.declared.marks.Mark.TheVariants.{Pending, Taken}
use Rattle.syncer_gate.specs.Marks.{is_taken, ended}

-- the number of the entry that is offered first, the marks of all entries offered in order, and the next batch's id
pub record Gate : Type 0 where
  pub first : ℕ
  pub marks : List Mark
  pub next : ℕ

-- the entries are all that were offered, in order
pub record AreOffered (gate : Gate) (entries : List Numbered) : Type 0 where
  pub size : length entries ≡ length gate.marks
  pub numbers : map (λ e. e.number) entries ≡ ids_from gate.first entries

-- the same entries were offered to two gates
abbrev pub AreAlike : Gate → Gate → Type 0
AreAlike gate other = (other.first ≡ gate.first) × (length other.marks ≡ length gate.marks)

-- the mark of the entry with a number; pending where none was offered
abbrev pub mark_of : Gate → ℕ → Mark
mark_of gate n = if nat_lt n gate.first then Pending else get_or gate.marks (n - gate.first) Pending

-- a batch of some numbers; nothing where there are none
abbrev pub batch_of : ℕ → List ℕ → Option Batch
batch_of id [] = None
batch_of id (n ∷ numbers) = Some (record { id = id; numbers = n ∷ numbers })

-- marks from that of a number on, where the batch takes the entries with some numbers
abbrev pub with_taken : ℕ → List ℕ → ℕ → List Mark → List Mark
with_taken id numbers n [] = []
with_taken id numbers n (mark ∷ marks) =
    (if has_id numbers n then Taken id else mark) ∷ with_taken id numbers (n + 1) marks

-- the gate behind a claim that took some numbers
abbrev pub claimed : Gate → List ℕ → Gate
claimed gate [] = gate
claimed gate (n ∷ numbers) =
    record gate { marks = with_taken gate.next (n ∷ numbers) gate.first gate.marks; next = gate.next + 1 }

-- the numbers of a batch's entries, from that of the first mark on
abbrev pub held_by : ℕ → ℕ → List Mark → List ℕ
held_by id n [] = []
held_by id n (mark ∷ marks) =
    if is_taken id mark then n ∷ held_by id (n + 1) marks else held_by id (n + 1) marks

-- two lists are the same
abbrev pub same_numbers : List ℕ → List ℕ → Bool
same_numbers [] [] = true
same_numbers [] (y ∷ ys) = false
same_numbers (x ∷ xs) [] = false
same_numbers (x ∷ xs) (y ∷ ys) = (x == y) && same_numbers xs ys

-- a batch is open: the entries that its id has taken are those with its numbers
abbrev pub IsOpenBatch : Gate → Batch → Type 0
IsOpenBatch gate batch = batch.numbers ≡ held_by batch.id gate.first gate.marks

-- the gate once a batch has ended
abbrev pub with_ended : ℕ → Mark → Gate → Gate
with_ended id to gate = record gate { marks = map (ended id to) gate.marks }
