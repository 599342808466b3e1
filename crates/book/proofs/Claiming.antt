-- What a claim, the end of a batch and a new start leave.
use Rattle.std.proofs.Common.{◌≡◌, ◌<◌, ◌≤◌, ◌+◌, ◌-◌, ℕ, suc, Bool, true, false, cond, ◌&&◌, ◌||◌, Option, Some, None, List, [], ◌∷◌, length, map, get_or, set, length-set, ◌==◌, eq-eqb, refl, sym, ◌∙◌, ap, subst, append-nil, arith}
use Rattle.std.specs.Prelude.{nat_lt, is_some, All, IfSome, IfNone, Result, Ok, Err, IfOk}
use Rattle.std.proofs.lemmas.Bool.{le-ltb, ltb-true}
use Rattle.std.proofs.lemmas.List.{length-map}
use mathlib.Core.Path.{fun_ext}
use Rattle.zbx_types.specs.Masters.{has_id}
use Rattle.zbx_types.specs.declared.entries.Numbered.{Numbered}
use Rattle.zbx_types.specs.declared.entries.Rec.{Rec}
use Rattle.footprint.specs.Feet.{Footing, feet_of}
use Rattle.footprint.specs.Conflict.{conflict_by}
use Rattle.zbx_types.specs.declared.entries.Entry.{Entry}
use Rattle.entry_step.specs.Cells.{Key, ItemKey, TriggerKey, TickKey, Cells, after, look, AreCellsOf}
use Rattle.entry_step.specs.History.{marks_of}
use Rattle.entry_step.specs.Represents.{CellsView, Represents, StepsTo, Holds as HoldsLog}
use Rattle.entry_step.specs.Laws.{IsGood, cells_done, records_done}
use Rattle.entry_step.specs.Parts.{AllCome, PartView, IsPartOf, IsSame, IsWorkable, IsReplaced, WorksOut}
use Rattle.syncer_gate.specs.declared.batch.Batch.{Batch}
use Rattle.syncer_gate.specs.declared.marks.Mark.{Mark}
use Rattle.syncer_gate.specs.declared.marks.Mark.TheVariants.{Pending, Applied}
use Rattle.syncer_gate.specs.Marks.{is_pending, is_taken, ended}
use Rattle.syncer_gate.specs.Gate.{Gate, AreAlike, mark_of, batch_of, with_taken, claimed, held_by, same_numbers, IsOpenBatch, with_ended}
use Rattle.syncer_gate.specs.Chosen.{opens, conflicts_with, picked, chosen}
use Rattle.syncer_gate.specs.Core.{Core, Claim, Apply, GiveBack, happens, start, IsStep, core_of}
use Rattle.syncer_gate.proofs.Claimed.{by_marks, chosen_free}
use Rattle.syncer_gate.proofs.MarkLemmas.{same_is}
use Rattle.syncer_gate.proofs.Ended.{not_same}
use Rattle.syncer_gate.proofs.Opened.{single_marks, AreFresh, RiseFrom, rise_above, held_rise, picked_rise, held_taken, given_marks}
use Rattle.book.specs.Schedule.{batch_in, keeping, worked, begin_worked}
use Rattle.value_cache.specs.Tokens.{CacheId}
use Rattle.book.specs.Progress.{ProgressView, made_at, worked_of, IsGoing, entries_with, entry_at, AreHere, IsAmong, IsBlank, AreReady, AreOutputs, IsKept, IsWorkedIn, HasClaimed, IsSingle, IsClaim, IsOrder}
use Rattle.book.proofs.Scheduled.{IsConsistent, stepped, batch_comes, begins}
use Rattle.book.proofs.Going.{stands_of, going_of, gate_going}
use Rattle.book.proofs.Batches.{AreAmong, all_among, within_ones, with_at, numbers_at, open_within, open_entries, set_made, same_part, here_at, at_here}
use Rattle.trigger_state.specs.Stages.{Stage, first_stage}
use Rattle.zbx_types.specs.declared.conf.Conf.{Conf}
use Rattle.entry_step.specs.Start.{Start, fresh, first_start}

-- an open batch's entries come to the cells
pub open_come : (from : Start) (p : ProgressView) (going : IsGoing from p) (batch : Batch) → IsOpenBatch p.gate batch → AllCome from.stage going.cells (entries_with batch.numbers p.entries)
open_come from p going batch is =
    subst (AllCome from.stage going.cells) (sym (open_entries p.entries p.gate batch.id batch.numbers going.offered.numbers is))
    (batch_comes from going.good (worked_of from.number p going.cells) (stands_of from p going) going.whole.suits batch.id)

-- they are at their places
pub open_ready : (from : Start) (p : ProgressView) (going : IsGoing from p) (batch : Batch) → IsOpenBatch p.gate batch → AreReady from.number from.stage p.cells p.entries batch.numbers
open_ready from p going batch is = record {
  within = all_among from.number p.entries batch.numbers within;
  places = places;
  numbered = ap (map (λ (e : Numbered). e.number)) places ∙ numbers_at from.number p.entries batch.numbers going.whole.numbers within;
  cells = going.cells;
  represented = going.represented;
  come = open_come from p going batch is;
}
  where
    rises : RiseFrom (from.number + 1) batch.numbers
    rises = subst (λ k. RiseFrom k batch.numbers) going.first (subst (RiseFrom p.gate.first) (sym is) (held_rise batch.id p.gate.first p.gate.marks))

    within : AreAmong from.number p.entries batch.numbers
    within n h =
        let a = rise_above (from.number + 1) n batch.numbers rises h in
        let b = open_within batch.id p.gate.first n p.gate.marks (ap (λ ns. has_id ns n) (sym is) ∙ h) in
        let f = going.first in
        let s = going.offered.size in
        (omega arith, omega arith)

    places : entries_with batch.numbers p.entries ≡ map (entry_at from.number p.entries) batch.numbers
    places = with_at (from.number + 1) p.entries batch.numbers going.whole.numbers rises (λ n h. let w = within n h in let b = w.1 in omega arith)

fresh_marks : (gate : Gate) (id : ℕ) → ((n : ℕ) → is_taken id (mark_of gate n) ≡ false) → AreFresh id gate.marks
fresh_marks gate id fresh i =
    let e : nat_lt (gate.first + i) gate.first ≡ false = le-ltb (gate.first + i) gate.first (omega arith) in
    let z : (gate.first + i) - gate.first ≡ i = omega arith in
    sym (ap (λ b. is_taken id (cond b Pending (get_or gate.marks ((gate.first + i) - gate.first) Pending))) e ∙ ap (λ k. is_taken id (get_or gate.marks k Pending)) z)
    ∙ fresh (gate.first + i)

pub has_claimed : (from : Start) (p : ProgressView) (gate : Gate) (batch : Batch) (looks limit : ℕ) → IsGoing from p
    → Some batch ≡ batch_of p.gate.next (chosen (feet_of from.stage.conf) p.gate p.entries looks limit)
    → gate ≡ claimed p.gate (chosen (feet_of from.stage.conf) p.gate p.entries looks limit)
    → AreAlike p.gate gate → IsStep (feet_of from.stage.conf) p.entries p.gate (Claim batch.id batch.numbers) gate
    → HasClaimed from p gate batch
has_claimed from p gate batch looks limit going some is alike step = record {
  going = next;
  opened = opened;
  back = back;
  single = single;
  ready = open_ready from (record p { gate = gate }) next batch opened;
}
  where
    numbers : List ℕ
    numbers = chosen (feet_of from.stage.conf) p.gate p.entries looks limit

    stands : IsConsistent from (worked_of from.number p going.cells)
    stands = stands_of from p going

    next : IsGoing from (record p { gate = gate })
    next =
        gate_going from p going gate (happens (core_of p.entries p.gate) (Claim batch.id batch.numbers))
        (stepped from going.good (worked_of from.number p going.cells) stands (Claim batch.id batch.numbers) step.0 tt) alike step.1

    parts : (ns : List ℕ) → Some batch ≡ batch_of p.gate.next ns → (batch.id ≡ p.gate.next) × (batch.numbers ≡ ns) × (claimed p.gate ns ≡ record p.gate { marks = with_taken p.gate.next ns p.gate.first p.gate.marks; next = p.gate.next + 1 })
    parts [] e = let q : Some batch ≡ None = e in absurd (cc)
    parts (n ∷ ns) e =
        let b : Batch = record { id = p.gate.next; numbers = n ∷ ns } in
        let q : Some batch ≡ Some b = e in
        let r : batch ≡ b = cc in
        (ap (λ (x : Batch). x.id) r, ap (λ (x : Batch). x.numbers) r, refl)

    is_parts : (batch.id ≡ p.gate.next) × (batch.numbers ≡ numbers) × (claimed p.gate numbers ≡ record p.gate { marks = with_taken p.gate.next numbers p.gate.first p.gate.marks; next = p.gate.next + 1 })
    is_parts = parts numbers some

    fresh : AreFresh p.gate.next p.gate.marks
    fresh = subst (λ id. AreFresh id p.gate.marks) is_parts.0 (fresh_marks p.gate batch.id (λ n. step.0.fresh n))

    marks_are : gate.marks ≡ with_taken p.gate.next numbers p.gate.first p.gate.marks
    marks_are = ap (λ (g : Gate). g.marks) (is ∙ is_parts.2)

    first_is : gate.first ≡ p.gate.first
    first_is = ap (λ (g : Gate). g.first) (is ∙ is_parts.2)

    opened : IsOpenBatch gate batch
    opened =
        is_parts.1
        ∙ sym (held_taken p.gate.next p.gate.first numbers p.gate.marks fresh
        (picked_rise (feet_of from.stage.conf) (conflicts_with (feet_of from.stage.conf) (opens p.gate.marks p.entries)) looks limit p.gate.first p.gate.marks p.entries (by_marks p.gate p.entries going.offered))
        (λ n h. ((chosen_free (feet_of from.stage.conf) p.gate p.entries looks limit going.offered).offered n h).1))
        ∙ ap (λ id. held_by id p.gate.first (with_taken p.gate.next numbers p.gate.first p.gate.marks)) (sym is_parts.0)
        ∙ ap (λ f. held_by batch.id f (with_taken p.gate.next numbers p.gate.first p.gate.marks)) (sym first_is)
        ∙ ap (held_by batch.id gate.first) (sym marks_are)

    pending : (n : ℕ) → has_id numbers n ≡ true → p.gate.first ≤ n → get_or p.gate.marks (n - p.gate.first) Pending ≡ Pending
    pending n h l =
        let e : nat_lt n p.gate.first ≡ false = le-ltb n p.gate.first l in
        sym (ap (λ b. cond b Pending (get_or p.gate.marks (n - p.gate.first) Pending)) e)
        ∙ (chosen_free (feet_of from.stage.conf) p.gate p.entries looks limit going.offered).pending n h

    back : map (ended batch.id Pending) gate.marks ≡ p.gate.marks
    back =
        ap (map (ended batch.id Pending)) marks_are
        ∙ ap (λ id. map (ended id Pending) (with_taken p.gate.next numbers p.gate.first p.gate.marks)) is_parts.0
        ∙ given_marks p.gate.next p.gate.first numbers p.gate.marks fresh pending

    single : (n : ℕ) → batch.numbers ≡ n ∷ [] → IsSingle from.number p gate batch n
    single n one =
        let is_one : numbers ≡ n ∷ [] = sym is_parts.1 ∙ one in
        let has : has_id numbers n ≡ true = ap (λ ns. has_id ns n) is_one ∙ ap (λ b. b || false) (eq-eqb n n refl) in
        let bound = (chosen_free (feet_of from.stage.conf) p.gate p.entries looks limit going.offered).offered n has in
        let size = going.offered.size in
        let first = going.first in
        record {
          inside = omega arith;
          pending = ap (λ k. get_or p.gate.marks (n - k) Pending) (sym first) ∙ pending n has bound.0;
          after =
              ap (map (ended batch.id Applied)) (marks_are ∙ ap (λ ns. with_taken p.gate.next ns p.gate.first p.gate.marks) is_one)
              ∙ ap (λ id. map (ended id Applied) (with_taken p.gate.next (n ∷ []) p.gate.first p.gate.marks)) is_parts.0
              ∙ single_marks p.gate.next p.gate.first n p.gate.marks fresh bound.0 bound.1
              ∙ ap (λ k. set p.gate.marks (n - k) Applied) first;
        }

-- a claim with some feet that are the configuration's
pub some_claimed : (from : Start) (feet : Footing) (entries : List Numbered) (before gate : Gate) (looks limit : ℕ) (taken : Option Batch) → feet ≡ feet_of from.stage.conf → taken ≡ batch_of before.next (chosen feet before entries looks limit) → gate ≡ claimed before (chosen feet before entries looks limit) → AreAlike before gate
    → IfSome taken (λ batch. IsStep feet entries before (Claim batch.id batch.numbers) gate) → IfSome taken (IsClaim from entries before gate)
some_claimed from feet entries before gate looks limit None same is gate_is alike step = tt
some_claimed from feet entries before gate looks limit (Some batch) same is gate_is alike step = λ held made going.
    has_claimed from (record { entries = entries; gate = before; cells = held; made = made }) gate batch looks limit going
    (is ∙ ap (λ f. batch_of before.next (chosen f before entries looks limit)) same)
    (gate_is ∙ ap (λ f. claimed before (chosen f before entries looks limit)) same)
    alike
    (subst (λ f. IsStep f entries before (Claim batch.id batch.numbers) gate) same step)

pub none_claimed : (before gate : Gate) (numbers : List ℕ) (taken : Option Batch) → taken ≡ batch_of before.next numbers → gate ≡ claimed before numbers → IfNone taken (gate ≡ before)
none_claimed before gate numbers (Some batch) is gate_is = tt
none_claimed before gate [] None is gate_is = gate_is
none_claimed before gate (n ∷ ns) None is gate_is = let b : Batch = record { id = before.next; numbers = n ∷ ns } in let q : None ≡ Some b = is in absurd (cc)

-- at most so many are picked
few_picked : (feet : Footing) (waits : Entry → Bool) (looks room : ℕ) (marks : List Mark) (entries : List Numbered) → length (picked feet waits looks room marks entries) ≤ room
unfolding picked
few_picked feet waits looks room [] entries = omega arith
few_picked feet waits looks room (m ∷ marks) [] = omega arith
few_picked feet waits looks room (m ∷ marks) (e ∷ entries) =
    go (is_pending m) (nat_lt 0 looks) (nat_lt 0 room) refl (waits e.entry)
    (few_picked feet (λ other. waits other || conflict_by feet e.entry other) (looks - 1) room marks entries)
    (few_picked feet waits (looks - 1) (room - 1) marks entries)
    (few_picked feet waits looks room marks entries)
  where
    go : (a b c : Bool) → nat_lt 0 room ≡ c → (w : Bool) → length (picked feet (λ other. waits other || conflict_by feet e.entry other) (looks - 1) room marks entries) ≤ room
        → length (picked feet waits (looks - 1) (room - 1) marks entries) ≤ room - 1
        → length (picked feet waits looks room marks entries) ≤ room
        → length (cond (a && (b && c)) (cond w (picked feet (λ other. waits other || conflict_by feet e.entry other) (looks - 1) room marks entries) (e.number ∷ picked feet waits (looks - 1) (room - 1) marks entries)) (picked feet waits looks room marks entries)) ≤ room
    go true true true some true skip take rest = skip
    go true true true some false skip take rest = let l = ltb-true 0 room some in omega arith
    go true true false some w skip take rest = rest
    go true false c some w skip take rest = rest
    go false b c some w skip take rest = rest

pub few_claimed : (feet : Footing) (entries : List Numbered) (before : Gate) (looks limit : ℕ) (taken : Option Batch) → taken ≡ batch_of before.next (chosen feet before entries looks limit) → IfSome taken (λ batch. (0 < length batch.numbers) × (length batch.numbers ≤ limit))
few_claimed feet entries before looks limit None is = tt
few_claimed feet entries before looks limit (Some batch) is =
    go (chosen feet before entries looks limit) is (few_picked feet (conflicts_with feet (opens before.marks entries)) looks limit before.marks entries)
  where
    go : (ns : List ℕ) → Some batch ≡ batch_of before.next ns → length ns ≤ limit → (0 < length batch.numbers) × (length batch.numbers ≤ limit)
    go [] q l = let r : Some batch ≡ None = q in absurd (cc)
    go (n ∷ ns) q l =
        let b : Batch = record { id = before.next; numbers = n ∷ ns } in
        let r : Some batch ≡ Some b = q in
        let s : batch ≡ b = cc in
        let t : length batch.numbers ≡ suc (length ns) = ap (λ (x : Batch). length x.numbers) s in
        (omega arith, omega arith)

-- a batch is given back
pub given_going : (from : Start) (p : ProgressView) (gate : Gate) (id : ℕ) → IsGoing from p → gate ≡ with_ended id Pending p.gate → core_of p.entries gate ≡ happens (core_of p.entries p.gate) (GiveBack id)
    → IsGoing from (record p { gate = gate })
given_going from p gate id going is core =
    gate_going from p going gate (happens (core_of p.entries p.gate) (GiveBack id))
    (stepped from going.good (worked_of from.number p going.cells) (stands_of from p going) (GiveBack id) tt tt)
    (ap (λ (g : Gate). g.first) is, ap (λ (g : Gate). length g.marks) is ∙ length-map p.gate.marks (ended id Pending)) core

-- a batch is given back, if it is open
pub given_either : (from : Start) (entries : List Numbered) (before gate : Gate) (held : CellsView) (made : List (List Rec)) (batch : Batch) → IsGoing from (record { entries = entries; gate = before; cells = held; made = made })
    → (IsOpenBatch before batch → gate ≡ with_ended batch.id Pending before) → ((IsOpenBatch before batch → ⊥) → gate ≡ before)
    → (IsOpenBatch before batch → (es : List Numbered) → core_of es gate ≡ happens (core_of es before) (GiveBack batch.id))
    → IsGoing from (record { entries = entries; gate = gate; cells = held; made = made })
given_either from entries before gate held made batch going opened other step = go (same_numbers batch.numbers (held_by batch.id before.first before.marks)) refl
  where
    p : Gate → ProgressView
    p g = record { entries = entries; gate = g; cells = held; made = made }

    go : (b : Bool) → same_numbers batch.numbers (held_by batch.id before.first before.marks) ≡ b → IsGoing from (p gate)
    go true e =
        let o = same_is batch.numbers (held_by batch.id before.first before.marks) e in
        given_going from (p before) gate batch.id going (opened o) (step o entries)
    go false e = subst (λ g. IsGoing from (p g)) (sym (other (λ o. not_same batch.numbers (held_by batch.id before.first before.marks) e o))) going

-- a batch's results are put in place
pub applied_going : (from : Start) (p : ProgressView) (gate : Gate) (batch : Batch) (held : CellsView) (made : List (List Rec)) (going : IsGoing from p) → IsOpenBatch p.gate batch
    → gate ≡ with_ended batch.id Applied p.gate → core_of p.entries gate ≡ happens (core_of p.entries p.gate) (Apply batch.id)
    → IsWorkedIn from.number from.stage (entries_with batch.numbers p.entries) p.cells p.made held made
    → IsGoing from (record { entries = p.entries; gate = gate; cells = held; made = made })
applied_going from p gate batch held made going opened is core works =
    going_of from (worked from.stage (worked_of from.number p going.cells) (Apply batch.id)) p.entries gate held made
    (stepped from going.good (worked_of from.number p going.cells) (stands_of from p going) (Apply batch.id) tt tt)
    (record {
      good = going.good;
      whole = going.whole;
      first = ap (λ (g : Gate). g.first) is ∙ going.first;
      size = ap (λ (g : Gate). length g.marks) is ∙ length-map p.gate.marks (ended batch.id Applied) ∙ sym going.offered.size;
      rows = works.0 ∙ going.size;
      core = core;
      represented = subst (λ es. Represents from.stage held (cells_done from.stage going.cells es)) entries worked_in.0;
      kept = λ n l. worked_in.1 n l ∙ ap (λ es. keeping (made_at from.number p.made) es (records_done from.stage going.cells es) n) entries;
    })
  where
    worked_in : Represents from.stage held (cells_done from.stage going.cells (entries_with batch.numbers p.entries)) × IsKept from.number p.made (entries_with batch.numbers p.entries) (records_done from.stage going.cells (entries_with batch.numbers p.entries)) made
    worked_in = works.1 going.cells going.represented (open_come from p going batch opened)

    entries : entries_with batch.numbers p.entries ≡ batch_in (core_of p.entries p.gate) batch.id
    entries = open_entries p.entries p.gate batch.id batch.numbers going.offered.numbers opened

-- nothing was done yet
start_is : (gate : Gate) (first : ℕ) → gate ≡ record { first = first; marks = []; next = 1 } → core_of [] gate ≡ start
start_is gate first is = ap (core_of []) is ∙ ap over (fun_ext status)
  where
    over : (ℕ → Mark) → Core
    over s = record { log = []; status = s }

    go : (b : Bool) → cond b Pending Pending ≡ Pending
    go true = refl
    go false = refl

    status : (n : ℕ) → mark_of (record { first = first; marks = []; next = 1 }) n ≡ Pending
    status n = go (nat_lt n first)

pub new_going : (from : Start) (entries : List Numbered) (gate : Gate) (held : CellsView) (made : List (List Rec)) → IsGood from → HoldsLog from held [] → entries ≡ [] → gate ≡ record { first = from.number + 1; marks = []; next = 1 } → made ≡ []
    → IsGoing from (record { entries = entries; gate = gate; cells = held; made = made })
unfolding AreCellsOf
new_going from entries gate held made good holds none is no_rows =
    subst (λ es. IsGoing from (record { entries = es; gate = gate; cells = held; made = made })) (sym none)
    (subst (λ rows. IsGoing from (record { entries = []; gate = gate; cells = held; made = rows })) (sym no_rows)
    (going_of from (begin_worked from) [] gate held [] (begins from)
    (record {
      good = good;
      whole = record { numbers = refl; suits = tt; plain = tt };
      first = ap (λ (g : Gate). g.first) is;
      size = ap (λ (g : Gate). length g.marks) is;
      rows = refl;
      core = start_is gate (from.number + 1) is;
      represented = subst (Represents from.stage held) (holds.stand ∙ ap (look from []) (append-nil from.records)) holds.represented;
      kept = λ n l. refl;
    })))

-- one entry is worked out in the cells themselves
pub one_worked : (before : ℕ) (stage : Stage) (held next : CellsView) (entries : List Numbered) (made rows : List (List Rec)) (rs : List Rec) (numbers : List ℕ) → AreReady before stage held entries numbers → length numbers ≡ 1
    → length made ≡ length entries → StepsTo stage held (entry_at before entries (get_or numbers 0 0)) rs next → rows ≡ set made (get_or numbers 0 0 - (before + 1)) rs
    → IsWorkedIn before stage (entries_with numbers entries) held made next rows
one_worked before stage held next entries made rows rs [] ready one size step is = absurd (omega arith)
one_worked before stage held next entries made rows rs (n ∷ m ∷ ns) ready one size step is = absurd (omega arith)
one_worked before stage held next entries made rows rs (n ∷ []) ready one size step is = (ap length is ∙ length-set made (n - (before + 1)) rs, λ c represented come. works c represented (subst (AllCome stage c) ready.places come))
  where
    x : Numbered
    x = entry_at before entries n

    bounds : IsAmong before (length entries) n
    bounds = ready.within 0 0 (omega arith)

    its_number : x.number ≡ n
    its_number =
        let q : (x.number ∷ []) ≡ n ∷ [] = sym (ap (map (λ (e : Numbered). e.number)) ready.places) ∙ ready.numbered in
        cc

    works : (c : Cells) → Represents stage held c → AllCome stage c (x ∷ []) → Represents stage next (cells_done stage c (entries_with (n ∷ []) entries)) × IsKept before made (entries_with (n ∷ []) entries) (records_done stage c (entries_with (n ∷ []) entries)) rows
    works c represented come =
        let s = step c come.0 represented come.1 come.2 in (
          subst (λ es. Represents stage next (cells_done stage c es)) (sym ready.places) s.1,
          λ k l. subst (λ es. made_at before rows k ≡ keeping (made_at before made) es (records_done stage c es) k) (sym ready.places)
              (ap (λ ms. made_at before ms k) is ∙ set_made before made n k rs (bounds.0, subst (λ z. n ≤ before + z) (sym size) bounds.1) l
              ∙ ap (λ j. cond (k == j) rs (made_at before made k)) (sym its_number)
              ∙ ap (λ r. cond (k == x.number) r (made_at before made k)) s.0),
        )

-- results are put in place
length_records : (stage : Stage) (c : Cells) (es : List Numbered) → length (records_done stage c es) ≡ length es
length_records stage c [] = refl
length_records stage c (e ∷ es) = ap suc (length_records stage (after stage c e) es)

pub outputs_length : (before : ℕ) (stage : Stage) (held : CellsView) (entries : List Numbered) (numbers : List ℕ) (part : PartView) (lists : List (List Rec)) → AreReady before stage held entries numbers → AreOutputs stage held (entries_with numbers entries) part lists → length lists ≡ length (entries_with numbers entries)
outputs_length before stage held entries numbers part lists ready outputs = ap length (outputs ready.cells ready.represented ready.come).0 ∙ length_records stage ready.cells (entries_with numbers entries)

pub put_worked : (before : ℕ) (stage : Stage) (held next : CellsView) (es : List Numbered) (part : PartView) (lists made rows : List (List Rec)) → IsReplaced held part next → length rows ≡ length made → IsKept before made es lists rows → AreOutputs stage held es part lists
    → IsWorkedIn before stage es held made next rows
put_worked before stage held next es part lists made rows replaced size kept outputs = (
  size,
  λ c represented come.
      let o = outputs c represented come in
      (o.1 next replaced, λ n l. kept n l ∙ ap (λ ls. keeping (made_at before made) es ls n) o.0),
)

pub parts_work : (before : ℕ) (stage : Stage) (held : CellsView) (entries : List Numbered) (numbers : List ℕ) (part : PartView) → AreReady before stage held entries numbers → IsPartOf stage.conf (entries_with numbers entries) held part → IsWorkable stage (entries_with numbers entries) part
parts_work before stage held entries numbers part ready of = record { held = held; cells = ready.cells; of = of; represented = ready.represented; come = ready.come }

pub worked_outputs : (stage : Stage) (held : CellsView) (es : List Numbered) (part done : PartView) (lists : List (List Rec)) → IsPartOf stage.conf es held part → WorksOut stage es part done lists → AreOutputs stage held es done lists
unfolding WorksOut
worked_outputs stage held es part done lists of works c represented come = works held c of represented come

pub fresh_outputs : (before : ℕ) (stage : Stage) (held : CellsView) (entries es : List Numbered) (numbers : List ℕ) (part done : PartView) (lists : List (List Rec)) → AreReady before stage held entries numbers → entries_with numbers entries ≡ es → IsWorkable stage es part → IsSame held part → WorksOut stage es part done lists
    → AreOutputs stage held (entries_with numbers entries) done lists
fresh_outputs before stage held entries es numbers part done lists ready is workable same works =
    subst (λ xs. AreOutputs stage held xs done lists) (sym is)
    (worked_outputs stage held es part done lists (same_part stage held workable.held ready.cells workable.cells es part ready.represented workable.represented workable.of same) works)

-- entries that are the ones here are those with their numbers
pub here_with : (before : ℕ) (stage : Stage) (held : CellsView) (entries es : List Numbered) (numbers : List ℕ) → AreReady before stage held entries numbers → map (λ (e : Numbered). e.number) es ≡ numbers → AreHere before entries es → entries_with numbers entries ≡ es
here_with before stage held entries es numbers ready is here = ready.places ∙ ap (map (entry_at before entries)) (sym is) ∙ here_at before entries es here

pub with_here : (before : ℕ) (stage : Stage) (held : CellsView) (entries es : List Numbered) (numbers : List ℕ) → AreReady before stage held entries numbers → map (λ (e : Numbered). e.number) es ≡ numbers → entries_with numbers entries ≡ es → AreHere before entries es
with_here before stage held entries es numbers ready is here = at_here before entries es (ap (map (entry_at before entries)) is ∙ sym ready.places ∙ here)

-- the same for equal things
blank_cells : (stage : Stage) → look (first_start stage.conf) [] [] ≡ look (fresh stage) [] []
unfolding look marks_of
blank_cells stage = fun_ext cell
  where
    cell : (k : Key) → look (first_start stage.conf) [] [] k ≡ look (fresh stage) [] [] k
    cell (ItemKey id) = refl
    cell (TriggerKey id) = refl
    cell TickKey = refl

blank_is : (stage : Stage) (held : CellsView) → Represents (first_stage stage.conf) held (look (fresh stage) [] []) → Represents stage held (look (fresh stage) [] [])
unfolding look
blank_is stage held r = record {
  items = r.items;
  ordered = r.ordered;
  memories = r.memories;
  triggers = r.triggers;
  histories = r.histories;
  marks = r.marks;
  problems = r.problems;
  tick = r.tick;
  tidy = record { homes = λ id. tt; tagged = λ id. tt; absent = r.tidy.absent };
}

-- cells before the first entry hold nothing, wherever events come from
blank_at : (stage other : Stage) (conf : Conf) (held : CellsView) → conf ≡ other.conf → other ≡ stage → HoldsLog (first_start conf) held [] → HoldsLog (fresh stage) held []
unfolding AreCellsOf
blank_at stage other conf held same is holds =
    let own : HoldsLog (first_start stage.conf) held [] = subst (λ (c : Conf). HoldsLog (first_start c) held []) (same ∙ ap (λ (k : Stage). k.conf) is) holds in
    record {
      cells = look (fresh stage) [] [];
      stand = refl;
      represented = blank_is stage held (subst (λ (c : Cells). Represents (first_stage stage.conf) held c) (own.stand ∙ blank_cells stage) own.represented);
    }

pub blank_made : {E : Type 0} (stage other : Stage) (conf : Conf) (given cache : CacheId) (r : Result CellsView E) → conf ≡ other.conf → other ≡ stage → given ≡ cache → IfOk r (λ held. HoldsLog (first_start conf) held []) → IfOk r (λ held. held.cache ≡ given) → IfOk r (IsBlank stage cache)
blank_made stage other conf given cache (Ok held) same is one holds own = (blank_at stage other conf held same is holds, own ∙ one)
blank_made stage other conf given cache (Err e) same is one holds own = tt

pub part_at : (stage other : Stage) (held : CellsView) (given es : List Numbered) (part : PartView) → other ≡ stage → given ≡ es → IsPartOf other.conf given held part → IsPartOf stage.conf es held part
part_at stage other held given es part same is of = subst (λ xs. IsPartOf stage.conf xs held part) is (subst (λ (k : Stage). IsPartOf k.conf given held part) same of)

pub work_at : (before : ℕ) (stage : Stage) (other : Stage) (held : CellsView) (entries es given : List Numbered) (numbers : List ℕ) (part : PartView) → other ≡ stage → es ≡ given → given ≡ entries_with numbers entries → AreReady before stage held entries numbers → IsPartOf stage.conf (entries_with numbers entries) held part → IsWorkable other es part
work_at before stage other held entries es given numbers part same is also ready of =
    subst (λ k. IsWorkable k es part) (sym same) (subst (λ xs. IsWorkable stage xs part) (sym (is ∙ also)) (parts_work before stage held entries numbers part ready of))

pub outputs_at : (stage other : Stage) (held : CellsView) (entries es given : List Numbered) (numbers : List ℕ) (part done : PartView) (lists : List (List Rec)) → other ≡ stage → es ≡ given → given ≡ entries_with numbers entries → IsPartOf stage.conf (entries_with numbers entries) held part
    → WorksOut other es part done lists → AreOutputs stage held (entries_with numbers entries) done lists
outputs_at stage other held entries es given numbers part done lists same is also of works =
    worked_outputs stage held (entries_with numbers entries) part done lists of (subst (λ xs. WorksOut stage xs part done lists) (is ∙ also) (subst (λ k. WorksOut k es part done lists) same works))

pub order_is : (before : ℕ) (stage : Stage) (held : CellsView) (entries es : List Numbered) (id : ℕ) (numbers ns : List ℕ) (part : PartView) (scratch : CellsView) (cache : CacheId) → ns ≡ numbers → es ≡ entries_with ns entries → AreReady before stage held entries numbers → IsPartOf stage.conf (entries_with ns entries) held part → part.cache ≡ cache → IsBlank stage cache scratch
    → IsOrder stage cache (record { id = id; numbers = numbers }) es part scratch
order_is before stage held entries es id numbers ns part scratch cache same is ready of own free =
    let e : es ≡ entries_with numbers entries = is ∙ ap (λ ms. entries_with ms entries) same in
    record {
      numbers = ap (map (λ (x : Numbered). x.number)) e ∙ ready.numbered;
      workable = subst (λ xs. IsWorkable stage xs part) (sym e) (parts_work before stage held entries numbers part ready (subst (λ ms. IsPartOf stage.conf (entries_with ms entries) held part) same of));
      cached = own;
      scratch_free = free;
    }

-- a batch that was claimed, by the names that the code has for it
pub claimed_some : (from : Start) (entries all : List Numbered) (before gate : Gate) (taken : Option Batch) (batch : Batch) (held : CellsView) (made : List (List Rec)) → all ≡ entries → taken ≡ Some batch → IfSome taken (IsClaim from all before gate)
    → IsGoing from (record { entries = entries; gate = before; cells = held; made = made }) → HasClaimed from (record { entries = entries; gate = before; cells = held; made = made }) gate batch
claimed_some from entries all before gate None batch held made same is some going = absurd (cc)
claimed_some from entries all before gate (Some other) batch held made same is some going =
    let q : other ≡ batch = cc in
    subst (λ b. HasClaimed from (record { entries = entries; gate = before; cells = held; made = made }) gate b) q (subst (λ es. IsClaim from es before gate other) same some held made going)

pub ready_some : (before number : ℕ) (stage : Stage) (entries all : List Numbered) (numbers ns : List ℕ) (held : CellsView) → before ≡ number → all ≡ entries → ns ≡ numbers → AreReady number stage held entries numbers → AreReady before stage held all ns
ready_some before number stage entries all numbers ns held at same is ready =
    subst (λ b. AreReady b stage held all ns) (sym at) (subst (λ es. AreReady number stage held es ns) (sym same) (subst (AreReady number stage held entries) (sym is) ready))

pub marks_back : (from : Start) (p : ProgressView) (gate after : Gate) (batch other : Batch) → HasClaimed from p gate batch → other ≡ batch → (IsOpenBatch gate other → after ≡ with_ended other.id Pending gate) → after.marks ≡ p.gate.marks
marks_back from p gate after batch other claim is ends =
    let own = subst (HasClaimed from p gate) (sym is) claim in
    ap (λ (g : Gate). g.marks) (ends own.opened) ∙ own.back

pub worked_at : (before number : ℕ) (stage : Stage) (entries all : List Numbered) (numbers ns : List ℕ) (held next : CellsView) (made rows : List (List Rec)) → before ≡ number → all ≡ entries → ns ≡ numbers → IsWorkedIn before stage (entries_with ns all) held made next rows → IsWorkedIn number stage (entries_with numbers entries) held made next rows
worked_at before number stage entries all numbers ns held next made rows at same is works =
    subst (λ b. IsWorkedIn b stage (entries_with numbers entries) held made next rows) at
    (subst (λ es. IsWorkedIn before stage (entries_with numbers es) held made next rows) same (subst (λ ms. IsWorkedIn before stage (entries_with ms all) held made next rows) is works))

pub going_at : (from : Start) (entries : List Numbered) (gate : Gate) (held next : CellsView) (made rows : List (List Rec)) → next ≡ held → rows ≡ made → IsGoing from (record { entries = entries; gate = gate; cells = held; made = made }) → IsGoing from (record { entries = entries; gate = gate; cells = next; made = rows })
going_at from entries gate held next made rows same also going =
    subst (λ rs. IsGoing from (record { entries = entries; gate = gate; cells = next; made = rs })) (sym also)
    (subst (λ cs. IsGoing from (record { entries = entries; gate = gate; cells = cs; made = made })) (sym same) going)

pub put_within : (before number : ℕ) (stage : Stage) (held : CellsView) (entries es : List Numbered) (numbers : List ℕ) (made : List (List Rec)) → before ≡ number → AreReady number stage held entries numbers → es ≡ entries_with numbers entries → length made ≡ length entries → All (λ e. IsAmong before (length made) e.number) es
put_within before number stage held entries es numbers made at ready is size =
    subst (λ b. All (λ (e : Numbered). IsAmong b (length made) e.number) es) (sym at)
    (subst (λ k. All (λ (e : Numbered). IsAmong number k e.number) es) (sym size)
    (within_ones number entries es numbers (ap (map (λ (x : Numbered). x.number)) is ∙ ready.numbered) ready.within))

pub worked_before : (before number : ℕ) (stage : Stage) (es : List Numbered) (held next : CellsView) (made rows : List (List Rec)) → before ≡ number → IsWorkedIn before stage es held made next rows → IsWorkedIn number stage es held made next rows
worked_before before number stage es held next made rows at works = subst (λ b. IsWorkedIn b stage es held made next rows) at works

-- nothing to claim
pub idle_claimed : (taken : Option Batch) (some none : Bool) → (some ≡ false → is_some taken ≡ none) → IfNone taken (some ≡ false → none ≡ false)
idle_claimed (Some batch) some none idle = tt
idle_claimed None some none idle = λ e. sym (idle e)
