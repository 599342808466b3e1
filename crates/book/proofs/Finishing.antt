-- All entries are worked out, one after another.
use Rattle.std.proofs.Common.{◌≡◌, ◌<◌, ◌≤◌, ◌+◌, ◌-◌, ◌∙◌, ℕ, zero, suc, Bool, true, false, cond, ◌||◌, List, [], ◌∷◌, length, map, get_or, set, take, drop, append_assoc, ◌++◌, length-set, Option, Some, reverse, refl, sym, ap, subst, arith}
use Rattle.std.specs.Prelude.{nat_lt, IfSome}
use Rattle.std.specs.List.{list_any}
use Rattle.std.proofs.Math.ListN.{get_or-map}
use Rattle.std.proofs.lemmas.List.{length-map, reverse-append, take-append-drop}
use Rattle.std.proofs.Math.Seq.{drop-cons}
use mathlib.Core.List.{reverse-cons}
use Rattle.entry_step.specs.Log.{log_of}
use Rattle.entry_step.specs.Records.{replay}
use Rattle.book.proofs.Batches.{blank, number_from}
use Rattle.std.proofs.lemmas.Bool.{or_parts, le-ltb}
use mathlib.Core.Path.{fun_ext}
use Rattle.zbx_types.specs.declared.entries.Numbered.{Numbered}
use Rattle.zbx_types.specs.declared.entries.Rec.{Rec}
use Rattle.syncer_gate.specs.declared.marks.Mark.{Mark}
use Rattle.syncer_gate.specs.declared.marks.Mark.TheVariants.{Pending, Applied, Taken}
use Rattle.syncer_gate.specs.Marks.{is_pending, is_open, reopened}
use Rattle.syncer_gate.specs.declared.batch.Batch.{Batch}
use Rattle.syncer_gate.specs.Gate.{Gate, mark_of, with_ended}
use Rattle.syncer_gate.specs.Core.{Core, passes, core_of}
use Rattle.book.specs.Schedule.{is_applied, Worked}
use Rattle.book.specs.Progress.{ProgressView, worked_of, IsGoing, HasClaimed, IsOneMore}
use Rattle.book.proofs.Scheduled.{IsConsistent, same_done}
use Rattle.book.proofs.Going.{stands_of, gate_going}
use Rattle.entry_step.specs.Start.{Start}
use Rattle.book_opening.proofs.Replaying.{taken_more}

passed_reopened : (late early : Mark) → passes (reopened late) (reopened early) ≡ true → passes late early ≡ true
passed_reopened Pending early p = let q : passes Pending (reopened early) ≡ true = p in absurd (never early q)
  where
    never : (m : Mark) → passes Pending (reopened m) ≡ true → ⊥
    never Pending e = cc
    never Applied e = cc
    never (Taken id) e = cc
passed_reopened (Taken id) early p = let q : passes Pending (reopened early) ≡ true = p in absurd (never early q)
  where
    never : (m : Mark) → passes Pending (reopened m) ≡ true → ⊥
    never Pending e = cc
    never Applied e = cc
    never (Taken other) e = cc
passed_reopened Applied Pending p = refl
passed_reopened Applied Applied p = p
passed_reopened Applied (Taken id) p = refl

pending_reopened : (m : Mark) → is_pending (reopened m) ≡ false → is_pending m ≡ false
pending_reopened Pending e = e
pending_reopened Applied e = refl
pending_reopened (Taken id) e = refl

applied_still : (m : Mark) → is_applied (reopened m) ≡ is_applied m
applied_still Pending = refl
applied_still Applied = refl
applied_still (Taken id) = refl

reopened_core : Core → Core
reopened_core s = record { log = s.log; status = λ n. reopened (s.status n) }

core_reopened : (entries : List Numbered) (gate : Gate) → core_of entries (record gate { marks = map reopened gate.marks }) ≡ reopened_core (core_of entries gate)
unfolding reopened_core
core_reopened entries gate = ap over (fun_ext (λ n. go (nat_lt n gate.first) (n - gate.first)))
  where
    over : (ℕ → Mark) → Core
    over s = record { log = reverse entries; status = s }

    go : (b : Bool) (k : ℕ) → cond b Pending (get_or (map reopened gate.marks) k Pending) ≡ reopened (cond b Pending (get_or gate.marks k Pending))
    go true k = refl
    go false k = get_or-map reopened gate.marks k Pending

stands_reopened : (from : Start) (w : Worked) → IsConsistent from w → IsConsistent from (record w { core = reopened_core w.core })
unfolding reopened_core
stands_reopened from w stands = record {
  holds = record {
    order = λ y e yi ei l p. stands.holds.order y e yi ei l (passed_reopened (w.core.status e.number) (w.core.status y.number) p);
    known = λ n q. stands.holds.known n (pending_reopened (w.core.status n) q);
  };
  rises = stands.rises;
  behind = stands.behind;
  done = same_done from w.core.log w.core.status (λ n. reopened (w.core.status n)) w.cells w.made (λ n. applied_still (w.core.status n)) stands.done;
}

pub reopened_going : (from : Start) (p : ProgressView) (gate : Gate) → IsGoing from p → gate ≡ record p.gate { marks = map reopened p.gate.marks } → IsGoing from (record p { gate = gate })
reopened_going from p gate going is =
    gate_going from p going gate (reopened_core (core_of p.entries p.gate)) (stands_reopened from (worked_of from.number p going.cells) (stands_of from p going))
    (ap (λ (g : Gate). g.first) is, ap (λ (g : Gate). length g.marks) is ∙ length-map p.gate.marks reopened)
    (ap (core_of p.entries) is ∙ core_reopened p.entries p.gate)

-- how many entries aren't applied
abbrev pub unapplied : List Mark → ℕ
unapplied [] = 0
unapplied (m ∷ marks) = cond (is_applied m) (unapplied marks) (suc (unapplied marks))

pub unapplied_within : (marks : List Mark) → unapplied marks ≤ length marks
unapplied_within [] = omega arith
unapplied_within (m ∷ marks) = go (is_applied m) (unapplied_within marks)
  where
    go : (b : Bool) → unapplied marks ≤ length marks → cond b (unapplied marks) (suc (unapplied marks)) ≤ suc (length marks)
    go true l = omega arith
    go false l = omega arith

pub unapplied_less : (marks : List Mark) (k : ℕ) → k < length marks → get_or marks k Pending ≡ Pending → unapplied (set marks k Applied) + 1 ≡ unapplied marks
unapplied_less [] k l p = absurd (omega arith)
unapplied_less (m ∷ marks) zero l p = let q : m ≡ Pending = p in rw q (omega arith)
unapplied_less (m ∷ marks) (suc k) l p = go (is_applied m) (unapplied_less marks k (omega arith) p)
  where
    go : (b : Bool) → unapplied (set marks k Applied) + 1 ≡ unapplied marks → cond b (unapplied (set marks k Applied)) (suc (unapplied (set marks k Applied))) + 1 ≡ cond b (unapplied marks) (suc (unapplied marks))
    go true e = e
    go false e = omega arith

applied_is : (m : Mark) → is_applied m ≡ true → m ≡ Applied
applied_is Pending e = cc
applied_is Applied e = refl
applied_is (Taken id) e = cc

pub unapplied_none : (marks : List Mark) (i : ℕ) → unapplied marks ≡ 0 → i < length marks → get_or marks i Pending ≡ Applied
unapplied_none [] i e l = absurd (omega arith)
unapplied_none (m ∷ marks) i e l = go (is_applied m) refl e (λ z k h. unapplied_none marks k z h)
  where
    at : (j : ℕ) → j < suc (length marks) → m ≡ Applied → ((k : ℕ) → k < length marks → get_or marks k Pending ≡ Applied) → get_or (m ∷ marks) j Pending ≡ Applied
    at zero l h rest = h
    at (suc j) l h rest = rest j (omega arith)

    go : (b : Bool) → is_applied m ≡ b → cond b (unapplied marks) (suc (unapplied marks)) ≡ 0 → (unapplied marks ≡ 0 → (k : ℕ) → k < length marks → get_or marks k Pending ≡ Applied) → get_or (m ∷ marks) i Pending ≡ Applied
    go true q z ih = at i l (applied_is m q) (ih z)
    go false q z ih = absurd (omega arith)

-- no batch is open
pub closed_reopened : (marks : List Mark) → list_any is_open (map reopened marks) ≡ false
closed_reopened [] = refl
closed_reopened (m ∷ marks) = go m (closed_reopened marks)
  where
    go : (x : Mark) → list_any is_open (map reopened marks) ≡ false → (is_open (reopened x) || list_any is_open (map reopened marks)) ≡ false
    go Pending e = e
    go Applied e = e
    go (Taken id) e = e

pub closed_still : (marks : List Mark) (k : ℕ) → list_any is_open marks ≡ false → list_any is_open (set marks k Applied) ≡ false
closed_still [] k e = e
closed_still (m ∷ marks) zero e = (or_parts (is_open m) (list_any is_open marks) e).1
closed_still (m ∷ marks) (suc k) e =
    let p = or_parts (is_open m) (list_any is_open marks) e in
    let a : is_open m ≡ false = p.0 in
    let b = closed_still marks k p.1 in
    rw (a, b) refl

-- with none open and none pending all are applied
neither : (m : Mark) → is_open m ≡ false → is_pending m ≡ false → m ≡ Applied
neither Pending o p = cc
neither Applied o p = refl
neither (Taken id) o p = cc

pub all_applied : (marks : List Mark) (i : ℕ) → list_any is_open marks ≡ false → list_any is_pending marks ≡ false → i < length marks → get_or marks i Pending ≡ Applied
all_applied [] i o p l = absurd (omega arith)
all_applied (m ∷ marks) zero o p l = neither m (or_parts (is_open m) (list_any is_open marks) o).0 (or_parts (is_pending m) (list_any is_pending marks) p).0
all_applied (m ∷ marks) (suc i) o p l = all_applied marks i (or_parts (is_open m) (list_any is_open marks) o).1 (or_parts (is_pending m) (list_any is_pending marks) p).1 (omega arith)

-- what is applied stays so
pub applied_reopened : (marks : List Mark) (i : ℕ) → get_or marks i Pending ≡ Applied → get_or (map reopened marks) i Pending ≡ Applied
applied_reopened marks i e = get_or-map reopened marks i Pending ∙ ap reopened e

pub applied_set : (marks : List Mark) (k i : ℕ) → get_or marks i Pending ≡ Applied → get_or (set marks k Applied) i Pending ≡ Applied
applied_set [] k i e = e
applied_set (m ∷ marks) zero zero e = refl
applied_set (m ∷ marks) zero (suc i) e = e
applied_set (m ∷ marks) (suc k) zero e = e
applied_set (m ∷ marks) (suc k) (suc i) e = applied_set marks k i e

-- a batch of one entry that was worked out
single_of : (ns : List ℕ) → 0 < length ns → length ns ≤ 1 → (n : ℕ) × (ns ≡ n ∷ [])
single_of [] some few = absurd (omega arith)
single_of (n ∷ []) some few = (n, refl)
single_of (n ∷ m ∷ ns) some few = absurd (omega arith)

pub one_more : (from : Start) (p : ProgressView) (gate after : Gate) (taken : Option Batch) (batch : Batch) → HasClaimed from p gate batch → taken ≡ Some batch → IfSome taken (λ b. (0 < length b.numbers) × (length b.numbers ≤ 1)) → after ≡ with_ended batch.id Applied gate
    → IsOneMore p.gate.marks after.marks
one_more from p gate after taken batch claim is few ends =
    let f = subst (λ (o : Option Batch). IfSome o (λ b. (0 < length b.numbers) × (length b.numbers ≤ 1))) is few in
    let s = single_of batch.numbers f.0 f.1 in
    let one = claim.single s.0 s.1 in
    record { place = s.0 - (from.number + 1); inside = one.inside; pending = one.pending; after = ap (λ (g : Gate). g.marks) ends ∙ one.after }

-- the work so far: so many entries were looked for
pub record IsLeft (start entries : List Numbered) (first marks : List Mark) (count : ℕ) : Type 0 where
  pub same : entries ≡ start
  pub size : length marks ≡ length entries
  pub closed : list_any is_open marks ≡ false
  pub left : unapplied marks + count ≤ length marks
  pub applied : (i : ℕ) → get_or first i Pending ≡ Applied → get_or marks i Pending ≡ Applied

pub left_start : (start entries : List Numbered) (first marks : List Mark) → entries ≡ start → marks ≡ map reopened first → length marks ≡ length entries → IsLeft start entries first marks 0
left_start start entries first marks same is size = record {
  same = same;
  size = size;
  closed = ap (list_any is_open) is ∙ closed_reopened first;
  left = let u = unapplied_within marks in omega arith;
  applied = λ i e. ap (λ ms. get_or ms i Pending) is ∙ applied_reopened first i e;
}

pub left_more : (start entries next : List Numbered) (first marks after : List Mark) (count : ℕ) → IsLeft start entries first marks count → next ≡ entries → IsOneMore marks after → IsLeft start next first after (count + 1)
left_more start entries next first marks after count left same more =
    let size : length after ≡ length marks = ap length more.after ∙ length-set marks more.place Applied in
    let less = unapplied_less marks more.place more.inside more.pending in
    let is : unapplied after ≡ unapplied (set marks more.place Applied) = ap unapplied more.after in
    record {
      same = same ∙ left.same;
      size = size ∙ left.size ∙ sym (ap length same);
      closed = ap (list_any is_open) more.after ∙ closed_still marks more.place left.closed;
      left = let l = left.left in omega arith;
      applied = λ i e. ap (λ ms. get_or ms i Pending) more.after ∙ applied_set marks more.place i (left.applied i e);
    }

pub left_none : (start entries : List Numbered) (first marks : List Mark) (count i : ℕ) → IsLeft start entries first marks count → length start ≤ count → i < length entries → get_or marks i Pending ≡ Applied
left_none start entries first marks count i left all l =
    let a = left.left in
    let b = left.size in
    let c = ap length left.same in
    unapplied_none marks i (omega arith) (omega arith)

-- the records of an applied entry are those of its place in the replay
split_place : (xs : List Numbered) (k : ℕ) (d : Numbered) → k < length xs → xs ≡ take k xs ++ get_or xs k d ∷ drop (k + 1) xs
split_place xs k d l =
    let z : k + 1 ≡ suc k = omega arith in
    sym (take-append-drop k xs) ∙ ap (λ ys. take k xs ++ ys) (drop-cons xs k d l ∙ ap (λ j. get_or xs k d ∷ drop j xs) (sym z))

pub records_next : (from : Start) (p : ProgressView) → IsGoing from p → (place : ℕ) → place < length p.entries → get_or p.gate.marks place Pending ≡ Applied
    → replay from (log_of (take (place + 1) p.entries)) ≡ replay from (log_of (take place p.entries)) ++ get_or p.made place []
records_next from p going place l applied =
    ap (λ es. replay from (reverse es)) (taken_more p.entries place blank l)
    ∙ ap (replay from) (reverse-append (take place p.entries) (e ∷ []))
    ∙ ap (λ rs. replay from older ++ rs) (sym (going.facts.kept newer older e split is_one))
    ∙ ap (λ k. replay from older ++ get_or p.made k []) at
  where
    e : Numbered
    e = get_or p.entries place blank

    older : List Numbered
    older = reverse (take place p.entries)

    newer : List Numbered
    newer = reverse (drop (place + 1) p.entries)

    number : e.number ≡ (from.number + 1) + place
    number = number_from (from.number + 1) place p.entries going.whole.numbers l

    at : e.number - (from.number + 1) ≡ place
    at = let n = number in omega arith

    split : reverse p.entries ≡ newer ++ e ∷ older
    split =
        ap reverse (split_place p.entries place blank l)
        ∙ reverse-append (take place p.entries) (e ∷ drop (place + 1) p.entries)
        ∙ ap (λ xs. xs ++ older) (reverse-cons e (drop (place + 1) p.entries))
        ∙ append_assoc newer (e ∷ []) older

    is_one : is_applied (mark_of p.gate e.number) ≡ true
    is_one =
        let f = going.first in
        let n = number in
        let below : nat_lt e.number p.gate.first ≡ false = le-ltb e.number p.gate.first (omega arith) in
        let z : e.number - p.gate.first ≡ place = omega arith in
        ap (λ b. is_applied (cond b Pending (get_or p.gate.marks (e.number - p.gate.first) Pending))) below
        ∙ ap (λ k. is_applied (get_or p.gate.marks k Pending)) z
        ∙ ap is_applied applied

-- an entry that has no records yet
pub blank_row : (rows next : List (List Rec)) (rs : List Rec) → rs ≡ [] → next ≡ rows ++ rs ∷ [] → (n : ℕ) → get_or next n [] ≡ get_or rows n []
blank_row rows next rs none is n = ap (λ ms. get_or ms n []) (is ∙ ap (λ r. rows ++ r ∷ []) none) ∙ go rows n
  where
    go : (xs : List (List Rec)) (k : ℕ) → get_or (xs ++ [] ∷ []) k [] ≡ get_or xs k []
    go [] zero = refl
    go [] (suc k) = refl
    go (x ∷ xs) zero = refl
    go (x ∷ xs) (suc k) = go xs k
