-- What holds of the work at all times, and the facts behind steps: each way from the one to the other.
use Rattle.std.proofs.Common.{◌≡◌, ◌<◌, ◌≤◌, ◌+◌, ℕ, inl, inr, List, [], ◌∷◌, ◌++◌, length, map, reverse, filter, refl, sym, ◌∙◌, ap, subst, append_assoc, arith}
use mathlib.Core.List.{reverse-cons}
use Rattle.std.proofs.lemmas.List.{reverse-append, length-append, length-replicate}
use Rattle.std.specs.Prelude.{replicate, get_or, ◌-◌}
use Rattle.syncer_gate.specs.declared.marks.Mark.TheVariants.{Pending}
use Rattle.zbx_types.specs.Ids.{ids_from}
use Rattle.zbx_types.specs.declared.entries.Numbered.{Numbered}
use Rattle.zbx_types.specs.declared.entries.Rec.{Rec}
use Rattle.footprint.specs.Feet.{feet_of}
use Rattle.entry_step.specs.Each.{In, EachPair}
use Rattle.entry_step.specs.Laws.{IsGood, AreBehind}
use Rattle.entry_step.specs.Cells.{AreCellsOf}
use Rattle.entry_step.specs.Represents.{CellsView, Represents}
use Rattle.entry_step.proofs.Members.{each_from}
use Rattle.syncer_gate.specs.Gate.{Gate, AreOffered, AreAlike}
use Rattle.syncer_gate.specs.Core.{Core, Offer, InOrder, Holds, offered, core_of}
use Rattle.book.specs.Entries.{IsWholeLog}
use Rattle.book.specs.Schedule.{is_applied, Worked, worked}
use Rattle.book.specs.Progress.{ProgressView, made_at, worked_of, IsGoing}
use Rattle.book.proofs.Places.{Rises, in_of, in_right, in_reverse, older_below, of_reverse, pairs_reverse}
use Rattle.book.proofs.Scheduled.{IsConsistent, order_of, stepped}
use Rattle.entry_step.specs.Start.{Start}

-- the numbers of a whole log rise
above : (k : ℕ) (xs : List Numbered) (y : Numbered) → map (λ (e : Numbered). e.number) xs ≡ ids_from k xs → In y xs → (k ≤ y.number) × (y.number < k + length xs)
above k [] y off i = absurd i
above k (x ∷ xs) y off (inl q) = let a : x.number ≡ k = cc in let z = ap (λ w. w.number) q in (omega arith, omega arith)
above k (x ∷ xs) y off (inr i) =
    let t : map (λ (e : Numbered). e.number) xs ≡ ids_from (k + 1) xs = cc in
    let r = above (k + 1) xs y t i in (omega arith, omega arith)

rising : (k : ℕ) (xs : List Numbered) → map (λ (e : Numbered). e.number) xs ≡ ids_from k xs → EachPair (λ x later. x.number < later.number) xs
rising k [] off = tt
rising k (x ∷ xs) off =
    let a : x.number ≡ k = cc in
    let t : map (λ (e : Numbered). e.number) xs ≡ ids_from (k + 1) xs = cc in
    (each_from (λ later. x.number < later.number) xs (λ y i. let r = above (k + 1) xs y t i in omega arith), rising (k + 1) xs t)

pub whole_rises : (from : Start) (entries : List Numbered) → IsWholeLog from entries → Rises (reverse entries)
whole_rises from entries whole = pairs_reverse (λ e older. older.number < e.number) entries (rising (from.number + 1) entries whole.numbers)

pub number_within : (from : Start) (entries : List Numbered) (y : Numbered) → IsWholeLog from entries → In y (reverse entries) → (from.number < y.number) × (y.number ≤ from.number + length entries)
number_within from entries y whole i = let r = above (from.number + 1) entries y whole.numbers (of_reverse entries y i) in (omega arith, omega arith)

-- and are all behind that of the start
pub whole_behind : (from : Start) (entries : List Numbered) → IsWholeLog from entries → AreBehind from (reverse entries)
whole_behind from entries whole = each_from (λ y. from.number < y.number) (reverse entries) (λ y i. (number_within from entries y whole i).0)

pub whole_offered : (from : Start) (entries : List Numbered) (gate : Gate) → IsWholeLog from entries → gate.first ≡ from.number + 1 → length entries ≡ length gate.marks → AreOffered gate entries
whole_offered from entries gate whole first size = record { size = size; numbers = subst (λ k. map (λ (e : Numbered). e.number) entries ≡ ids_from k entries) (sym first) whole.numbers }

-- the facts behind steps
pub stands_of : (from : Start) (p : ProgressView) (going : IsGoing from p) → IsConsistent from (worked_of from.number p going.cells)
stands_of from p going = record {
  holds = going.known;
  rises = whole_rises from p.entries going.whole;
  behind = whole_behind from p.entries going.whole;
  done = record { order = order_of from (core_of p.entries p.gate) going.known; stand = going.facts.stand; kept = going.facts.kept };
}

-- the work has come to the state behind a step
pub record HasCome (from : Start) (w : Worked) (entries : List Numbered) (gate : Gate) (held : CellsView) (made : List (List Rec)) : Type 0 where
  pub good : IsGood from
  pub whole : IsWholeLog from entries
  pub first : gate.first ≡ from.number + 1
  pub size : length gate.marks ≡ length entries
  pub rows : length made ≡ length entries
  pub core : core_of entries gate ≡ w.core
  pub represented : Represents from.stage held w.cells
  pub kept : (n : ℕ) → from.number < n → made_at from.number made n ≡ w.made n

pub going_of : (from : Start) (w : Worked) (entries : List Numbered) (gate : Gate) (held : CellsView) (made : List (List Rec)) → IsConsistent from w → HasCome from w entries gate held made
    → IsGoing from (record { entries = entries; gate = gate; cells = held; made = made })
going_of from w entries gate held made stands come = record {
  good = come.good;
  whole = come.whole;
  first = come.first;
  offered = whole_offered from entries gate come.whole come.first (sym come.size);
  size = come.rows;
  known = subst (Holds (feet_of from.stage.conf)) (sym come.core) stands.holds;
  cells = w.cells;
  represented = come.represented;
  facts = record {
    order = subst (InOrder (feet_of from.stage.conf)) (sym come.core) stands.holds.order;
    stand = subst (λ (c : Core). AreCellsOf from w.cells (filter (λ e. is_applied (c.status e.number)) c.log)) (sym come.core) stands.done.stand;
    kept = λ newer older e split d.
        come.kept e.number (number_within from entries e come.whole (subst (In e) (sym split) (in_right newer (e ∷ older) e (inl refl)))).0
        ∙ stands.done.kept newer older e (sym (ap (λ (c : Core). c.log) come.core) ∙ split) (sym (ap (λ (c : Core). is_applied (c.status e.number)) come.core) ∙ d);
  };
}

-- entries that are offered, one after another
pub offers_stand : (from : Start) → IsGood from → (more : List Numbered) (w : Worked) → IsConsistent from w → Rises (reverse more ++ w.core.log) → AreBehind from more → IsConsistent from (record w { core = offered more w.core })
offers_stand from good [] w stands rises behind = stands
offers_stand from good (e ∷ more) w stands rises behind =
    let r : Rises (reverse more ++ e ∷ w.core.log) = subst Rises (ap (λ es. es ++ w.core.log) (reverse-cons e more) ∙ append_assoc (reverse more) (e ∷ []) w.core.log) rises in
    offers_stand from good more (worked from.stage w (Offer e)) (stepped from good w stands (Offer e) (λ y i. older_below (reverse more) e w.core.log r y (in_of w.core.log y i)) behind.0) r behind.1

pub more_going : (from : Start) (p : ProgressView) (more : List Numbered) (gate : Gate) (made : List (List Rec)) → IsGoing from p → IsWholeLog from (p.entries ++ more)
    → gate.first ≡ p.gate.first → length gate.marks ≡ length (p.entries ++ more) → core_of (p.entries ++ more) gate ≡ offered more (core_of p.entries p.gate)
    → length made ≡ length (p.entries ++ more) → ((n : ℕ) → made_at from.number made n ≡ made_at from.number p.made n)
    → IsGoing from (record { entries = p.entries ++ more; gate = gate; cells = p.cells; made = made })
more_going from p more gate made going whole first size core rows same =
    let stands = stands_of from p going in
    going_of from (record (worked_of from.number p going.cells) { core = offered more (core_of p.entries p.gate) }) (p.entries ++ more) gate p.cells made
    (offers_stand from going.good more (worked_of from.number p going.cells) stands (subst Rises (reverse-append p.entries more) (whole_rises from (p.entries ++ more) whole))
    (each_from (λ y. from.number < y.number) more (λ y i. (number_within from (p.entries ++ more) y whole (in_reverse (p.entries ++ more) y (in_right p.entries more y i))).0)))
    (record { good = going.good; whole = whole; first = first ∙ going.first; size = size; rows = rows; core = core; represented = going.represented; kept = λ n l. same n })

-- a step that touches neither cells nor records
pub gate_going : (from : Start) (p : ProgressView) (going : IsGoing from p) (gate : Gate) (core : Core) → IsConsistent from (record (worked_of from.number p going.cells) { core = core }) → AreAlike p.gate gate → core_of p.entries gate ≡ core
    → IsGoing from (record p { gate = gate })
gate_going from p going gate core stands alike is =
    going_of from (record (worked_of from.number p going.cells) { core = core }) p.entries gate p.cells p.made stands
    (record { good = going.good; whole = going.whole; first = alike.0 ∙ going.first; size = alike.1 ∙ sym going.offered.size; rows = going.size; core = is; represented = going.represented; kept = λ n l. refl })

-- so many entries came out of the ring
pub pulled_going : (from : Start) (entries more next : List Numbered) (before gate : Gate) (count : ℕ) (held : CellsView) (made rows : List (List Rec)) → IsGoing from (record { entries = entries; gate = before; cells = held; made = made })
    → next ≡ entries ++ more → IsWholeLog from next → gate ≡ record before { marks = before.marks ++ replicate count Pending } → ((es ms : List Numbered) → core_of (es ++ ms) gate ≡ offered ms (core_of es before))
    → length rows ≡ length made + count → ((n : ℕ) → get_or rows n [] ≡ get_or made n []) → length more ≡ count
    → IsGoing from (record { entries = next; gate = gate; cells = held; made = rows })
pulled_going from entries more next before gate count held made rows going is whole gate_is step size same counted =
    subst (λ es. IsGoing from (record { entries = es; gate = gate; cells = held; made = rows })) (sym is)
    (more_going from (record { entries = entries; gate = before; cells = held; made = made }) more gate rows going (subst (IsWholeLog from) is whole)
    (ap (λ (g : Gate). g.first) gate_is)
    (let a = ap (λ (g : Gate). length g.marks) gate_is in let b = length-append before.marks (replicate count Pending) in let c = length-replicate count Pending in let d = going.offered.size in let e = length-append entries more in omega arith)
    (step entries more)
    (let b = going.size in let e = length-append entries more in omega arith)
    (λ n. same (n - (from.number + 1))))
