-- The entries that a claim goes over.
use Rattle.std.proofs.Common.{◌≡◌, ◌<◌, ◌≤◌, ◌+◌, ◌-◌, ◌∙◌, ℕ, zero, suc, Bool, true, false, cond, ◌&&◌, ◌||◌, List, [], ◌∷◌, length, get_or, drop, refl, sym, ap, arith, add-one}
use Rattle.std.specs.Prelude.{nat_lt}
use Rattle.std.proofs.Math.Bool.{or_assoc}
use Rattle.std.proofs.Math.Seq.{drop-cons}
use Rattle.std.proofs.lemmas.Bool.{lt-ltb}
use mathlib.Core.Path.{fun_ext}
use Rattle.zbx_types.specs.declared.entries.Entry.{Entry}
use Rattle.zbx_types.specs.declared.entries.Numbered.{Numbered}
use Rattle.footprint.specs.Feet.{Footing}
use Rattle.footprint.specs.Conflict.{conflict_by}
use Rattle.syncer_gate.specs.declared.marks.Mark.{Mark}
use Rattle.syncer_gate.specs.declared.marks.Mark.TheVariants.{Pending, Applied, Taken}
use Rattle.syncer_gate.specs.Marks.{is_pending, is_open}
use Rattle.syncer_gate.specs.Window.{AreDone, AreWaiting}
use Rattle.syncer_gate.specs.Chosen.{opens, conflicts_with, picked}
use Rattle.syncer_gate.proofs.AnyLemmas.{or_false, drop_past}

-- one more mark and entry
opens_step : (marks : List Mark) (entries : List Numbered) (p : ℕ) (m : Mark) (e : Numbered) → p < length marks → length entries ≡ length marks → get_or marks p Pending ≡ m → e ≡ get_or entries p e
    → opens (drop p marks) (drop p entries) ≡ cond (is_open m) (e.entry ∷ opens (drop (p + 1) marks) (drop (p + 1) entries)) (opens (drop (p + 1) marks) (drop (p + 1) entries))
opens_step marks entries p m e l size at is =
    let u : p < length entries = omega arith in
    let a : drop p marks ≡ m ∷ drop (p + 1) marks = drop-cons marks p Pending l ∙ rw (at, add-one) refl in
    let b : drop p entries ≡ e ∷ drop (p + 1) entries = drop-cons entries p e u ∙ rw (← is, add-one) refl in
    rw (a, b) refl

-- an open entry is among them, and no other
pub opens_taken : (marks : List Mark) (entries : List Numbered) (p id : ℕ) (e : Numbered) → p < length marks → length entries ≡ length marks → get_or marks p Pending ≡ Taken id → e ≡ get_or entries p e
    → opens (drop p marks) (drop p entries) ≡ e.entry ∷ opens (drop (p + 1) marks) (drop (p + 1) entries)
opens_taken marks entries p id e l size at is = opens_step marks entries p (Taken id) e l size at is

first_of : (entries : List Numbered) (p : ℕ) → p < length entries → (e : Numbered) × (e ≡ get_or entries p e)
first_of [] p l = absurd (omega arith)
first_of (e ∷ entries) zero l = (e, refl)
first_of (e ∷ entries) (suc p) l = first_of entries p (omega arith)

pub opens_other : (marks : List Mark) (entries : List Numbered) (p : ℕ) → p < length marks → length entries ≡ length marks → is_open (get_or marks p Pending) ≡ false
    → opens (drop p marks) (drop p entries) ≡ opens (drop (p + 1) marks) (drop (p + 1) entries)
opens_other marks entries p l size shut =
    let f = first_of entries p (omega arith) in
    opens_step marks entries p (get_or marks p Pending) f.0 l size refl f.1 ∙ rw shut refl

-- what is applied isn't among them
pub opens_done : (low : ℕ) (marks : List Mark) (entries : List Numbered) → length entries ≡ length marks → AreDone low marks → opens (drop low marks) (drop low entries) ≡ opens marks entries
opens_done zero marks entries size done = refl
opens_done (suc low) [] entries size done = let d : Pending ≡ Applied = done 0 (omega arith) in absurd (cc)
opens_done (suc low) (m ∷ marks) [] size done = absurd (omega arith)
opens_done (suc low) (m ∷ marks) (e ∷ entries) size done =
    let d : m ≡ Applied = done 0 (omega arith) in
    opens_done low marks entries (omega arith) (λ i l. done (suc i) (omega arith)) ∙ rw d refl

-- what is pending isn't
pub opens_waiting : (marks : List Mark) (entries : List Numbered) → AreWaiting 0 marks → opens marks entries ≡ []
opens_waiting [] entries waiting = refl
opens_waiting (m ∷ marks) [] waiting = refl
opens_waiting (m ∷ marks) (e ∷ entries) waiting =
    let d : m ≡ Pending = waiting 0 (omega arith) in
    rw d (opens_waiting marks entries (λ i l. waiting (suc i) (omega arith)))

-- what open entries stand in the way of is known: one more entry
pub conflicts_more : (feet : Footing) (before after : Entry → Bool) (e : Entry) (rest whole : List Entry) (other : Entry) → after other ≡ (before other || conflict_by feet e other)
    → (before other || conflicts_with feet (e ∷ rest) other) ≡ conflicts_with feet whole other → (after other || conflicts_with feet rest other) ≡ conflicts_with feet whole other
conflicts_more feet before after e rest whole other more kept =
    ap (λ b. b || conflicts_with feet rest other) more ∙ or_assoc (before other) (conflict_by feet e other) (conflicts_with feet rest other) ∙ kept

pub pending_is : (m : Mark) → is_pending m ≡ true → m ≡ Pending
pending_is Pending e = refl
pending_is Applied e = cc
pending_is (Taken batch) e = cc

module _ (feet : Footing) where
  -- nothing is taken once there is no more to look at, or no more room
  pub picked_over : (waits : Entry → Bool) (looks room : ℕ) (marks : List Mark) (entries : List Numbered) → (nat_lt 0 looks && nat_lt 0 room) ≡ false → picked feet waits looks room marks entries ≡ []
  unfolding picked
  picked_over waits looks room [] entries over = refl
  picked_over waits looks room (m ∷ marks) [] over = refl
  picked_over waits looks room (m ∷ marks) (e ∷ entries) over =
      let n : (is_pending m && (nat_lt 0 looks && nat_lt 0 room)) ≡ false = ap (λ b. is_pending m && b) over ∙ none (is_pending m) in
      rw n (picked_over waits looks room marks entries over)
    where
      none : (b : Bool) → (b && false) ≡ false
      none true = refl
      none false = refl

  pub picked_past : (waits : Entry → Bool) (looks room p : ℕ) (marks : List Mark) (entries : List Numbered) → length marks ≤ p → picked feet waits looks room (drop p marks) entries ≡ []
  unfolding picked
  picked_past waits looks room p marks entries l = ap (λ ms. picked feet waits looks room ms entries) (drop_past p marks l)

  -- at one more entry
  picked_step : (waits : Entry → Bool) (looks room : ℕ) (marks : List Mark) (entries : List Numbered) (p : ℕ) (m : Mark) (e : Numbered)
      → p < length marks → length entries ≡ length marks → get_or marks p Pending ≡ m → e ≡ get_or entries p e
      → picked feet waits looks room (drop p marks) (drop p entries)
      ≡ cond (is_pending m && (nat_lt 0 looks && nat_lt 0 room))
      (cond (waits e.entry)
      (picked feet (λ other. waits other || conflict_by feet e.entry other) (looks - 1) room (drop (p + 1) marks) (drop (p + 1) entries))
      (e.number ∷ picked feet waits (looks - 1) (room - 1) (drop (p + 1) marks) (drop (p + 1) entries)))
      (picked feet waits looks room (drop (p + 1) marks) (drop (p + 1) entries))
  unfolding picked
  picked_step waits looks room marks entries p m e l size at is =
      let u : p < length entries = omega arith in
      let a : drop p marks ≡ m ∷ drop (p + 1) marks = drop-cons marks p Pending l ∙ rw (at, add-one) refl in
      let b : drop p entries ≡ e ∷ drop (p + 1) entries = drop-cons entries p e u ∙ rw (← is, add-one) refl in
      rw (a, b) refl

  pub picked_other : (waits : Entry → Bool) (looks room : ℕ) (marks : List Mark) (entries : List Numbered) (p : ℕ)
      → p < length marks → length entries ≡ length marks → is_pending (get_or marks p Pending) ≡ false
      → picked feet waits looks room (drop p marks) (drop p entries) ≡ picked feet waits looks room (drop (p + 1) marks) (drop (p + 1) entries)
  picked_other waits looks room marks entries p l size other =
      let f = first_of entries p (omega arith) in
      picked_step waits looks room marks entries p (get_or marks p Pending) f.0 l size refl f.1 ∙ rw other refl

  -- one that nothing stands in the way of
  pub picked_taken : (waits after : Entry → Bool) (looks room : ℕ) (marks : List Mark) (entries : List Numbered) (p : ℕ) (e : Numbered) (skipped : Bool)
      → p < length marks → length entries ≡ length marks → get_or marks p Pending ≡ Pending → e ≡ get_or entries p e → 0 < looks → 0 < room
      → skipped ≡ waits e.entry → ((other : Entry) → after other ≡ (waits other || (skipped && conflict_by feet e.entry other))) → skipped ≡ false
      → picked feet waits looks room (drop p marks) (drop p entries) ≡ e.number ∷ picked feet after (looks - 1) (room - 1) (drop (p + 1) marks) (drop (p + 1) entries)
  picked_taken waits after looks room marks entries p e skipped l size at is some left answer noted free =
      let a = lt-ltb 0 looks some in
      let b = lt-ltb 0 room left in
      let f : waits e.entry ≡ false = sym answer ∙ free in
      let same : after ≡ waits = fun_ext (λ other. noted other ∙ ap (λ s. waits other || (s && conflict_by feet e.entry other)) free ∙ or_false (waits other)) in
      picked_step waits looks room marks entries p Pending e l size at is ∙ rw (a, b, f, same) refl

  -- one that something stands in the way of
  pub picked_skipped : (waits after : Entry → Bool) (looks room : ℕ) (marks : List Mark) (entries : List Numbered) (p : ℕ) (e : Numbered) (skipped : Bool)
      → p < length marks → length entries ≡ length marks → get_or marks p Pending ≡ Pending → e ≡ get_or entries p e → 0 < looks → 0 < room
      → skipped ≡ waits e.entry → ((other : Entry) → after other ≡ (waits other || (skipped && conflict_by feet e.entry other))) → skipped ≡ true
      → picked feet waits looks room (drop p marks) (drop p entries) ≡ picked feet after (looks - 1) room (drop (p + 1) marks) (drop (p + 1) entries)
  picked_skipped waits after looks room marks entries p e skipped l size at is some left answer noted stuck =
      let a = lt-ltb 0 looks some in
      let b = lt-ltb 0 room left in
      let t : waits e.entry ≡ true = sym answer ∙ stuck in
      let more : after ≡ (λ other. waits other || conflict_by feet e.entry other) = fun_ext (λ other. noted other ∙ ap (λ s. waits other || (s && conflict_by feet e.entry other)) stuck) in
      picked_step waits looks room marks entries p Pending e l size at is ∙ rw (a, b, t, more) refl

  -- what is applied isn't looked at
  pub picked_done : (waits : Entry → Bool) (looks room low : ℕ) (marks : List Mark) (entries : List Numbered) → length entries ≡ length marks → AreDone low marks
      → picked feet waits looks room (drop low marks) (drop low entries) ≡ picked feet waits looks room marks entries
  unfolding picked
  picked_done waits looks room zero marks entries size done = refl
  picked_done waits looks room (suc low) [] entries size done = let d : Pending ≡ Applied = done 0 (omega arith) in absurd (cc)
  picked_done waits looks room (suc low) (m ∷ marks) [] size done = absurd (omega arith)
  picked_done waits looks room (suc low) (m ∷ marks) (e ∷ entries) size done =
      let d : m ≡ Applied = done 0 (omega arith) in
      picked_done waits looks room low marks entries (omega arith) (λ i l. done (suc i) (omega arith)) ∙ rw d refl
