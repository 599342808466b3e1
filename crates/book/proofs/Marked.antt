-- Marks that say applied stay, whatever is offered, claimed, applied and given back.
use Rattle.std.proofs.Common.{◌≡◌, ℕ, zero, suc, ◌+◌, ◌-◌, Bool, true, false, List, [], ◌∷◌, ◌++◌, map, get_or, replicate, refl, sym, ap, subst, ◌∙◌, arith, cond}
use Rattle.std.proofs.lemmas.Bool.{le-ltb}
use Rattle.std.specs.Prelude.{nat_lt, Result, Ok, Err, OnOk, OnErr, IfOk}
use Rattle.zbx_types.specs.Masters.{has_id}
use Rattle.zbx_types.specs.declared.entries.Numbered.{Numbered}
use Rattle.footprint.specs.Feet.{Footing}
use Rattle.syncer_gate.specs.declared.marks.Mark.{Mark}
use Rattle.syncer_gate.specs.declared.marks.Mark.TheVariants.{Pending, Applied, Taken}
use Rattle.syncer_gate.specs.declared.batch.Batch.{Batch}
use Rattle.syncer_gate.specs.Marks.{ended}
use Rattle.syncer_gate.specs.Gate.{Gate, AreOffered, claimed, with_taken, with_ended, held_by, IsOpenBatch, same_numbers}
use Rattle.syncer_gate.specs.Chosen.{chosen}
use Rattle.book.specs.Progress.{ProgressView}
use Rattle.book.specs.Book.{StayApplied}
use Rattle.syncer_gate.proofs.Claimed.{AreFree, chosen_free}
use Rattle.syncer_gate.proofs.Ended.{not_same}
use Rattle.syncer_gate.proofs.MarkLemmas.{same_is}

pub keep_same : (marks marks' : List Mark) → marks' ≡ marks → StayApplied marks marks'
keep_same marks marks' same i e = ap (λ ms. get_or ms i Pending) same ∙ e

pub keep_both : (a b c : List Mark) → StayApplied a b → StayApplied b c → StayApplied a c
keep_both a b c p q i e = q i (p i e)

-- more entries
pub keep_more : (marks more : List Mark) → StayApplied marks (marks ++ more)
keep_more [] more zero e = absurd (cc)
keep_more [] more (suc i) e = absurd (cc)
keep_more (m ∷ marks) more zero e = e
keep_more (m ∷ marks) more (suc i) e = keep_more marks more i e

-- entries that were pulled
pub keep_pulled : (gate gate' : Gate) (count : ℕ) → gate' ≡ record gate { marks = gate.marks ++ replicate count Pending } → StayApplied gate.marks gate'.marks
keep_pulled gate gate' count same = subst (λ (g : Gate). StayApplied gate.marks g.marks) (sym same) (keep_more gate.marks (replicate count Pending))

-- a batch that ended
pub keep_ended : (id : ℕ) (to : Mark) (marks : List Mark) → StayApplied marks (map (ended id to) marks)
keep_ended id to [] zero e = absurd (cc)
keep_ended id to [] (suc i) e = absurd (cc)
keep_ended id to (m ∷ marks) zero e = ap (ended id to) e
keep_ended id to (m ∷ marks) (suc i) e = keep_ended id to marks i e

-- a batch that takes none that is applied
keep_taken : (id : ℕ) (numbers : List ℕ) (n : ℕ) (marks : List Mark) → ((i : ℕ) → has_id numbers (n + i) ≡ true → get_or marks i Pending ≡ Pending) → StayApplied marks (with_taken id numbers n marks)
keep_taken id numbers n [] free zero e = absurd (cc)
keep_taken id numbers n [] free (suc i) e = absurd (cc)
keep_taken id numbers n (m ∷ marks) free zero e = go (has_id numbers n) refl
  where
    go : (b : Bool) → has_id numbers n ≡ b → cond b (Taken id) m ≡ Applied
    go true q = let here : n + 0 ≡ n = omega arith in let pending : m ≡ Pending = free 0 (ap (has_id numbers) here ∙ q) in absurd (cc)
    go false q = e
keep_taken id numbers n (m ∷ marks) free (suc i) e =
    keep_taken id numbers (n + 1) marks (λ j h. free (suc j) (let next : n + suc j ≡ (n + 1) + j = omega arith in ap (has_id numbers) next ∙ h)) i e

pub keep_claimed : (feet : Footing) (gate : Gate) (entries : List Numbered) (looks limit : ℕ) → AreOffered gate entries → StayApplied gate.marks (claimed gate (chosen feet gate entries looks limit)).marks
keep_claimed feet gate entries looks limit offered = by (chosen feet gate entries looks limit) (chosen_free feet gate entries looks limit offered)
  where
    pending_at : (numbers : List ℕ) → AreFree gate numbers → (i : ℕ) → has_id numbers (gate.first + i) ≡ true → get_or gate.marks i Pending ≡ Pending
    pending_at numbers free i h =
        let n = gate.first + i in
        let above : nat_lt n gate.first ≡ false = le-ltb n gate.first (omega arith) in
        let back : n - gate.first ≡ i = omega arith in
        ap (λ j. get_or gate.marks j Pending) (sym back) ∙ ap (λ b. cond b Pending (get_or gate.marks (n - gate.first) Pending)) (sym above) ∙ free.pending n h

    by : (numbers : List ℕ) → AreFree gate numbers → StayApplied gate.marks (claimed gate numbers).marks
    by [] free i e = e
    by (n ∷ numbers) free i e = keep_taken gate.next (n ∷ numbers) gate.first gate.marks (pending_at (n ∷ numbers) free) i e

-- what ends a batch where it is open, and else does nothing
pub keep_ending : (gate gate' : Gate) (batch : Batch) (to : Mark) → (IsOpenBatch gate batch → gate' ≡ with_ended batch.id to gate) → ((IsOpenBatch gate batch → ⊥) → gate' ≡ gate) → StayApplied gate.marks gate'.marks
keep_ending gate gate' batch to ends other = by (same_numbers batch.numbers (held_by batch.id gate.first gate.marks)) refl
  where
    by : (b : Bool) → same_numbers batch.numbers (held_by batch.id gate.first gate.marks) ≡ b → StayApplied gate.marks gate'.marks
    by true q = subst (λ (g : Gate). StayApplied gate.marks g.marks) (sym (ends (same_is batch.numbers (held_by batch.id gate.first gate.marks) q))) (keep_ended batch.id to gate.marks)
    by false q = keep_same gate.marks gate'.marks (ap (λ (g : Gate). g.marks) (other (not_same batch.numbers (held_by batch.id gate.first gate.marks) q)))

-- ---- what a call has done to the marks

-- a claim, which may have been refused
pub keep_claim : {T E : Type 0} (feet : Footing) (p : ProgressView) (gate' : Gate) (looks limit : ℕ) (r : Result T E) → AreOffered p.gate p.entries
    → OnOk r (gate' ≡ claimed p.gate (chosen feet p.gate p.entries looks limit)) → OnErr r (gate'.marks ≡ p.gate.marks) → StayApplied p.gate.marks gate'.marks
keep_claim feet p gate' looks limit (Ok x) offered ok err = subst (λ (g : Gate). StayApplied p.gate.marks g.marks) (sym ok) (keep_claimed feet p.gate p.entries looks limit offered)
keep_claim feet p gate' looks limit (Err x) offered ok err = keep_same p.gate.marks gate'.marks err

-- the end of a batch, which may have been refused
pub keep_done : {T E : Type 0} (p p' : ProgressView) (batch : Batch) (to : Mark) (r : Result T E) → OnOk r (IsOpenBatch p.gate batch → p'.gate ≡ with_ended batch.id to p.gate)
    → ((IsOpenBatch p.gate batch → ⊥) → p' ≡ p) → OnErr r (p' ≡ p) → StayApplied p.gate.marks p'.gate.marks
keep_done p p' batch to (Ok x) ok other err = keep_ending p.gate p'.gate batch to ok (λ shut. ap (λ (q : ProgressView). q.gate) (other shut))
keep_done p p' batch to (Err x) ok other err = keep_same p.gate.marks p'.gate.marks (ap (λ (q : ProgressView). q.gate.marks) err)

-- an entry that was worked out, or none
pub keep_one : {E : Type 0} (feet : Footing) (p p' : ProgressView) (r : Result Bool E) → AreOffered p.gate p.entries
    → IfOk r (λ some. some ≡ true → (id : ℕ) × (p'.gate.marks ≡ (with_ended id Applied (claimed p.gate (chosen feet p.gate p.entries 4000 1))).marks))
    → IfOk r (λ some. some ≡ false → (chosen feet p.gate p.entries 4000 1 ≡ []) × (p' ≡ p))
    → OnErr r ((p'.gate.marks ≡ p.gate.marks) × (p'.cells ≡ p.cells) × (p'.made ≡ p.made)) → StayApplied p.gate.marks p'.gate.marks
keep_one feet p p' (Ok true) offered one none err =
    let some = one refl in
    let gate = claimed p.gate (chosen feet p.gate p.entries 4000 1) in
    subst (StayApplied p.gate.marks) (sym some.1) (keep_both p.gate.marks gate.marks (map (ended some.0 Applied) gate.marks) (keep_claimed feet p.gate p.entries 4000 1 offered) (keep_ended some.0 Applied gate.marks))
keep_one feet p p' (Ok false) offered one none err = keep_same p.gate.marks p'.gate.marks (ap (λ (q : ProgressView). q.gate.marks) (none refl).1)
keep_one feet p p' (Err x) offered one none err = keep_same p.gate.marks p'.gate.marks err.0
