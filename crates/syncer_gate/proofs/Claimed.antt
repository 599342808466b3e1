-- Claims, as steps of the core.
use Rattle.std.proofs.Common.{◌≡◌, ◌<◌, ◌≤◌, ◌+◌, ◌-◌, ◌∙◌, ℕ, zero, suc, Bool, true, false, cond, ◌&&◌, ◌||◌, ◌⊎◌, inl, inr, List, [], ◌∷◌, ◌++◌, length, map, get_or, reverse, refl, sym, ap, subst, arith, ne_eqb, is_some}
use Rattle.std.specs.Prelude.{nat_lt, IfSome}
use Rattle.std.specs.List.{list_any}
use Rattle.std.proofs.lemmas.Bool.{or_parts, lt-ltb, le-ltb, cases_lt}
use mathlib.Core.List.{reverse-cons}
use mathlib.Core.Path.{fun_ext}
use Rattle.zbx_types.specs.Ids.{ids_from}
use Rattle.zbx_types.specs.Masters.{has_id}
use Rattle.zbx_types.specs.declared.entries.Entry.{Entry}
use Rattle.zbx_types.specs.declared.entries.Numbered.{Numbered}
use Rattle.zbx_types.proofs.Truths.{isnt_true}
use Rattle.footprint.specs.Feet.{Footing}
use Rattle.footprint.specs.Conflict.{conflict_by}
use Rattle.syncer_gate.specs.declared.marks.Mark.{Mark}
use Rattle.syncer_gate.specs.declared.marks.Mark.TheVariants.{Pending, Applied, Taken}
use Rattle.syncer_gate.specs.Marks.{is_pending, is_open, is_taken}
use Rattle.syncer_gate.specs.Gate.{Gate, AreOffered, AreAlike, mark_of, batch_of, with_taken, claimed}
use Rattle.syncer_gate.specs.Chosen.{opens, conflicts_with, picked, chosen}
use Rattle.syncer_gate.specs.Window.{AreBelow, AreKept}
use Rattle.syncer_gate.specs.Core.{Core, Claim, happens, In, IsNumber, MayClaim, IsStep, core_of}
use Rattle.syncer_gate.proofs.Picked.{in_from, IsPicked, picked_right}

pub ids_alike : {A B : Type 0} (k : ℕ) (xs : List A) (ys : List B) → length xs ≡ length ys → ids_from k xs ≡ ids_from k ys
ids_alike k [] [] size = refl
ids_alike k [] (y ∷ ys) size = absurd (omega arith)
ids_alike k (x ∷ xs) [] size = absurd (omega arith)
ids_alike k (x ∷ xs) (y ∷ ys) size = ap (λ ids. k ∷ ids) (ids_alike (k + 1) xs ys (omega arith))

-- the numbers of the entries are those of the marks
pub by_marks : (gate : Gate) (entries : List Numbered) → AreOffered gate entries → map (λ e. e.number) entries ≡ ids_from gate.first gate.marks
by_marks gate entries off = off.numbers ∙ ids_alike gate.first entries gate.marks off.size

-- a list turned round has the same entries
in_last : (e x : Numbered) (xs : List Numbered) → e ≡ x → In e (xs ++ x ∷ [])
in_last e x [] q = inl q
in_last e x (y ∷ xs) q = inr (in_last e x xs q)

in_more : (e x : Numbered) (xs : List Numbered) → In e xs → In e (xs ++ x ∷ [])
in_more e x [] i = absurd i
in_more e x (y ∷ xs) (inl q) = inl q
in_more e x (y ∷ xs) (inr i) = inr (in_more e x xs i)

in_either : (e x : Numbered) (xs : List Numbered) → In e (xs ++ x ∷ []) → (e ≡ x) ⊎ In e xs
in_either e x [] (inl q) = inl q
in_either e x [] (inr i) = absurd i
in_either e x (y ∷ xs) (inl q) = inr (inl q)
in_either e x (y ∷ xs) (inr i) = elim (in_either e x xs i) [ inl q ↦ inl q | inr j ↦ inr (inr j) ]

in_turned : (e : Numbered) (xs : List Numbered) → In e xs → In e (reverse xs)
in_turned e [] i = absurd i
in_turned e (x ∷ xs) (inl q) = subst (In e) (sym (reverse-cons x xs)) (in_last e x (reverse xs) q)
in_turned e (x ∷ xs) (inr i) = subst (In e) (sym (reverse-cons x xs)) (in_more e x (reverse xs) (in_turned e xs i))

turned_in : (e : Numbered) (xs : List Numbered) → In e (reverse xs) → In e xs
turned_in e [] i = i
turned_in e (x ∷ xs) i = elim (in_either e x (reverse xs) (subst (In e) (reverse-cons x xs) i)) [ inl q ↦ inl q | inr j ↦ inr (turned_in e xs j) ]

-- a mark by its number
mark_from : (gate : Gate) (n : ℕ) → gate.first ≤ n → mark_of gate n ≡ get_or gate.marks (n - gate.first) Pending
mark_from gate n l = let e : nat_lt n gate.first ≡ false = le-ltb n gate.first l in rw e refl

mark_before : (gate : Gate) (n : ℕ) → n < gate.first → mark_of gate n ≡ Pending
mark_before gate n l = let e : nat_lt n gate.first ≡ true = lt-ltb n gate.first l in rw e refl

-- an open entry is among those that stand in the way
open_apart : (feet : Footing) (f : ℕ) (marks : List Mark) (entries : List Numbered) (y : Numbered) (e : Entry) → map (λ x. x.number) entries ≡ ids_from f marks → In y entries
    → is_open (get_or marks (y.number - f) Pending) ≡ true → conflicts_with feet (opens marks entries) e ≡ false → conflict_by feet y.entry e ≡ false
open_apart feet f marks [] y e off i o free = absurd i
open_apart feet f [] (x ∷ entries) y e off i o free = absurd (cc)
open_apart feet f (m ∷ marks) (x ∷ entries) y e off (inl q) o free =
    let head : x.number ≡ f = cc in
    let z = ap (λ w. w.number) q in
    let at : y.number - f ≡ 0 = omega arith in
    let t : is_open m ≡ true = ap (λ k. is_open (get_or (m ∷ marks) k Pending)) (sym at) ∙ o in
    let c : (conflict_by feet x.entry e || conflicts_with feet (opens marks entries) e) ≡ false = ap (λ b. conflicts_with feet (cond b (x.entry ∷ opens marks entries) (opens marks entries)) e) (sym t) ∙ free in
    ap (λ w. conflict_by feet w.entry e) q ∙ (or_parts (conflict_by feet x.entry e) (conflicts_with feet (opens marks entries) e) c).0
open_apart feet f (m ∷ marks) (x ∷ entries) y e off (inr i) o free =
    let tail : map (λ w. w.number) entries ≡ ids_from (f + 1) marks = cc in
    let r = in_from (f + 1) marks entries y tail i in
    let at : y.number - f ≡ suc (y.number - (f + 1)) = omega arith in
    open_apart feet (f + 1) marks entries y e tail i (ap (λ k. is_open (get_or (m ∷ marks) k Pending)) (sym at) ∙ o) (left (is_open m) free)
  where
    left : (b : Bool) → conflicts_with feet (cond b (x.entry ∷ opens marks entries) (opens marks entries)) e ≡ false → conflicts_with feet (opens marks entries) e ≡ false
    left true c = (or_parts (conflict_by feet x.entry e) (conflicts_with feet (opens marks entries) e) c).1
    left false c = c

-- an id that is above those of all open batches is new
is_new : (next : ℕ) (m : Mark) → ((x : ℕ) → m ≡ Taken x → x < next) → is_taken next m ≡ false
is_new next Pending below = refl
is_new next Applied below = refl
is_new next (Taken x) below = let l = below x refl in ne_eqb x next (λ q. absurd (omega arith))

-- the numbers are of entries that are there and pending
pub record AreFree (gate : Gate) (numbers : List ℕ) : Type 0 where
  pub offered : (n : ℕ) → has_id numbers n ≡ true → (gate.first ≤ n) × (n < gate.first + length gate.marks)
  pub pending : (n : ℕ) → has_id numbers n ≡ true → mark_of gate n ≡ Pending

module _ (feet : Footing) (gate : Gate) (entries : List Numbered) (looks limit : ℕ) (offered_all : AreOffered gate entries) where
  off : map (λ e. e.number) entries ≡ ids_from gate.first gate.marks
  off = by_marks gate entries offered_all

  right : IsPicked feet (conflicts_with feet (opens gate.marks entries)) gate.first gate.marks entries (chosen feet gate entries looks limit)
  right = picked_right feet (conflicts_with feet (opens gate.marks entries)) looks limit gate.first gate.marks entries off

  pub chosen_free : AreFree gate (chosen feet gate entries looks limit)
  chosen_free = record { offered = offered; pending = pending }
    where
      offered : (n : ℕ) → has_id (chosen feet gate entries looks limit) n ≡ true → (gate.first ≤ n) × (n < gate.first + length gate.marks)
      offered n h = let r = right.within n h in let a = in_from gate.first gate.marks entries r.0 off r.1 in let q = r.2 in (omega arith, omega arith)

      pending : (n : ℕ) → has_id (chosen feet gate entries looks limit) n ≡ true → mark_of gate n ≡ Pending
      pending n h = mark_from gate n (offered n h).0 ∙ (right.within n h).3

  chosen_may : AreBelow gate.next gate.marks → MayClaim feet (core_of entries gate) gate.next (chosen feet gate entries looks limit)
  chosen_may below = record { fresh = fresh; known = known; pending = chosen_free.pending; behind = behind; beside = beside }
    where
      fresh : (n : ℕ) → is_taken gate.next (mark_of gate n) ≡ false
      fresh n = elim (cases_lt n gate.first) [
        | inl l ↦ ap (is_taken gate.next) (mark_before gate n l)
        | inr g ↦ ap (is_taken gate.next) (mark_from gate n g) ∙ is_new gate.next (get_or gate.marks (n - gate.first) Pending) (λ x e. below (n - gate.first) x e)
      ]

      known : (n : ℕ) → has_id (chosen feet gate entries looks limit) n ≡ true → IsNumber (reverse entries) n
      known n h = let r = right.within n h in (r.0, in_turned r.0 entries r.1, r.2)

      behind : (y e : Numbered) → In y (reverse entries) → In e (reverse entries) → y.number < e.number → has_id (chosen feet gate entries looks limit) e.number ≡ true → has_id (chosen feet gate entries looks limit) y.number ≡ false → mark_of gate y.number ≡ Pending → conflict_by feet y.entry e.entry ≡ false
      behind y e yi ei l he hy pend =
          let i = turned_in y entries yi in
          right.behind y e i (turned_in e entries ei) l he hy (sym (mark_from gate y.number (in_from gate.first gate.marks entries y off i).0) ∙ pend)

      beside : (y e : Numbered) → In y (reverse entries) → In e (reverse entries) → has_id (chosen feet gate entries looks limit) e.number ≡ true → is_open (mark_of gate y.number) ≡ true → conflict_by feet y.entry e.entry ≡ false
      beside y e yi ei he o =
          let i = turned_in y entries yi in
          open_apart feet gate.first gate.marks entries y e.entry off i (ap is_open (sym (mark_from gate y.number (in_from gate.first gate.marks entries y off i).0)) ∙ o) (right.free e (turned_in e entries ei) he)

-- marks that a batch has taken
taken_at : (id f : ℕ) (numbers : List ℕ) (marks : List Mark) (i : ℕ) → ((n : ℕ) → has_id numbers n ≡ true → n < f + length marks) → get_or (with_taken id numbers f marks) i Pending ≡ cond (has_id numbers (f + i)) (Taken id) (get_or marks i Pending)
taken_at id f numbers [] i within =
    let none : has_id numbers (f + i) ≡ false = isnt_true (has_id numbers (f + i)) (λ t. let l = within (f + i) t in absurd (omega arith)) in
    rw none refl
taken_at id f numbers (m ∷ marks) zero within = let z : f + 0 ≡ f = omega arith in rw z refl
taken_at id f numbers (m ∷ marks) (suc i) within =
    let z : f + suc i ≡ (f + 1) + i = omega arith in
    taken_at id (f + 1) numbers marks i (λ n h. let l = within n h in omega arith) ∙ ap (λ k. cond (has_id numbers k) (Taken id) (get_or marks i Pending)) (sym z)

length_taken : (id f : ℕ) (numbers : List ℕ) (marks : List Mark) → length (with_taken id numbers f marks) ≡ length marks
length_taken id f numbers [] = refl
length_taken id f numbers (m ∷ marks) = ap suc (length_taken id (f + 1) numbers marks)

-- no entry comes or goes
pub claimed_alike : (gate : Gate) (numbers : List ℕ) → AreAlike gate (claimed gate numbers)
claimed_alike gate [] = (refl, refl)
claimed_alike gate (n ∷ numbers) = (refl, length_taken gate.next gate.first (n ∷ numbers) gate.marks)

-- all stays in order where a batch takes pending entries
pub kept_taken : (gate : Gate) (low high more : ℕ) (numbers : List ℕ) → AreFree gate numbers → AreKept gate.first gate.next low high gate.marks → high ≤ more → more ≤ length gate.marks → ((n : ℕ) → has_id numbers n ≡ true → n < gate.first + more)
    → AreKept gate.first (gate.next + 1) low more (with_taken gate.next numbers gate.first gate.marks)
kept_taken gate low high more numbers free kept up inside within =
    let size : length (with_taken gate.next numbers gate.first gate.marks) ≡ length gate.marks = length_taken gate.next gate.first numbers gate.marks in
    record {
      numbers = omega (arith, size, kept.numbers);
      inside = omega (arith, size);
      done = λ i l. at i ∙ done i l (has_id numbers (gate.first + i)) refl;
      waiting = λ i l. at i ∙ waiting i l (has_id numbers (gate.first + i)) refl;
      below = λ i x e. below i x (has_id numbers (gate.first + i)) (sym (at i) ∙ e);
    }
  where
    at : (i : ℕ) → get_or (with_taken gate.next numbers gate.first gate.marks) i Pending ≡ cond (has_id numbers (gate.first + i)) (Taken gate.next) (get_or gate.marks i Pending)
    at i = taken_at gate.next gate.first numbers gate.marks i (λ n h. (free.offered n h).1)

    pending : (i : ℕ) → has_id numbers (gate.first + i) ≡ true → get_or gate.marks i Pending ≡ Pending
    pending i h =
        let z : (gate.first + i) - gate.first ≡ i = omega arith in
        ap (λ k. get_or gate.marks k Pending) (sym z) ∙ sym (mark_from gate (gate.first + i) (omega arith)) ∙ free.pending (gate.first + i) h

    done : (i : ℕ) → i < low → (b : Bool) → has_id numbers (gate.first + i) ≡ b → cond b (Taken gate.next) (get_or gate.marks i Pending) ≡ Applied
    done i l true h = let p = pending i h in let d = kept.done i l in absurd (cc)
    done i l false h = kept.done i l

    waiting : (i : ℕ) → more ≤ i → (b : Bool) → has_id numbers (gate.first + i) ≡ b → cond b (Taken gate.next) (get_or gate.marks i Pending) ≡ Pending
    waiting i l true h = let w = within (gate.first + i) h in absurd (omega arith)
    waiting i l false h = kept.waiting i (omega arith)

    below : (i x : ℕ) (b : Bool) → cond b (Taken gate.next) (get_or gate.marks i Pending) ≡ Taken x → x < gate.next + 1
    below i x true e = let q : gate.next ≡ x = cc in omega arith
    below i x false e = let l = kept.below i x e in omega arith

core_claimed : (gate : Gate) (entries : List Numbered) (n : ℕ) (numbers : List ℕ) → AreFree gate (n ∷ numbers) → core_of entries (claimed gate (n ∷ numbers)) ≡ happens (core_of entries gate) (Claim gate.next (n ∷ numbers))
core_claimed gate entries n numbers free = ap over (fun_ext status)
  where
    over : (ℕ → Mark) → Core
    over s = record { log = reverse entries; status = s }

    inside : (k : ℕ) → gate.first ≤ k → mark_of (claimed gate (n ∷ numbers)) k ≡ cond (has_id (n ∷ numbers) k) (Taken gate.next) (mark_of gate k)
    inside k g =
        let z : gate.first + (k - gate.first) ≡ k = omega arith in
        mark_from (claimed gate (n ∷ numbers)) k g
        ∙ taken_at gate.next gate.first (n ∷ numbers) gate.marks (k - gate.first) (λ m h. (free.offered m h).1)
        ∙ ap (λ i. cond (has_id (n ∷ numbers) i) (Taken gate.next) (get_or gate.marks (k - gate.first) Pending)) z
        ∙ ap (λ m. cond (has_id (n ∷ numbers) k) (Taken gate.next) m) (sym (mark_from gate k g))

    outside : (k : ℕ) → k < gate.first → mark_of (claimed gate (n ∷ numbers)) k ≡ cond (has_id (n ∷ numbers) k) (Taken gate.next) (mark_of gate k)
    outside k l =
        let none : has_id (n ∷ numbers) k ≡ false = isnt_true (has_id (n ∷ numbers) k) (λ t. let r = (free.offered k t).0 in absurd (omega arith)) in
        mark_before (claimed gate (n ∷ numbers)) k l ∙ sym (ap (λ b. cond b (Taken gate.next) (mark_of gate k)) none ∙ mark_before gate k l)

    status : (k : ℕ) → mark_of (claimed gate (n ∷ numbers)) k ≡ cond (has_id (n ∷ numbers) k) (Taken gate.next) (mark_of gate k)
    status k = elim (cases_lt k gate.first) [ inl l ↦ outside k l | inr g ↦ inside k g ]

-- a claim is a step of the core
pub claim_steps : (feet : Footing) (gate after : Gate) (entries : List Numbered) (looks limit : ℕ) (answer : List ℕ) → AreOffered gate entries → AreBelow gate.next gate.marks
    → answer ≡ chosen feet gate entries looks limit → after ≡ claimed gate answer → IfSome (batch_of gate.next answer) (λ batch. IsStep feet entries gate (Claim batch.id batch.numbers) after)
claim_steps feet gate after entries looks limit [] all below is so = tt
claim_steps feet gate after entries looks limit (n ∷ numbers) all below is so =
    let may = subst (MayClaim feet (core_of entries gate) gate.next) (sym is) (chosen_may feet gate entries looks limit all below) in
    let free = subst (AreFree gate) (sym is) (chosen_free feet gate entries looks limit all) in
    (may, ap (core_of entries) so ∙ core_claimed gate entries n numbers free)

-- with no open batch a claim takes nothing exactly where nothing is pending
no_opens : (marks : List Mark) (entries : List Numbered) → list_any is_open marks ≡ false → opens marks entries ≡ []
no_opens [] entries none = refl
no_opens (m ∷ marks) [] none = refl
no_opens (m ∷ marks) (e ∷ entries) none =
    let p = or_parts (is_open m) (list_any is_open marks) none in
    let h : is_open m ≡ false = p.0 in
    rw h (no_opens marks entries p.1)

picked_idle : (feet : Footing) (waits : Entry → Bool) (id looks room : ℕ) (marks : List Mark) (entries : List Numbered) → ((e : Entry) → waits e ≡ false) → 0 < looks → 0 < room → length entries ≡ length marks
    → is_some (batch_of id (picked feet waits looks room marks entries)) ≡ list_any is_pending marks
unfolding picked
picked_idle feet waits id looks room [] entries free some left size = refl
picked_idle feet waits id looks room (m ∷ marks) [] free some left size = absurd (omega arith)
picked_idle feet waits id looks room (m ∷ marks) (e ∷ entries) free some left size =
    let a = lt-ltb 0 looks some in
    let b = lt-ltb 0 room left in
    let w = free e.entry in
    rw (a, b, w) (go (is_pending m) (picked_idle feet waits id looks room marks entries free some left (omega arith)))
  where
    go : (c : Bool) → is_some (batch_of id (picked feet waits looks room marks entries)) ≡ list_any is_pending marks
        → is_some (batch_of id (cond (c && true) (e.number ∷ picked feet waits (looks - 1) (room - 1) marks entries) (picked feet waits looks room marks entries))) ≡ (c || list_any is_pending marks)
    go true ih = refl
    go false ih = ih

pub claim_idles : (feet : Footing) (gate : Gate) (entries : List Numbered) (looks limit : ℕ) → AreOffered gate entries → 1 ≤ looks → 1 ≤ limit → list_any is_open gate.marks ≡ false → is_some (batch_of gate.next (chosen feet gate entries looks limit)) ≡ list_any is_pending gate.marks
claim_idles feet gate entries looks limit all k l none =
    picked_idle feet (conflicts_with feet (opens gate.marks entries)) gate.next looks limit gate.marks entries
    (λ e. ap (λ es. conflicts_with feet es e) (no_opens gate.marks entries none)) (omega arith) (omega arith) all.size
