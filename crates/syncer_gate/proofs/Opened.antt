-- Batches that a claim has just opened.
use Rattle.std.proofs.Common.{◌≡◌, ◌<◌, ◌≤◌, ◌+◌, ◌-◌, ◌∙◌, ℕ, suc, ◌==◌, Bool, true, false, cond, ◌&&◌, ◌||◌, List, [], ◌∷◌, length, map, get_or, set, refl, sym, ap, arith, eq-eqb, ne_eqb, eqb-true}
use Rattle.std.specs.Prelude.{nat_lt}
use Rattle.std.proofs.lemmas.Bool.{or_parts}
use Rattle.zbx_types.specs.Ids.{ids_from}
use Rattle.zbx_types.specs.Masters.{has_id}
use Rattle.zbx_types.specs.declared.entries.Entry.{Entry}
use Rattle.zbx_types.specs.declared.entries.Numbered.{Numbered}
use Rattle.footprint.specs.Feet.{Footing}
use Rattle.footprint.specs.Conflict.{conflict_by}
use Rattle.syncer_gate.specs.declared.marks.Mark.{Mark}
use Rattle.syncer_gate.specs.declared.marks.Mark.TheVariants.{Pending, Applied, Taken}
use Rattle.syncer_gate.specs.Marks.{is_pending, is_taken, ended}
use Rattle.syncer_gate.specs.Gate.{with_taken, held_by}
use Rattle.syncer_gate.specs.Chosen.{picked}
use Rattle.syncer_gate.proofs.MarkLemmas.{taken_none, taken_before, ended_none}

-- numbers that rise, from one on
abbrev pub RiseFrom : ℕ → List ℕ → Type 0
RiseFrom k [] = Unit {0}
RiseFrom k (n ∷ ns) = (k ≤ n) × RiseFrom (n + 1) ns

pub rise_less : (j k : ℕ) (ns : List ℕ) → j ≤ k → RiseFrom k ns → RiseFrom j ns
rise_less j k [] l r = tt
rise_less j k (n ∷ ns) l r = let a = r.0 in (omega arith, r.1)

-- none of them is below the first
pub rise_above : (k n : ℕ) (ns : List ℕ) → RiseFrom k ns → has_id ns n ≡ true → k ≤ n
rise_above k n [] r h = absurd (cc)
rise_above k n (m ∷ ns) r h = go (m == n) refl h (rise_above (m + 1) n ns r.1)
  where
    go : (b : Bool) → (m == n) ≡ b → (b || has_id ns n) ≡ true → (has_id ns n ≡ true → m + 1 ≤ n) → k ≤ n
    go true q t ih = let z = eqb-true m n q in let a = r.0 in omega arith
    go false q t ih = let a = r.0 in let b = ih t in omega arith

pub rise_not : (k n : ℕ) (ns : List ℕ) → RiseFrom k ns → n < k → has_id ns n ≡ false
rise_not k n ns r l = go (has_id ns n) refl
  where
    go : (b : Bool) → has_id ns n ≡ b → b ≡ false
    go true q = let a = rise_above k n ns r q in absurd (omega arith)
    go false q = refl

-- so do the numbers that a batch holds, and those that a claim picks
pub held_rise : (id f : ℕ) (marks : List Mark) → RiseFrom f (held_by id f marks)
held_rise id f [] = tt
held_rise id f (m ∷ marks) = go (is_taken id m) (held_rise id (f + 1) marks)
  where
    go : (b : Bool) → RiseFrom (f + 1) (held_by id (f + 1) marks) → RiseFrom f (cond b (f ∷ held_by id (f + 1) marks) (held_by id (f + 1) marks))
    go true ih = (omega arith, ih)
    go false ih = rise_less f (f + 1) (held_by id (f + 1) marks) (omega arith) ih

pub picked_rise : (feet : Footing) (waits : Entry → Bool) (looks room f : ℕ) (marks : List Mark) (entries : List Numbered) → map (λ e. e.number) entries ≡ ids_from f marks → RiseFrom f (picked feet waits looks room marks entries)
unfolding picked
picked_rise feet waits looks room f [] entries off = tt
picked_rise feet waits looks room f (m ∷ marks) [] off = tt
picked_rise feet waits looks room f (m ∷ marks) (e ∷ entries) off =
    go (is_pending m && (nat_lt 0 looks && nat_lt 0 room)) (waits e.entry)
    (up (λ other. waits other || conflict_by feet e.entry other) (looks - 1) room (picked_rise feet (λ other. waits other || conflict_by feet e.entry other) (looks - 1) room (f + 1) marks entries tail))
    (picked_rise feet waits (looks - 1) (room - 1) (f + 1) marks entries tail)
    (up waits looks room (picked_rise feet waits looks room (f + 1) marks entries tail))
  where
    tail : map (λ w. w.number) entries ≡ ids_from (f + 1) marks
    tail = cc

    head : e.number ≡ f
    head = cc

    up : (w : Entry → Bool) (l r : ℕ) → RiseFrom (f + 1) (picked feet w l r marks entries) → RiseFrom f (picked feet w l r marks entries)
    up w l r h = rise_less f (f + 1) (picked feet w l r marks entries) (omega arith) h

    go : (a b : Bool) → RiseFrom f (picked feet (λ other. waits other || conflict_by feet e.entry other) (looks - 1) room marks entries)
        → RiseFrom (f + 1) (picked feet waits (looks - 1) (room - 1) marks entries)
        → RiseFrom f (picked feet waits looks room marks entries)
        → RiseFrom f (cond a (cond b (picked feet (λ other. waits other || conflict_by feet e.entry other) (looks - 1) room marks entries) (e.number ∷ picked feet waits (looks - 1) (room - 1) marks entries)) (picked feet waits looks room marks entries))
    go true true skip take rest = skip
    go true false skip take rest =
        let q : e.number ≡ f = head in
        (omega arith, rise_less (e.number + 1) (f + 1) (picked feet waits (looks - 1) (room - 1) marks entries) (omega arith) take)
    go false b skip take rest = rest

-- the numbers that a batch holds are those of its marks
pub held_has : (id f n : ℕ) (marks : List Mark) → f ≤ n → has_id (held_by id f marks) n ≡ is_taken id (get_or marks (n - f) Pending)
held_has id f n [] l = refl
held_has id f n (m ∷ marks) l = go (f == n) refl (λ k. held_has id (f + 1) n marks k)
  where
    go : (b : Bool) → (f == n) ≡ b → (f + 1 ≤ n → has_id (held_by id (f + 1) marks) n ≡ is_taken id (get_or marks (n - (f + 1)) Pending)) → has_id (held_by id f (m ∷ marks)) n ≡ is_taken id (get_or (m ∷ marks) (n - f) Pending)
    go true q ih =
        let z = eqb-true f n q in
        let at : n - f ≡ 0 = omega arith in
        let none = rise_not (f + 1) n (held_by id (f + 1) marks) (held_rise id (f + 1) marks) (omega arith) in
        rw at (here (is_taken id m) none)
      where
        here : (c : Bool) → has_id (held_by id (f + 1) marks) n ≡ false → has_id (cond c (f ∷ held_by id (f + 1) marks) (held_by id (f + 1) marks)) n ≡ c
        here true none = ap (λ b. b || has_id (held_by id (f + 1) marks) n) q
        here false none = none
    go false q ih =
        let o : (f ≡ n → ⊥) = (λ s. let t = eq-eqb f n s in cc) in
        let at : n - f ≡ suc (n - (f + 1)) = omega arith in
        rw at (past (is_taken id m) (ih (omega arith)))
      where
        past : (c : Bool) → has_id (held_by id (f + 1) marks) n ≡ is_taken id (get_or marks (n - (f + 1)) Pending) → has_id (cond c (f ∷ held_by id (f + 1) marks) (held_by id (f + 1) marks)) n ≡ is_taken id (get_or marks (n - (f + 1)) Pending)
        past true same = ap (λ b. b || has_id (held_by id (f + 1) marks) n) q ∙ same
        past false same = same

-- a mark isn't the batch's
abbrev pub AreFresh : ℕ → List Mark → Type 0
AreFresh id marks = (i : ℕ) → is_taken id (get_or marks i Pending) ≡ false

held_none : (id f : ℕ) (marks : List Mark) → AreFresh id marks → held_by id f marks ≡ []
held_none id f [] fresh = refl
held_none id f (m ∷ marks) fresh =
    let e : is_taken id m ≡ false = fresh 0 in
    let r = held_none id (f + 1) marks (λ i. fresh (suc i)) in
    rw (e, r) refl

-- a batch holds exactly the numbers that it took
pub held_taken : (id f : ℕ) (numbers : List ℕ) (marks : List Mark) → AreFresh id marks → RiseFrom f numbers → ((n : ℕ) → has_id numbers n ≡ true → n < f + length marks) → held_by id f (with_taken id numbers f marks) ≡ numbers
held_taken id f [] marks fresh rise within = ap (held_by id f) (taken_none id f marks) ∙ held_none id f marks fresh
held_taken id f (n ∷ ns) [] fresh rise within = let t : has_id (n ∷ ns) n ≡ true = ap (λ b. b || has_id ns n) (eq-eqb n n refl) in let w = within n t in let a = rise.0 in absurd (omega arith)
held_taken id f (n ∷ ns) (m ∷ marks) fresh rise within =
    go (n == f) refl (λ r w. held_taken id (f + 1) ns marks (λ i. fresh (suc i)) r w) (λ r w. held_taken id (f + 1) (n ∷ ns) marks (λ i. fresh (suc i)) r w)
  where
    next : (j : ℕ) → has_id ns j ≡ true → j < (f + 1) + length marks
    next j h = let w = within j (or_later (n == j) (has_id ns j) h) in omega arith
      where
        or_later : (a b : Bool) → b ≡ true → (a || b) ≡ true
        or_later true b e = refl
        or_later false b e = e

    all : (j : ℕ) → has_id (n ∷ ns) j ≡ true → j < (f + 1) + length marks
    all j h = let w = within j h in omega arith

    itself : is_taken id (Taken id) ≡ true
    itself = eq-eqb id id refl

    Holds : List ℕ → Type 0
    Holds xs = RiseFrom (f + 1) xs → ((j : ℕ) → has_id xs j ≡ true → j < (f + 1) + length marks) → held_by id (f + 1) (with_taken id xs (f + 1) marks) ≡ xs

    go : (b : Bool) → (n == f) ≡ b → Holds ns → Holds (n ∷ ns) → held_by id f (with_taken id (n ∷ ns) f (m ∷ marks)) ≡ n ∷ ns
    go true q shorter longer =
        let z = eqb-true n f q in
        let i = itself in
        let ih = shorter (rise_less (f + 1) (n + 1) ns (omega arith) rise.1) next in
        let t : with_taken id (n ∷ ns) (f + 1) marks ≡ with_taken id ns (f + 1) marks = taken_before id n (f + 1) ns marks (omega arith) in
        rw (q, i, t, ih) (ap (λ k. k ∷ ns) (sym z))
    go false q shorter longer =
        let o : (n ≡ f → ⊥) = (λ s. let t = eq-eqb n f s in cc) in
        let a = rise.0 in
        let none = rise_not (n + 1) f ns rise.1 (omega arith) in
        let e : is_taken id m ≡ false = fresh 0 in
        let ih = longer (omega arith, rise.1) all in
        rw (q, none, e, ih) refl

-- a batch that is given back leaves the marks as they were
pub given_marks : (id f : ℕ) (numbers : List ℕ) (marks : List Mark) → AreFresh id marks → ((n : ℕ) → has_id numbers n ≡ true → f ≤ n → get_or marks (n - f) Pending ≡ Pending) → map (ended id Pending) (with_taken id numbers f marks) ≡ marks
given_marks id f numbers [] fresh pending = refl
given_marks id f numbers (m ∷ marks) fresh pending =
    let ih = given_marks id (f + 1) numbers marks (λ i. fresh (suc i)) (λ n h l. let z : n - f ≡ suc (n - (f + 1)) = omega arith in ap (λ k. get_or (m ∷ marks) k Pending) (sym z) ∙ pending n h (omega arith)) in
    rw ih (ap (λ x. x ∷ marks) (go (has_id numbers f) refl))
  where
    go : (b : Bool) → has_id numbers f ≡ b → ended id Pending (cond b (Taken id) m) ≡ m
    go true h =
        let i : is_taken id (Taken id) ≡ true = eq-eqb id id refl in
        let z : f - f ≡ 0 = omega arith in
        let p = pending f h (omega arith) in
        rw i (sym (ap (λ k. get_or (m ∷ marks) k Pending) (sym z) ∙ p))
    go false h = let e : is_taken id m ≡ false = fresh 0 in rw e refl

-- a batch of one entry that ends with its results
pub single_marks : (id f n : ℕ) (marks : List Mark) → AreFresh id marks → f ≤ n → n < f + length marks → map (ended id Applied) (with_taken id (n ∷ []) f marks) ≡ set marks (n - f) Applied
single_marks id f n [] fresh low high = refl
single_marks id f n (m ∷ marks) fresh low high = go (n == f) refl (λ l. single_marks id (f + 1) n marks (λ i. fresh (suc i)) l (omega arith))
  where
    same : (ms : List Mark) → AreFresh id ms → map (ended id Applied) ms ≡ ms
    same ms is = ended_none id Applied ms (λ i l. is i)

    go : (b : Bool) → (n == f) ≡ b → (f + 1 ≤ n → map (ended id Applied) (with_taken id (n ∷ []) (f + 1) marks) ≡ set marks (n - (f + 1)) Applied) → map (ended id Applied) (with_taken id (n ∷ []) f (m ∷ marks)) ≡ set (m ∷ marks) (n - f) Applied
    go true q ih =
        let z = eqb-true n f q in
        let at : n - f ≡ 0 = omega arith in
        let i : (id == id) ≡ true = eq-eqb id id refl in
        let t : with_taken id (n ∷ []) (f + 1) marks ≡ marks = taken_before id n (f + 1) [] marks (omega arith) ∙ taken_none id (f + 1) marks in
        let s = same marks (λ k. fresh (suc k)) in
        rw (at, q, t, i, s) refl
    go false q ih =
        let o : (n ≡ f → ⊥) = (λ s. let t = eq-eqb n f s in cc) in
        let at : n - f ≡ suc (n - (f + 1)) = omega arith in
        let e : is_taken id m ≡ false = fresh 0 in
        let r = ih (omega arith) in
        rw (at, q, e, r) refl
