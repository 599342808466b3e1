-- What a claim picks.
use Rattle.std.proofs.Common.{◌≡◌, ◌<◌, ◌≤◌, ◌+◌, ◌-◌, ◌∙◌, ℕ, suc, ◌==◌, Bool, true, false, cond, ◌&&◌, ◌||◌, inl, inr, List, [], ◌∷◌, length, map, get_or, refl, sym, ap, arith, eqb-true, eq-eqb, ne_eqb}
use Rattle.std.specs.Prelude.{nat_lt}
use Rattle.std.proofs.lemmas.Bool.{or_cases, or_parts}
use Rattle.zbx_types.specs.Ids.{ids_from}
use Rattle.zbx_types.specs.Masters.{has_id}
use Rattle.zbx_types.specs.declared.entries.Entry.{Entry}
use Rattle.zbx_types.specs.declared.entries.Numbered.{Numbered}
use Rattle.footprint.specs.Feet.{Footing}
use Rattle.footprint.specs.Conflict.{conflict_by}
use Rattle.syncer_gate.specs.declared.marks.Mark.{Mark}
use Rattle.syncer_gate.specs.declared.marks.Mark.TheVariants.{Pending}
use Rattle.syncer_gate.specs.Marks.{is_pending}
use Rattle.syncer_gate.specs.Chosen.{picked}
use Rattle.syncer_gate.specs.Core.{In}
use Rattle.syncer_gate.proofs.ChoiceLemmas.{pending_is, picked_over}

-- numbers follow one another
pub in_from : (f : ℕ) (marks : List Mark) (entries : List Numbered) (e : Numbered) → map (λ x. x.number) entries ≡ ids_from f marks → In e entries → (f ≤ e.number) × (e.number < f + length marks)
in_from f marks [] e off i = absurd i
in_from f [] (x ∷ entries) e off i = absurd (cc)
in_from f (m ∷ marks) (x ∷ entries) e off (inl q) =
    let h : x.number ≡ f = cc in
    let z = ap (λ y. y.number) q in
    (omega arith, omega arith)
in_from f (m ∷ marks) (x ∷ entries) e off (inr i) =
    let t : map (λ y. y.number) entries ≡ ids_from (f + 1) marks = cc in
    let r = in_from (f + 1) marks entries e t i in
    (omega arith, omega arith)

-- What is picked is pending, nothing stands in its way, and an earlier pending entry that isn't picked doesn't either.
pub record IsPicked (feet : Footing) (waits : Entry → Bool) (f : ℕ) (marks : List Mark) (entries : List Numbered) (numbers : List ℕ) : Type 0 where
  pub within : (n : ℕ) → has_id numbers n ≡ true → (e : Numbered) × In e entries × (e.number ≡ n) × (get_or marks (n - f) Pending ≡ Pending)
  pub free : (e : Numbered) → In e entries → has_id numbers e.number ≡ true → waits e.entry ≡ false
  pub behind : (y e : Numbered) → In y entries → In e entries → y.number < e.number → has_id numbers e.number ≡ true → has_id numbers y.number ≡ false → get_or marks (y.number - f) Pending ≡ Pending → conflict_by feet y.entry e.entry ≡ false

none_picked : (feet : Footing) (waits : Entry → Bool) (f : ℕ) (marks : List Mark) (entries : List Numbered) → IsPicked feet waits f marks entries []
none_picked feet waits f marks entries = record { within = λ n h. absurd (cc); free = λ e i h. absurd (cc); behind = λ y e yi ei l h. absurd (cc) }

module _ (feet : Footing) (f : ℕ) (m : Mark) (marks : List Mark) (e : Numbered) (entries : List Numbered) (head : e.number ≡ f) (off : map (λ x. x.number) entries ≡ ids_from (f + 1) marks) where
  above : (x : Numbered) → In x entries → f + 1 ≤ x.number
  above x i = (in_from (f + 1) marks entries x off i).0

  shift : (n : ℕ) → f + 1 ≤ n → get_or (m ∷ marks) (n - f) Pending ≡ get_or marks (n - (f + 1)) Pending
  shift n l = let z : n - f ≡ suc (n - (f + 1)) = omega arith in ap (λ k. get_or (m ∷ marks) k Pending) z

  here : (n : ℕ) → n ≡ f → get_or (m ∷ marks) (n - f) Pending ≡ m
  here n q = let z : n - f ≡ 0 = omega arith in ap (λ k. get_or (m ∷ marks) k Pending) z

  module _ (waits : Entry → Bool) (numbers : List ℕ) (p : IsPicked feet waits (f + 1) marks entries numbers) where
    within_up : (n : ℕ) → has_id numbers n ≡ true → (x : Numbered) × In x (e ∷ entries) × (x.number ≡ n) × (get_or (m ∷ marks) (n - f) Pending ≡ Pending)
    within_up n h =
        let r = p.within n h in
        let a = above r.0 r.1 in
        let q = r.2 in
        (r.0, inr r.1, r.2, shift n (omega arith) ∙ r.3)

    not_head : (x : Numbered) → x ≡ e → has_id numbers x.number ≡ true → ⊥
    not_head x q h =
        let r = p.within x.number h in
        let a = above r.0 r.1 in
        let s = r.2 in
        let z = ap (λ y. y.number) q in
        omega arith

    later : (y x : Numbered) → In y entries → x ≡ e → y.number < x.number → ⊥
    later y x i q l = let a = above y i in let z = ap (λ w. w.number) q in omega arith

    inner : (y x : Numbered) → In y entries → In x entries → y.number < x.number → has_id numbers x.number ≡ true → has_id numbers y.number ≡ false → get_or (m ∷ marks) (y.number - f) Pending ≡ Pending → conflict_by feet y.entry x.entry ≡ false
    inner y x yi xi l hx hy pend = p.behind y x yi xi l hx hy (sym (shift y.number (above y yi)) ∙ pend)

    -- one that isn't looked at
    over_case : (m ≡ Pending → numbers ≡ []) → IsPicked feet waits f (m ∷ marks) (e ∷ entries) numbers
    over_case none = record { within = within_up; free = free; behind = behind }
      where
        free : (x : Numbered) → In x (e ∷ entries) → has_id numbers x.number ≡ true → waits x.entry ≡ false
        free x (inl q) h = absurd (not_head x q h)
        free x (inr i) h = p.free x i h

        behind : (y x : Numbered) → In y (e ∷ entries) → In x (e ∷ entries) → y.number < x.number → has_id numbers x.number ≡ true → has_id numbers y.number ≡ false → get_or (m ∷ marks) (y.number - f) Pending ≡ Pending → conflict_by feet y.entry x.entry ≡ false
        behind y x (inl yq) xi l hx hy pend =
            let z : y.number ≡ f = ap (λ w. w.number) yq ∙ head in
            let n : has_id numbers x.number ≡ false = ap (λ ns. has_id ns x.number) (none (sym (here y.number z) ∙ pend)) in
            absurd (cc)
        behind y x (inr yi) (inl xq) l hx hy pend = absurd (later y x yi xq l)
        behind y x (inr yi) (inr xi) l hx hy pend = inner y x yi xi l hx hy pend

    -- one that is taken
    take_case : m ≡ Pending → waits e.entry ≡ false → IsPicked feet waits f (m ∷ marks) (e ∷ entries) (e.number ∷ numbers)
    take_case pending free_head = record { within = within; free = free; behind = behind }
      where
        tail_has : (x : Numbered) → In x entries → has_id (e.number ∷ numbers) x.number ≡ true → has_id numbers x.number ≡ true
        tail_has x i h =
            let a = above x i in
            let o : (e.number == x.number) ≡ false = ne_eqb e.number x.number (λ q. absurd (omega arith)) in
            ap (λ b. b || has_id numbers x.number) (sym o) ∙ h

        within : (n : ℕ) → has_id (e.number ∷ numbers) n ≡ true → (x : Numbered) × In x (e ∷ entries) × (x.number ≡ n) × (get_or (m ∷ marks) (n - f) Pending ≡ Pending)
        within n h = elim (or_cases (e.number == n) (has_id numbers n) h) [
          | inl q ↦ let z = eqb-true e.number n q in (e, inl refl, z, here n (sym z ∙ head) ∙ pending)
          | inr t ↦ within_up n t
        ]

        free : (x : Numbered) → In x (e ∷ entries) → has_id (e.number ∷ numbers) x.number ≡ true → waits x.entry ≡ false
        free x (inl q) h = ap (λ z. waits z.entry) q ∙ free_head
        free x (inr i) h = p.free x i (tail_has x i h)

        behind : (y x : Numbered) → In y (e ∷ entries) → In x (e ∷ entries) → y.number < x.number → has_id (e.number ∷ numbers) x.number ≡ true → has_id (e.number ∷ numbers) y.number ≡ false → get_or (m ∷ marks) (y.number - f) Pending ≡ Pending → conflict_by feet y.entry x.entry ≡ false
        behind y x (inl yq) xi l hx hy pend =
            let t : (e.number == y.number) ≡ true = eq-eqb e.number y.number (sym (ap (λ w. w.number) yq)) in
            let u : (e.number == y.number) ≡ false = (or_parts (e.number == y.number) (has_id numbers y.number) hy).0 in
            absurd (cc)
        behind y x (inr yi) (inl xq) l hx hy pend = absurd (later y x yi xq l)
        behind y x (inr yi) (inr xi) l hx hy pend = inner y x yi xi l (tail_has x xi hx) (or_parts (e.number == y.number) (has_id numbers y.number) hy).1 pend

  -- one that is skipped
  skip_case : (waits : Entry → Bool) (numbers : List ℕ) → IsPicked feet (λ other. waits other || conflict_by feet e.entry other) (f + 1) marks entries numbers → IsPicked feet waits f (m ∷ marks) (e ∷ entries) numbers
  skip_case waits numbers p = record { within = within_up both numbers p; free = free; behind = behind }
    where
      both : Entry → Bool
      both other = waits other || conflict_by feet e.entry other

      free : (x : Numbered) → In x (e ∷ entries) → has_id numbers x.number ≡ true → waits x.entry ≡ false
      free x (inl q) h = absurd (not_head both numbers p x q h)
      free x (inr i) h = (or_parts (waits x.entry) (conflict_by feet e.entry x.entry) (p.free x i h)).0

      behind : (y x : Numbered) → In y (e ∷ entries) → In x (e ∷ entries) → y.number < x.number → has_id numbers x.number ≡ true → has_id numbers y.number ≡ false → get_or (m ∷ marks) (y.number - f) Pending ≡ Pending → conflict_by feet y.entry x.entry ≡ false
      behind y x (inl yq) (inl xq) l hx hy pend = let a = ap (λ w. w.number) yq in let b = ap (λ w. w.number) xq in absurd (omega arith)
      behind y x (inl yq) (inr xi) l hx hy pend = ap (λ w. conflict_by feet w.entry x.entry) yq ∙ (or_parts (waits x.entry) (conflict_by feet e.entry x.entry) (p.free x xi hx)).1
      behind y x (inr yi) (inl xq) l hx hy pend = absurd (later both numbers p y x yi xq l)
      behind y x (inr yi) (inr xi) l hx hy pend = inner both numbers p y x yi xi l hx hy pend

pub picked_right : (feet : Footing) (waits : Entry → Bool) (looks room f : ℕ) (marks : List Mark) (entries : List Numbered) → map (λ x. x.number) entries ≡ ids_from f marks
    → IsPicked feet waits f marks entries (picked feet waits looks room marks entries)
unfolding picked
picked_right feet waits looks room f [] entries off = none_picked feet waits f [] entries
picked_right feet waits looks room f (m ∷ marks) [] off = none_picked feet waits f (m ∷ marks) []
picked_right feet waits looks room f (m ∷ marks) (e ∷ entries) off =
    let head : e.number ≡ f = cc in
    let tail : map (λ x. x.number) entries ≡ ids_from (f + 1) marks = cc in
    go head tail (is_pending m) refl (nat_lt 0 looks && nat_lt 0 room) refl (waits e.entry) refl
    (picked_right feet (λ other. waits other || conflict_by feet e.entry other) (looks - 1) room (f + 1) marks entries tail)
    (picked_right feet waits (looks - 1) (room - 1) (f + 1) marks entries tail)
    (picked_right feet waits looks room (f + 1) marks entries tail)
  where
    both : Entry → Bool
    both other = waits other || conflict_by feet e.entry other

    skipped : List ℕ
    skipped = picked feet (λ other. waits other || conflict_by feet e.entry other) (looks - 1) room marks entries

    taken : List ℕ
    taken = picked feet waits (looks - 1) (room - 1) marks entries

    rest : List ℕ
    rest = picked feet waits looks room marks entries

    go : e.number ≡ f → map (λ x. x.number) entries ≡ ids_from (f + 1) marks → (a : Bool) → is_pending m ≡ a → (b : Bool) → (nat_lt 0 looks && nat_lt 0 room) ≡ b → (w : Bool) → waits e.entry ≡ w
        → IsPicked feet (λ other. waits other || conflict_by feet e.entry other) (f + 1) marks entries skipped
        → IsPicked feet waits (f + 1) marks entries taken
        → IsPicked feet waits (f + 1) marks entries rest
        → IsPicked feet waits f (m ∷ marks) (e ∷ entries) (cond (a && b) (cond w skipped (e.number ∷ taken)) rest)
    go head tail false q b r w s pa pb pc = over_case feet f m marks e entries head tail waits rest pc (λ z. let t : is_pending m ≡ true = ap is_pending z in absurd (cc))
    go head tail true q false r w s pa pb pc = over_case feet f m marks e entries head tail waits rest pc (λ z. picked_over feet waits looks room marks entries r)
    go head tail true q true r true s pa pb pc = skip_case feet f m marks e entries head tail waits skipped pa
    go head tail true q true r false s pa pb pc = take_case feet f m marks e entries head tail waits taken pb (pending_is m q) s
