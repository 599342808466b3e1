-- The entries of a batch are worked out one after another.
use Rattle.std.proofs.Common.{◌≡◌, ◌<◌, ◌⊎◌, inl, inr, ℕ, ◌==◌, Bool, true, false, cond, List, [], ◌∷◌, ◌++◌, filter, refl, sym, ◌∙◌, ap, ap₂, subst, eqb-true, eq-eqb, ne_eqb, arith}
use Rattle.zbx_types.specs.declared.entries.Numbered.{Numbered}
use Rattle.zbx_types.specs.declared.entries.Rec.{Rec}
use Rattle.entry_step.specs.Each.{Each, In, EachPair}
use Rattle.entry_step.specs.Records.{out_of, replay}
use Rattle.entry_step.specs.Cells.{Cells, records, after, look, AreCellsOf}
use Rattle.entry_step.specs.Laws.{IsGood, AreBehind, Apart, InPlace, cells_done, records_done, PassedApart}
use Rattle.entry_step.proofs.Members.{each_from, each_at, each_filter, each_append, filter-append}
use Rattle.entry_step.proofs.Orders.{insertion, applied_part}
use Rattle.book.specs.Schedule.{keeping}
use Rattle.book.proofs.Places.{Rises, in_left, in_right, filter_cong, split_at, older_below, newer_above, same_entry}
use Rattle.entry_step.specs.Start.{Start}

-- The cells and records of the entries of a log that are done, by a test of numbers: no entry is done that conflicts with an
-- older one that isn't
pub record Done (from : Start) (log : List Numbered) (done : ℕ → Bool) (cells : Cells) (made : ℕ → List Rec) : Type 0 where
  pub order : (y e : Numbered) → In y log → In e log → y.number < e.number → done e.number ≡ true → done y.number ≡ false → Apart from.stage.conf y e
  pub stand : AreCellsOf from cells (filter (λ e. done e.number) log)
  pub kept : (newer older : List Numbered) (e : Numbered) → log ≡ newer ++ e ∷ older → done e.number ≡ true → made e.number ≡ out_of from older e e.entry (from.records ++ replay from older)

-- one more number
abbrev pub also : (ℕ → Bool) → ℕ → ℕ → Bool
also done k n = cond (n == k) true (done n)

abbrev pub also_all : (ℕ → Bool) → List Numbered → ℕ → Bool
also_all done [] = done
also_all done (e ∷ es) = also_all (also done e.number) es

also_cases : (done : ℕ → Bool) (k n : ℕ) → also done k n ≡ true → (n ≡ k) ⊎ (done n ≡ true)
also_cases done k n e = go (n == k) refl e
  where
    go : (b : Bool) → (n == k) ≡ b → cond b true (done n) ≡ true → (n ≡ k) ⊎ (done n ≡ true)
    go true q e = inl (eqb-true n k q)
    go false q e = inr e

pub not_also : (done : ℕ → Bool) (k n : ℕ) → also done k n ≡ false → done n ≡ false
not_also done k n e = go (n == k) e
  where
    go : (b : Bool) → cond b true (done n) ≡ false → done n ≡ false
    go true e = cc
    go false e = e

also_itself : (done : ℕ → Bool) (k : ℕ) → also done k k ≡ true
also_itself done k = rw (eq-eqb k k refl) refl

also_other : (done : ℕ → Bool) (k n : ℕ) → (n ≡ k → ⊥) → also done k n ≡ done n
also_other done k n h = rw (ne_eqb n k h) refl

also_keeps : (done : ℕ → Bool) (k n : ℕ) → done n ≡ true → also done k n ≡ true
also_keeps done k n e = go (n == k)
  where
    go : (b : Bool) → cond b true (done n) ≡ true
    go true = refl
    go false = e

all_keep : (done : ℕ → Bool) (es : List Numbered) (n : ℕ) → done n ≡ true → also_all done es n ≡ true
all_keep done [] n e = e
all_keep done (x ∷ es) n e = all_keep (also done x.number) es n (also_keeps done x.number n e)

pub all_in : (done : ℕ → Bool) (es : List Numbered) (x : Numbered) → In x es → also_all done es x.number ≡ true
all_in done [] x i = absurd i
all_in done (z ∷ es) x (inl q) = all_keep (also done z.number) es x.number (ap (λ w. also done z.number w.number) q ∙ also_itself done z.number)
all_in done (z ∷ es) x (inr i) = all_in (also done z.number) es x i

pub all_out : (done : ℕ → Bool) (es : List Numbered) (n : ℕ) → ((x : Numbered) → In x es → x.number ≡ n → ⊥) → also_all done es n ≡ done n
all_out done [] n h = refl
all_out done (z ∷ es) n h = all_out (also done z.number) es n (λ x i. h x (inr i)) ∙ also_other done z.number n (λ q. h z (inl refl) (sym q))

-- what is kept, once one entry's records are
abbrev pub kept_also : (ℕ → List Rec) → ℕ → List Rec → ℕ → List Rec
kept_also made k rs n = cond (n == k) rs (made n)

-- what the search finds in a log stands for it
look_stands : (from : Start) (log : List Numbered) → AreCellsOf from (look from log (from.records ++ replay from log)) log
unfolding AreCellsOf
look_stands from log = refl

-- what isn't done behind the first of some entries isn't that one, nor one of lower number than all of them
pub not_among : (x : Numbered) (es : List Numbered) (y : Numbered) → Each (λ later. x.number < later.number) es → y.number < x.number → In y (x ∷ es) → ⊥
not_among x es y rising l (inl q) = let s = ap (λ w. w.number) q in omega arith
not_among x es y rising l (inr i) = let m = each_at (λ w. x.number < w.number) es rising y i in omega arith

pub still_out : (done : ℕ → Bool) (x : Numbered) (es : List Numbered) (y : Numbered) → also done x.number y.number ≡ false → (In y es → ⊥) → In y (x ∷ es) → ⊥
still_out done x es y w out (inl q) = let t : also done x.number y.number ≡ true = ap (λ z. also done x.number z.number) q ∙ also_itself done x.number in cc
still_out done x es y w out (inr i) = out i

pub later_waits : (done : ℕ → Bool) (x : Numbered) (es : List Numbered) → Each (λ later. x.number < later.number) es → ((z : Numbered) → In z (x ∷ es) → done z.number ≡ false) → (z : Numbered) → In z es → also done x.number z.number ≡ false
later_waits done x es rising waits z i = also_other done x.number z.number (λ q. let l = each_at (λ w. x.number < w.number) es rising z i in omega arith) ∙ waits z (inr i)

module _ (from : Start) (good : IsGood from) (log : List Numbered) (rises : Rises log) (behind : AreBehind from log) where
  -- one entry that isn't done, and conflicts with no older one that isn't
  module _ (done : ℕ → Bool) (cells : Cells) (made : ℕ → List Rec) (holds : Done from log done cells made) (x : Numbered) (here : In x log) (waits : done x.number ≡ false)
      (free : (y : Numbered) → In y log → y.number < x.number → done y.number ≡ false → Apart from.stage.conf y x) where
    rises_at : (newer older : List Numbered) → log ≡ newer ++ x ∷ older → Rises (newer ++ x ∷ older)
    rises_at newer older split = subst Rises split rises

    in_older : (newer older : List Numbered) → log ≡ newer ++ x ∷ older → (y : Numbered) → In y older → In y log
    in_older newer older split y i = subst (In y) (sym split) (in_right newer (x ∷ older) y (inr i))

    in_newer : (newer older : List Numbered) → log ≡ newer ++ x ∷ older → (y : Numbered) → In y newer → In y log
    in_newer newer older split y i = subst (In y) (sym split) (in_left newer (x ∷ older) y i)

    -- all are behind what stood before
    above : (y : Numbered) → In y log → from.number < y.number
    above y i = each_at (λ z. from.number < z.number) log behind y i

    above_older : (newer older : List Numbered) → log ≡ newer ++ x ∷ older → AreBehind from (filter (λ e. done e.number) older)
    above_older newer older split = each_filter (λ z. from.number < z.number) (λ e. done e.number) older (λ y i e. above y (in_older newer older split y i))

    above_newer : (newer older : List Numbered) → log ≡ newer ++ x ∷ older → AreBehind from (filter (λ e. done e.number) newer)
    above_newer newer older split = each_filter (λ z. from.number < z.number) (λ e. done e.number) newer (λ y i e. above y (in_newer newer older split y i))

    above_part : (newer older : List Numbered) → log ≡ newer ++ x ∷ older → AreBehind from (filter (λ e. done e.number) newer ++ x ∷ filter (λ e. done e.number) older)
    above_part newer older split =
        each_append (λ z. from.number < z.number) (filter (λ e. done e.number) newer) (x ∷ filter (λ e. done e.number) older) (above_newer newer older split) (above x here, above_older newer older split)

    -- no newer one that is done conflicts with it, so it joins in its place
    in_place : (newer older : List Numbered) → log ≡ newer ++ x ∷ older → InPlace from (filter (λ e. done e.number) newer) x (filter (λ e. done e.number) older) cells
    in_place newer older split = (insertion from (filter (λ e. done e.number) newer) x (filter (λ e. done e.number) older) good (above_part newer older split) apart).1 cells (subst (AreCellsOf from cells) before holds.stand)
      where
        apart : Each (λ a. Apart from.stage.conf x a) (filter (λ e. done e.number) newer)
        apart =
            each_filter (λ a. Apart from.stage.conf x a) (λ e. done e.number) newer
            (λ a i e. holds.order x a here (in_newer newer older split a i) (newer_above newer x older (rises_at newer older split) a i) e waits)

        before : filter (λ e. done e.number) log ≡ filter (λ e. done e.number) newer ++ filter (λ e. done e.number) older
        before =
            ap (filter (λ e. done e.number)) split
            ∙ filter-append (λ e. done e.number) newer (x ∷ older)
            ∙ ap (λ b. filter (λ e. done e.number) newer ++ cond b (x ∷ filter (λ e. done e.number) older) (filter (λ e. done e.number) older)) waits

    -- its records are those of its place in the whole log
    its_records : (newer older : List Numbered) → log ≡ newer ++ x ∷ older → records from.stage cells x ≡ out_of from older x x.entry (from.records ++ replay from older)
    its_records newer older split =
        (in_place newer older split).its_records
        ∙ sym ((insertion from [] x part good (above x here, above_older newer older split) tt).1 there (look_stands from part)).its_records
        ∙ applied_part from (λ e. done e.number) older x good (above x here, each_from (λ y. from.number < y.number) older (λ y i. above y (in_older newer older split y i))) pairs apart there (look_stands from part)
      where
        part : List Numbered
        part = filter (λ e. done e.number) older

        there : Cells
        there = look from part (from.records ++ replay from part)

        apart : Each (λ y. done y.number ≡ false → Apart from.stage.conf y x) older
        apart =
            each_from (λ y. done y.number ≡ false → Apart from.stage.conf y x) older
            (λ y i e. free y (in_older newer older split y i) (older_below newer x older (rises_at newer older split) y i) e)

        pairs_in : (xs : List Numbered) → ((y : Numbered) → In y xs → In y log) → Rises xs → EachPair (PassedApart from.stage.conf (λ e. done e.number)) xs
        pairs_in [] inside r = tt
        pairs_in (e ∷ xs) inside r = (
          each_from (PassedApart from.stage.conf (λ e. done e.number) e) xs (λ y i d w. holds.order y e (inside y (inr i)) (inside e (inl refl)) (each_at (λ z. z.number < e.number) xs r.0 y i) d w),
          pairs_in xs (λ y i. inside y (inr i)) r.1,
        )

        rises_behind : (newer : List Numbered) → Rises (newer ++ x ∷ older) → Rises older
        rises_behind [] r = r.1
        rises_behind (z ∷ newer) r = rises_behind newer r.1

        pairs : EachPair (PassedApart from.stage.conf (λ e. done e.number)) older
        pairs = pairs_in older (in_older newer older split) (rises_behind newer (rises_at newer older split))

    abbrev next : ℕ → Bool
    next = also done x.number

    order_next : (y e : Numbered) → In y log → In e log → y.number < e.number → next e.number ≡ true → next y.number ≡ false → Apart from.stage.conf y e
    order_next y e i j l d w = go (also_cases done x.number e.number d)
      where
        go : (e.number ≡ x.number) ⊎ (done e.number ≡ true) → Apart from.stage.conf y e
        go (inl q) = subst (Apart from.stage.conf y) (sym (same_entry log rises e x j here q)) (free y i (subst (λ n. y.number < n) q l) (not_also done x.number y.number w))
        go (inr t) = holds.order y e i j l t (not_also done x.number y.number w)

    part_next : (newer older : List Numbered) → log ≡ newer ++ x ∷ older → filter (λ e. done e.number) newer ++ x ∷ filter (λ e. done e.number) older ≡ filter (λ e. next e.number) log
    part_next newer older split =
        sym (ap (filter (λ e. next e.number)) split
        ∙ filter-append (λ e. next e.number) newer (x ∷ older)
        ∙ ap (λ b. filter (λ e. next e.number) newer ++ cond b (x ∷ filter (λ e. next e.number) older) (filter (λ e. next e.number) older)) (also_itself done x.number)
        ∙ ap₂ (λ xs ys. xs ++ x ∷ ys)
        (filter_cong (λ e. next e.number) (λ e. done e.number) newer (λ y i. also_other done x.number y.number (λ q. let l = newer_above newer x older (rises_at newer older split) y i in omega arith)))
        (filter_cong (λ e. next e.number) (λ e. done e.number) older (λ y i. also_other done x.number y.number (λ q. let l = older_below newer x older (rises_at newer older split) y i in omega arith))))

    stand_next : AreCellsOf from (after from.stage cells x) (filter (λ e. next e.number) log)
    stand_next = let r = split_at log x here in subst (AreCellsOf from (after from.stage cells x)) (part_next r.0 r.1 r.2) (in_place r.0 r.1 r.2).stand

    kept_next : (newer older : List Numbered) (e : Numbered) → log ≡ newer ++ e ∷ older → next e.number ≡ true → kept_also made x.number (records from.stage cells x) e.number ≡ out_of from older e e.entry (from.records ++ replay from older)
    kept_next newer older e split d = go (e.number == x.number) refl d
      where
        go : (b : Bool) → (e.number == x.number) ≡ b → cond b true (done e.number) ≡ true → cond b (records from.stage cells x) (made e.number) ≡ out_of from older e e.entry (from.records ++ replay from older)
        go true q t =
            let s : e ≡ x = same_entry log rises e x (subst (In e) (sym split) (in_right newer (e ∷ older) e (inl refl))) here (eqb-true e.number x.number q) in
            its_records newer older (split ∙ ap (λ z. newer ++ z ∷ older) s) ∙ ap (λ z. out_of from older z z.entry (from.records ++ replay from older)) (sym s)
        go false q t = holds.kept newer older e split t

    pub one_done : Done from log (also done x.number) (after from.stage cells x) (kept_also made x.number (records from.stage cells x))
    one_done = record { order = order_next; stand = stand_next; kept = kept_next }

  -- a batch of such entries, the oldest first
  pub all_done : (es : List Numbered) (done : ℕ → Bool) (cells : Cells) (made : ℕ → List Rec) → Done from log done cells made
      → ((x : Numbered) → In x es → In x log) → ((x : Numbered) → In x es → done x.number ≡ false) → EachPair (λ x later. x.number < later.number) es
      → ((y x : Numbered) → In y log → In x es → y.number < x.number → done y.number ≡ false → (In y es → ⊥) → Apart from.stage.conf y x)
      → Done from log (also_all done es) (cells_done from.stage cells es) (keeping made es (records_done from.stage cells es))
  all_done [] done cells made holds inside waits rising free = holds
  all_done (x ∷ es) done cells made holds inside waits rising free =
      all_done es (also done x.number) (after from.stage cells x) (kept_also made x.number (records from.stage cells x))
      (one_done done cells made holds x (inside x (inl refl)) (waits x (inl refl)) (λ y i l w. free y x i (inl refl) l w (not_among x es y rising.0 l)))
      (λ z i. inside z (inr i))
      (later_waits done x es rising.0 waits)
      rising.1
      (λ y z i j l w out. free y z i (inr j) l (not_also done x.number y.number w) (still_out done x es y w out))
