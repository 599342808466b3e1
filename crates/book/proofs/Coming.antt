-- Entries that are worked out late come after what the cells have seen all the same.
use Rattle.std.proofs.Common.{◌≡◌, ◌<◌, ◌≤◌, ℕ, Bool, true, false, cond, inl, inr, List, [], ◌∷◌, filter, refl, sym, ap, subst, arith}
use Rattle.std.proofs.lemmas.Bool.{cases_lt}
use Rattle.zbx_types.specs.declared.entries.Numbered.{Numbered}
use Rattle.zbx_types.specs.declared.entries.Rec.{Rec}
use Rattle.entry_step.specs.Each.{In, EachPair}
use Rattle.zbx_types.specs.Entries.{moment_of}
use Rattle.entry_step.specs.Log.{last_moment, IsFitting, Suits}
use Rattle.entry_step.specs.Cells.{Cells, ItemKey, touches, records, after, seen_of, look, AreCellsOf}
use Rattle.entry_step.specs.Laws.{IsGood, AreBehind, Apart}
use Rattle.entry_step.specs.Represents.{ComesAfter}
use Rattle.entry_step.specs.Parts.{AllCome}
use Rattle.entry_step.proofs.Members.{each_at}
use Rattle.entry_step.proofs.Owning.{entries_own}
use Rattle.book.proofs.Places.{Rises}
use Rattle.book.proofs.Working.{Done, also, kept_also, one_done, not_also, not_among, still_out, later_waits}
use Rattle.entry_step.specs.Start.{Start}

-- no moment of a log falls, and none is before that of the start
first_earliest : (from : Start) (log : List Numbered) → Suits from log → from.moment ≤ last_moment from log
first_earliest from [] suits = omega arith
first_earliest from (e ∷ log) suits = let r = first_earliest from log suits.0 in let m = suits.1 in omega arith

behind_start : (from : Start) (log : List Numbered) (x : Numbered) → Suits from log → In x log → from.moment ≤ moment_of x.entry
behind_start from [] x suits i = absurd i
behind_start from (e ∷ log) x suits (inl q) = let r = first_earliest from log suits.0 in let m = suits.1 in let z = ap (λ w. moment_of w.entry) q in omega arith
behind_start from (e ∷ log) x suits (inr i) = behind_start from log x suits.0 i

last_latest : (from : Start) (log : List Numbered) (a : Numbered) → Suits from log → In a log → moment_of a.entry ≤ last_moment from log
last_latest from [] a suits i = absurd i
last_latest from (e ∷ log) a suits (inl q) = let z = ap (λ w. moment_of w.entry) q in omega arith
last_latest from (e ∷ log) a suits (inr i) = let r = last_latest from log a suits.0 i in let m = suits.1 in omega arith

not_later : (from : Start) (log : List Numbered) (a x : Numbered) → Suits from log → Rises log → In a log → In x log → a.number ≤ x.number → moment_of a.entry ≤ moment_of x.entry
not_later from [] a x suits rises i j l = absurd i
not_later from (e ∷ log) a x suits rises (inl p) (inl q) l = let y = ap (λ w. moment_of w.entry) p in let z = ap (λ w. moment_of w.entry) q in omega arith
not_later from (e ∷ log) a x suits rises (inl p) (inr j) l = let y = ap (λ w. w.number) p in let z = each_at (λ w. w.number < e.number) log rises.0 x j in absurd (omega arith)
not_later from (e ∷ log) a x suits rises (inr i) (inl q) l = let r = last_latest from log a suits.0 i in let m = suits.1 in let z = ap (λ w. moment_of w.entry) q in omega arith
not_later from (e ∷ log) a x suits rises (inr i) (inr j) l = not_later from log a x suits.0 rises.1 i j l

fits_at : (from : Start) (log : List Numbered) (x : Numbered) → Suits from log → In x log → IsFitting from.stage.conf x.entry
fits_at from [] x suits i = absurd i
fits_at from (e ∷ log) x suits (inl q) = subst (λ w. IsFitting from.stage.conf w.entry) (sym q) suits.2
fits_at from (e ∷ log) x suits (inr i) = fits_at from log x suits.0 i

-- what an item's cell has seen, where no entry of its foot that is done is later
seen_before : (from : Start) (done : Numbered → Bool) (log : List Numbered) (i now : ℕ) → from.moment ≤ now → ((a : Numbered) → In a log → done a ≡ true → touches from.stage.conf a.entry (ItemKey i) ≡ true → moment_of a.entry ≤ now) → seen_of from (filter done log) i ≤ now
seen_before from done [] i now first early = omega arith
seen_before from done (e ∷ log) i now first early = go (done e) refl (seen_before from done log i now first (λ a j. early a (inr j)))
  where
    here : (b : Bool) → touches from.stage.conf e.entry (ItemKey i) ≡ b → done e ≡ true → seen_of from (filter done log) i ≤ now → cond b (moment_of e.entry) (seen_of from (filter done log) i) ≤ now
    here true t d ih = early e (inl refl) d t
    here false t d ih = ih

    go : (b : Bool) → done e ≡ b → seen_of from (filter done log) i ≤ now → seen_of from (cond b (e ∷ filter done log) (filter done log)) i ≤ now
    go true d ih = here (touches from.stage.conf e.entry (ItemKey i)) refl d ih
    go false d ih = ih

seen_is : (from : Start) (cells : Cells) (log : List Numbered) (i : ℕ) → AreCellsOf from cells log → (cells (ItemKey i)).seen ≡ seen_of from log i
unfolding AreCellsOf look
seen_is from cells log i stand = ap (λ x. (x (ItemKey i)).seen) stand

module _ (from : Start) (good : IsGood from) (log : List Numbered) (rises : Rises log) (behind : AreBehind from log) (suits : Suits from log) where
  -- an entry that isn't done
  pub one_comes : (done : ℕ → Bool) (cells : Cells) (made : ℕ → List Rec) → Done from log done cells made → (x : Numbered) → In x log → done x.number ≡ false → ComesAfter from.stage.conf cells x × IsFitting from.stage.conf x.entry
  one_comes done cells made holds x here waits = (comes, fits_at from log x suits here)
    where
      comes : ComesAfter from.stage.conf cells x
      comes id t =
          let s = seen_is from cells (filter (λ e. done e.number) log) id holds.stand in
          let b = seen_before from (λ e. done e.number) log id (moment_of x.entry) (behind_start from log x suits here) early in
          omega arith
        where
          early : (a : Numbered) → In a log → done a.number ≡ true → touches from.stage.conf a.entry (ItemKey id) ≡ true → moment_of a.entry ≤ moment_of x.entry
          early a i d u = elim (cases_lt x.number a.number) [
            | inl l ↦ absurd (holds.order x a here i l d waits (ItemKey id) t u)
            | inr g ↦ not_later from log a x suits rises i here g
          ]

  -- a batch of such entries, the oldest first, none of which conflicts with an older one that is neither done nor in the batch
  pub all_come : (es : List Numbered) (done : ℕ → Bool) (cells : Cells) (made : ℕ → List Rec) → Done from log done cells made
      → ((x : Numbered) → In x es → In x log) → ((x : Numbered) → In x es → done x.number ≡ false) → EachPair (λ x later. x.number < later.number) es
      → ((y x : Numbered) → In y log → In x es → y.number < x.number → done y.number ≡ false → (In y es → ⊥) → Apart from.stage.conf y x)
      → AllCome from.stage cells es
  all_come [] done cells made holds inside waits rising free = tt
  all_come (x ∷ es) done cells made holds inside waits rising free =
      let now = one_comes done cells made holds x (inside x (inl refl)) (waits x (inl refl)) in (
        entries_own from x good (each_at (λ y. from.number < y.number) log behind x (inside x (inl refl))),
        now.0,
        now.1,
        all_come es (also done x.number) (after from.stage cells x) (kept_also made x.number (records from.stage cells x))
            (one_done from good log rises behind done cells made holds x (inside x (inl refl)) (waits x (inl refl)) (λ y i l w. free y x i (inl refl) l w (not_among x es y rising.0 l)))
            (λ z i. inside z (inr i))
            (later_waits done x es rising.0 waits)
            rising.1
            (λ y z i j l w out. free y z i (inr j) l (not_also done x.number y.number w) (still_out done x es y w out)),
      )
