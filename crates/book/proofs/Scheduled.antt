-- Each step keeps the facts.
use Rattle.std.proofs.Common.{◌≡◌, ◌<◌, ℕ, ◌==◌, Bool, true, false, cond, not, List, [], ◌∷◌, ◌++◌, reverse, filter, flat_map, refl, sym, ◌∙◌, ap, ap₂, subst, eqb-true, append-nil, append_assoc, arith}
use mathlib.Core.Path.{fun_ext}
use mathlib.Core.List.{reverse-cons}
use Rattle.std.proofs.lemmas.List.Concat.{flat_map-append}
use Rattle.zbx_types.specs.Masters.{has_id}
use Rattle.zbx_types.specs.declared.entries.Numbered.{Numbered}
use Rattle.zbx_types.specs.declared.entries.Rec.{Rec}
use Rattle.footprint.specs.Feet.{feet_of}
use Rattle.entry_step.specs.Each.{Each, In, EachPair}
use Rattle.entry_step.specs.Log.{Suits}
use Rattle.entry_step.specs.Parts.{AllCome}
use Rattle.entry_step.specs.Records.{out_of, replay}
use Rattle.entry_step.specs.Cells.{Cells, look, AreCellsOf}
use Rattle.entry_step.specs.Laws.{IsGood, AreBehind, Apart}
use Rattle.entry_step.proofs.Members.{each_from}
use Rattle.entry_laws.proofs.Meeting.{conflict_is_meeting}
use Rattle.syncer_gate.specs.declared.marks.Mark.{Mark}
use Rattle.syncer_gate.specs.declared.marks.Mark.TheVariants.{Pending, Applied, Taken}
use Rattle.syncer_gate.specs.Marks.{is_pending, is_taken, ended}
use Rattle.syncer_gate.specs.Core.{Core, Step, Offer, Claim, Apply, GiveBack, happens, IsAllowed, AreAllowed, start, passes, Holds}
use Rattle.syncer_gate.proofs.Order.{each_step}
use Rattle.book.specs.Schedule.{is_applied, Worked, batch_in, worked, begin_worked, worked_all, has_applied, Facts, OffersBehind, EveryScheduleFacts, records_kept, AtFrontier}
use Rattle.book.proofs.Places.{Rises, is_in, in_of, in_reverse, of_reverse, in_filter, of_filter, pairs_filter, pairs_reverse}
use Rattle.book.proofs.Working.{Done, also_all, all_in, all_out, all_done}
use Rattle.book.proofs.Coming.{all_come}
use Rattle.entry_step.specs.Start.{Start}

-- the numbers of the entries that are applied
abbrev pub applied_by : (ℕ → Mark) → ℕ → Bool
applied_by status n = is_applied (status n)

-- what holds behind each step
pub record IsConsistent (from : Start) (w : Worked) : Type 0 where
  pub holds : Holds (feet_of from.stage.conf) w.core
  pub rises : Rises w.core.log
  pub behind : AreBehind from w.core.log
  pub done : Done from w.core.log (applied_by w.core.status) w.cells w.made

-- marks
applied_passes : (late early : Mark) → is_applied late ≡ true → is_applied early ≡ false → passes late early ≡ true
applied_passes Pending early d w = cc
applied_passes (Taken id) early d w = cc
applied_passes Applied Pending d w = refl
applied_passes Applied (Taken id) d w = refl
applied_passes Applied Applied d w = cc

taken_waits : (id : ℕ) (mark : Mark) → is_taken id mark ≡ true → is_applied mark ≡ false
taken_waits id Pending e = refl
taken_waits id Applied e = cc
taken_waits id (Taken batch) e = refl

taken_passes : (id : ℕ) (late early : Mark) → is_taken id late ≡ true → is_applied early ≡ false → is_taken id early ≡ false → passes late early ≡ true
taken_passes id Pending early t w o = cc
taken_passes id Applied early t w o = cc
taken_passes id (Taken batch) Pending t w o = refl
taken_passes id (Taken batch) Applied t w o = cc
taken_passes id (Taken batch) (Taken other) t w o = let q = eqb-true batch id t in ap not (ap (λ b. other == b) q ∙ o)

pending_waits : (mark : Mark) → is_pending mark ≡ true → is_applied mark ≡ false
pending_waits Pending e = refl
pending_waits Applied e = cc
pending_waits (Taken id) e = refl

taken_known : (id : ℕ) (mark : Mark) → is_taken id mark ≡ true → is_pending mark ≡ false
taken_known id Pending e = cc
taken_known id Applied e = refl
taken_known id (Taken batch) e = refl

given_applied : (id : ℕ) (mark : Mark) → is_applied (ended id Pending mark) ≡ is_applied mark
given_applied id mark = go (is_taken id mark) refl
  where
    go : (b : Bool) → is_taken id mark ≡ b → is_applied (cond b Pending mark) ≡ is_applied mark
    go true e = sym (taken_waits id mark e)
    go false e = refl

-- no entry that is applied conflicts with an older one that isn't
pub order_of : (from : Start) (s : Core) → Holds (feet_of from.stage.conf) s → (y e : Numbered) → In y s.log → In e s.log → y.number < e.number
    → applied_by s.status e.number ≡ true → applied_by s.status y.number ≡ false → Apart from.stage.conf y e
order_of from s holds y e i j l d w = (conflict_is_meeting from.stage.conf y e).0 (holds.order y e (is_in s.log y i) (is_in s.log e j) l (applied_passes (s.status e.number) (s.status y.number) d w))

-- where no entry becomes applied, and none is added, cells and records stay as they are
pub same_done : (from : Start) (log : List Numbered) (status other : ℕ → Mark) (cells : Cells) (made : ℕ → List Rec) → ((n : ℕ) → is_applied (other n) ≡ is_applied (status n))
    → Done from log (applied_by status) cells made → Done from log (applied_by other) cells made
same_done from log status other cells made same holds = subst (λ done. Done from log done cells made) (sym (fun_ext same)) holds

claimed_applied : (s : Core) (id : ℕ) (numbers : List ℕ) → ((n : ℕ) → has_id numbers n ≡ true → s.status n ≡ Pending) → (n : ℕ)
    → is_applied (cond (has_id numbers n) (Taken id) (s.status n)) ≡ is_applied (s.status n)
claimed_applied s id numbers pending n = go (has_id numbers n) refl
  where
    go : (b : Bool) → has_id numbers n ≡ b → is_applied (cond b (Taken id) (s.status n)) ≡ is_applied (s.status n)
    go true e = sym (ap is_applied (pending n e))
    go false e = refl

module _ (from : Start) (good : IsGood from) (w : Worked) (stands : IsConsistent from w) where
  -- a new entry isn't applied
  new_waits : (e : Numbered) → IsAllowed (feet_of from.stage.conf) w.core (Offer e) → is_applied (w.core.status e.number) ≡ false
  new_waits e above = pending_waits (w.core.status e.number) (go (is_pending (w.core.status e.number)) refl)
    where
      go : (b : Bool) → is_pending (w.core.status e.number) ≡ b → b ≡ true
      go true q = refl
      go false q = let k = stands.holds.known e.number q in let l = above k.0 k.1 in let z = k.2 in absurd (omega arith)

  offered : (e : Numbered) → IsAllowed (feet_of from.stage.conf) w.core (Offer e) → from.number < e.number → IsConsistent from (worked from.stage w (Offer e))
  offered e above later = record {
    holds = next;
    rises = (each_from (λ y. y.number < e.number) w.core.log (λ y i. above y (is_in w.core.log y i)), stands.rises);
    behind = (later, stands.behind);
    done = record {
      order = order_of from (happens w.core (Offer e)) next;
      stand = subst (AreCellsOf from w.cells) (ap (λ b. cond b (e ∷ part) part) (sym (new_waits e above))) stands.done.stand;
      kept = kept;
    };
  }
    where
      part : List Numbered
      part = filter (λ x. applied_by w.core.status x.number) w.core.log

      next : Holds (feet_of from.stage.conf) (happens w.core (Offer e))
      next = each_step (feet_of from.stage.conf) w.core (Offer e) stands.holds above

      kept : (newer older : List Numbered) (x : Numbered) → e ∷ w.core.log ≡ newer ++ x ∷ older → applied_by w.core.status x.number ≡ true → w.made x.number ≡ out_of from older x x.entry (from.records ++ replay from older)
      kept [] older x split d = let q : e ≡ x = cc in let f = new_waits e above in let g : is_applied (w.core.status e.number) ≡ true = ap (λ z. applied_by w.core.status z.number) q ∙ d in absurd (cc)
      kept (z ∷ newer) older x split d = let q : w.core.log ≡ newer ++ x ∷ older = cc in stands.done.kept newer older x q d

  -- a batch's entries are in the log, and each of the log with its id is in the batch
  of_batch : (id : ℕ) (x : Numbered) → In x (batch_in w.core id) → In x w.core.log × (is_taken id (w.core.status x.number) ≡ true)
  of_batch id x i = let r = of_filter (λ e. is_taken id (w.core.status e.number)) (reverse w.core.log) x i in (of_reverse w.core.log x r.0, r.1)

  in_batch : (id : ℕ) (x : Numbered) → In x w.core.log → is_taken id (w.core.status x.number) ≡ true → In x (batch_in w.core id)
  in_batch id x i t = in_filter (λ e. is_taken id (w.core.status e.number)) (reverse w.core.log) x (in_reverse w.core.log x i) t

  -- the entries that are applied behind its end are those before, and its own
  applied_all : (id n : ℕ) → also_all (applied_by w.core.status) (batch_in w.core id) n ≡ is_applied (ended id Applied (w.core.status n))
  applied_all id n = go (is_taken id (w.core.status n)) refl
    where
      go : (b : Bool) → is_taken id (w.core.status n) ≡ b → also_all (applied_by w.core.status) (batch_in w.core id) n ≡ is_applied (cond b Applied (w.core.status n))
      go true t =
          let k = stands.holds.known n (taken_known id (w.core.status n) t) in
          ap (also_all (applied_by w.core.status) (batch_in w.core id)) (sym k.2)
          ∙ all_in (applied_by w.core.status) (batch_in w.core id) k.0 (in_batch id k.0 (in_of w.core.log k.0 k.1) (ap (λ m. is_taken id (w.core.status m)) k.2 ∙ t))
      go false t =
          all_out (applied_by w.core.status) (batch_in w.core id) n
          (λ x i q. let r : is_taken id (w.core.status n) ≡ true = ap (λ m. is_taken id (w.core.status m)) (sym q) ∙ (of_batch id x i).1 in cc)

  -- what isn't applied and isn't in a batch conflicts with no later entry of it
  batch_free : (id : ℕ) (y x : Numbered) → In y w.core.log → In x (batch_in w.core id) → y.number < x.number → applied_by w.core.status y.number ≡ false → (In y (batch_in w.core id) → ⊥) → Apart from.stage.conf y x
  batch_free id y x i j l waits out =
      let r = of_batch id x j in
      (conflict_is_meeting from.stage.conf y x).0
      (stands.holds.order y x (is_in w.core.log y i) (is_in w.core.log x r.0) l (taken_passes id (w.core.status x.number) (w.core.status y.number) r.1 waits (go (is_taken id (w.core.status y.number)) refl)))
    where
      go : (b : Bool) → is_taken id (w.core.status y.number) ≡ b → b ≡ false
      go true q = absurd (out (in_batch id y i q))
      go false q = refl

  -- its numbers rise, and none is applied
  batch_rises : (id : ℕ) → EachPair (λ x later. x.number < later.number) (batch_in w.core id)
  batch_rises id = pairs_filter (λ x later. x.number < later.number) (λ e. is_taken id (w.core.status e.number)) (reverse w.core.log) (pairs_reverse (λ x later. x.number < later.number) w.core.log stands.rises)

  batch_waits : (id : ℕ) (x : Numbered) → In x (batch_in w.core id) → applied_by w.core.status x.number ≡ false
  batch_waits id x i = taken_waits id (w.core.status x.number) (of_batch id x i).1

  applied : (id : ℕ) → IsConsistent from (worked from.stage w (Apply id))
  applied id = record {
    holds = each_step (feet_of from.stage.conf) w.core (Apply id) stands.holds tt;
    rises = stands.rises;
    behind = stands.behind;
    done = subst (λ done. Done from w.core.log done (worked from.stage w (Apply id)).cells (worked from.stage w (Apply id)).made) (fun_ext (applied_all id)) (
        all_done from good w.core.log stands.rises stands.behind (batch_in w.core id) (applied_by w.core.status) w.cells w.made stands.done
        (λ x i. (of_batch id x i).0)
        (batch_waits id)
        (batch_rises id)
        (batch_free id));
  }

  -- each of a batch's entries, as those before it are worked out, comes after what the cells have seen
  pub batch_comes : Suits from w.core.log → (id : ℕ) → AllCome from.stage w.cells (batch_in w.core id)
  batch_comes suits id =
      all_come from good w.core.log stands.rises stands.behind suits (batch_in w.core id) (applied_by w.core.status) w.cells w.made stands.done
      (λ x i. (of_batch id x i).0)
      (batch_waits id)
      (batch_rises id)
      (batch_free id)

  pub stepped : (step : Step) → IsAllowed (feet_of from.stage.conf) w.core step → OffersBehind from step → IsConsistent from (worked from.stage w step)
  stepped (Offer e) allowed later = offered e allowed later
  stepped (Claim id numbers) allowed later = record {
    holds = each_step (feet_of from.stage.conf) w.core (Claim id numbers) stands.holds allowed;
    rises = stands.rises;
    behind = stands.behind;
    done = same_done from w.core.log w.core.status (λ n. cond (has_id numbers n) (Taken id) (w.core.status n)) w.cells w.made (claimed_applied w.core id numbers allowed.pending) stands.done;
  }
  stepped (Apply id) allowed later = applied id
  stepped (GiveBack id) allowed later = record {
    holds = each_step (feet_of from.stage.conf) w.core (GiveBack id) stands.holds allowed;
    rises = stands.rises;
    behind = stands.behind;
    done = same_done from w.core.log w.core.status (λ n. ended id Pending (w.core.status n)) w.cells w.made (λ n. given_applied id (w.core.status n)) stands.done;
  }

all_stepped : (from : Start) → IsGood from → (steps : List Step) (w : Worked) → AreAllowed (feet_of from.stage.conf) w.core steps → Each (OffersBehind from) steps → IsConsistent from w → IsConsistent from (worked_all from.stage w steps)
all_stepped from good [] w allowed later stands = stands
all_stepped from good (step ∷ steps) w allowed later stands = all_stepped from good steps (worked from.stage w step) (still step allowed.1) later.1 (stepped from good w stands step allowed.0 later.0)
  where
    still : (step : Step) → AreAllowed (feet_of from.stage.conf) (happens w.core step) steps → AreAllowed (feet_of from.stage.conf) (worked from.stage w step).core steps
    still (Offer e) a = a
    still (Claim id numbers) a = a
    still (Apply id) a = a
    still (GiveBack id) a = a

pub begins : (from : Start) → IsConsistent from (begin_worked from)
unfolding AreCellsOf
begins from = record {
  holds = record { order = λ y e i. absurd i; known = λ n q. absurd (cc) };
  rises = tt;
  behind = tt;
  done = record { order = λ y e i. absurd i; stand = ap (look from []) (sym (append-nil from.records)); kept = λ newer older e split d. absurd (cc) };
}

pub stands_all : (from : Start) (steps : List Step) → IsGood from → Each (OffersBehind from) steps → AreAllowed (feet_of from.stage.conf) start steps → IsConsistent from (worked_all from.stage (begin_worked from) steps)
stands_all from steps good later allowed = all_stepped from good steps (begin_worked from) allowed later (begins from)

pub every_schedule_holds : EveryScheduleFacts
every_schedule_holds from steps good later allowed = let s = stands_all from steps good later allowed in record { order = s.holds.order; stand = s.done.stand; kept = s.done.kept }

-- the records kept of entries that are all done
collected : (from : Start) (w : Worked) → Facts from w → (newer older : List Numbered) → w.core.log ≡ newer ++ older → Each (λ e. has_applied w e ≡ true) older → records_kept w older ≡ replay from older
collected from w facts newer [] split done = refl
collected from w facts newer (e ∷ older) split done =
    ap (flat_map (λ x. w.made x.number)) (reverse-cons e older)
    ∙ flat_map-append (λ x. w.made x.number) (reverse older) (e ∷ [])
    ∙ ap₂ (λ xs ys. xs ++ ys) (collected from w facts (newer ++ e ∷ []) older (split ∙ sym (append_assoc newer (e ∷ []) older)) done.1) (append-nil (w.made e.number) ∙ facts.kept newer older e split done.0)

pub at_frontier : AtFrontier
at_frontier from steps good later allowed newer older split done = collected from (worked_all from.stage (begin_worked from) steps) (every_schedule_holds from steps good later allowed) newer older split done
