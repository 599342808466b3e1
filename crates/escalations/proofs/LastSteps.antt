-- The last one of rising steps decides.
use Rattle.std.proofs.Common.{◌≡◌, ℕ, ◌+◌, ◌<◌, Bool, false, List, [], ◌∷◌, map, Option, Some, None, suc, refl, ap, add-one, arith}
use Rattle.std.specs.Prelude.{fold, filter_map, flat_map, option_to_list, nat_le, is_some, not, ◌&&◌, if◌then◌else◌}
use Rattle.std.specs.List.{reduce, last_or, slice_index}
use Rattle.std.specs.List.Sorted.{IsStrictlyIncreasing}
use Rattle.std.proofs.lemmas.Bool.{lt-leb}
use Rattle.zbx_types.specs.Records.{event_of, tags_of}
use Rattle.zbx_types.specs.declared.actions.Action.{Action}
use Rattle.zbx_types.specs.declared.conf.Conf.{Conf}
use Rattle.zbx_types.specs.declared.entries.EventId.{EventId}
use Rattle.zbx_types.specs.declared.entries.Rec.{Rec}
use Rattle.maintenance.specs.Suppression.{is_suppressed}
use Rattle.escalations.specs.Triggers.{trigger_of}
use Rattle.escalations.specs.Conditions.{is_matched}
use Rattle.escalations.specs.Escalations.{records_at, next_step, next_records, recovery_records, due_records_of}
use Rattle.escalations.specs.Laws.{KeepsLast, LastStepsSuffice}
use Rattle.escalations.specs.Messages.{sending_records}
use Rattle.escalations.specs.Steps.{ran_of, later, last_step, step_due}
use Rattle.escalations.specs.declared.steps.Ran.{Ran}

abbrev numbers : List Ran → List ℕ
numbers runs = map (λ ran. ran.step) runs

rest_rises : (n : ℕ) (ns : List ℕ) → IsStrictlyIncreasing (n ∷ ns) → IsStrictlyIncreasing ns
rest_rises n ns h = λ k below.
    let next : slice_index (n ∷ ns) (suc k) < slice_index (n ∷ ns) (suc k + 1) = h (suc k) (omega arith) in
    let here : slice_index ns k < slice_index (n ∷ ns) (suc (suc k)) = rw add-one at next in
    rw add-one here

the_later : (a b : Ran) → a.step < b.step → later a b ≡ b
the_later a b h = let no : nat_le b.step a.step ≡ false = lt-leb b.step a.step h in rw no refl

last_of_rising : (x : Ran) (xs : List Ran) → IsStrictlyIncreasing (numbers (x ∷ xs)) → Some (fold later x xs) ≡ last_or (Some x) xs
last_of_rising x [] h = refl
last_of_rising x (y ∷ ys) h =
    let newer : later x y ≡ y = the_later x y (h 0 (omega arith)) in
    rw newer (last_of_rising y ys (rest_rises x.step (numbers (y ∷ ys)) h))

greatest_is_last : (xs : List Ran) → IsStrictlyIncreasing (numbers xs) → reduce later xs ≡ last_or None xs
greatest_is_last [] h = refl
greatest_is_last (x ∷ xs) h = last_of_rising x xs h

greatest_of_one : (o : Option Ran) → reduce later (option_to_list o) ≡ o
greatest_of_one None = refl
greatest_of_one (Some ran) = refl

last_kept : (event : EventId) (steps kept : List Rec) (action : List ℕ) → KeepsLast event steps kept action → last_step kept event action ≡ last_step steps event action
last_kept event steps kept action h =
    let one = greatest_of_one (last_or None (filter_map (ran_of event action) steps)) in
    let last = greatest_is_last (filter_map (ran_of event action) steps) h.0 in
    rw (h.1, one, last) refl

same_flat_map : {X A : Type 0} (f g : X → List A) (xs : List X) → ((x : X) → f x ≡ g x) → flat_map f xs ≡ flat_map g xs
same_flat_map f g [] h = refl
same_flat_map f g (x ∷ xs) h = rw (h x, same_flat_map f g xs h) refl

same_due : (conf : Conf) (quiet : Bool) (problem : Rec) (steps kept : List Rec) (now : ℕ) → ((action : List ℕ) → KeepsLast (event_of problem) steps kept action) → (action : Action) → next_records conf quiet problem kept now action ≡ next_records conf quiet problem steps now action
unfolding next_records next_step
same_due conf quiet problem steps kept now h action =
    ap (λ last. records_at conf problem now action (if is_matched conf action problem && not (action.pause_suppressed && quiet) then step_due action now last else None))
    (last_kept (event_of problem) steps kept action.name (h action.name))

same_recovery : (conf : Conf) (problem : Rec) (steps kept : List Rec) (now : ℕ) → ((action : List ℕ) → KeepsLast (event_of problem) steps kept action) → (action : Action) → recovery_records conf problem kept now action ≡ recovery_records conf problem steps now action
same_recovery conf problem steps kept now h action =
    ap (λ last. if is_some last then flat_map (sending_records conf problem now action.name) action.recovery else [])
    (last_kept (event_of problem) steps kept action.name (h action.name))

same_steps : (conf : Conf) (problem : Rec) (steps kept : List Rec) (now : ℕ) → ((action : List ℕ) → KeepsLast (event_of problem) steps kept action) → (trigger : ℕ) → due_records_of conf trigger problem kept now ≡ due_records_of conf trigger problem steps now
unfolding due_records_of
same_steps conf problem steps kept now h trigger =
    same_flat_map _ _ conf.actions (same_due conf (is_suppressed conf trigger (tags_of problem) now) problem steps kept now h)

pub last_steps_suffice : LastStepsSuffice
last_steps_suffice conf problem steps kept now h = (
  same_steps conf problem steps kept now h,
  same_steps conf problem steps kept now h (trigger_of conf problem),
  same_flat_map _ _ conf.actions (same_recovery conf problem steps kept now h),
)
