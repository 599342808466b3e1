-- What a queue hands out where no try is open.
use Rattle.std.proofs.Common.{◌≡◌, ◌∙◌, ℕ, ◌≤◌, max, Bool, true, List, [], ◌∷◌, length, Some, None, Option, refl, sym, subst, arith, true≢false}
use Rattle.std.specs.Prelude.{is_ok, Result}
use Rattle.outside.specs.Causes.{Rose, HasCause}
use Rattle.outside.specs.Spawning.{SpawnerTells, AddsRun}
use Rattle.outside.specs.declared.event.Failed.{Failed}
use Rattle.alert_queue.specs.Lanes.{mark_of, IsDue}
use Rattle.alert_queue.specs.Queues.{Queued, lane_at, home, HandsOut, IsLeastMoment, IsOver}
use Rattle.alert_queue.specs.Events.{Take, End, moved, happens, MayHappen}
use Rattle.alert_queue.specs.declared.types.Mark.{Mark}
use Rattle.alert_queue.specs.declared.types.Taken.{Taken}
use Rattle.alert_queue.specs.declared.types.Taken.TheVariants.{Try, Later, Busy, Nothing}
use Rattle.alert_run.specs.declared.types.Note.{Note}
use Rattle.server_jobs.specs.Tries.{run_with}
use Rattle.server_jobs.specs.Turning.{NoneOpen, Begins, Continues, Ends}
use Rattle.server_jobs.proofs.Runs.{rose_of}

begins_try : (queue : Queued) (now n : ℕ) → HandsOut (moved queue now) (Try n) → Begins queue (happens queue (Take now (Try n))) n
begins_try queue now n hands = record {
  first = record { numbered = hands.first.numbered; known = hands.first.known; there = hands.first.there; first = hands.first.first };
  idle = hands.due.idle;
  now = max queue.now now;
  due = hands.due.due;
  queue_is = refl;
}

-- a note that is due is tried
pub begins_now : (queue queue' : Queued) (now n : ℕ) (taken : Taken) → taken ≡ Try n → MayHappen queue (Take now taken) → queue' ≡ happens queue (Take now taken) → Begins queue queue' n
begins_now queue queue' now n taken is may queue_is =
    let try = begins_try queue now n (subst (λ (t : Taken). HandsOut (moved queue now) t) is may) in
    let same : queue' ≡ happens queue (Take now (Try n)) = subst (λ (t : Taken). queue' ≡ happens queue (Take now t)) is queue_is in
    subst (λ (q : Queued). Begins queue q n) (sym same) try

-- where one will be due, one is tried at its moment
later_due : (queue : Queued) (at now : ℕ) (least : IsLeastMoment queue at) → at ≤ now → IsDue (max queue.now now) (lane_at queue least.recipient)
later_due queue at now least late = record { idle = least.idle; due = omega (arith, least.at_is, late) }

pub not_later : (queue : Queued) (at now at' : ℕ) (taken : Taken) → taken ≡ Later at' → IsLeastMoment queue at → at ≤ now → MayHappen queue (Take now taken) → ⊥
not_later queue at now at' taken is least late may =
    let hands : HandsOut (moved queue now) (Later at') = subst (λ (t : Taken). HandsOut (moved queue now) t) is may in
    hands.none_due least.recipient least.there (later_due queue at now least late)

pub not_busy : (queue : Queued) (at now : ℕ) (taken : Taken) → taken ≡ Busy → IsLeastMoment queue at → MayHappen queue (Take now taken) → ⊥
not_busy queue at now taken is least may =
    let hands : HandsOut (moved queue now) Busy = subst (λ (t : Taken). HandsOut (moved queue now) t) is may in
    let tried : (lane_at queue least.recipient).is_open ≡ true = hands.tried least.recipient least.there least.idle.some in
    true≢false (sym tried ∙ least.idle.free)

pub not_nothing : (queue : Queued) (at now : ℕ) (taken : Taken) → taken ≡ Nothing → IsLeastMoment queue at → MayHappen queue (Take now taken) → ⊥
not_nothing queue at now taken is least may =
    let hands : HandsOut (moved queue now) Nothing = subst (λ (t : Taken). HandsOut (moved queue now) t) is may in
    let none : length (lane_at queue least.recipient).left ≡ 0 = hands least.recipient least.there in
    omega (arith, none, least.idle.some)

-- no lane is busy where no try is open
pub never_busy : (queue : Queued) (now : ℕ) (taken : Taken) → taken ≡ Busy → NoneOpen queue → MayHappen queue (Take now taken) → ⊥
never_busy queue now taken is closed may =
    let hands : HandsOut (moved queue now) Busy = subst (λ (t : Taken). HandsOut (moved queue now) t) is may in
    let tried : (lane_at queue hands.recipient).is_open ≡ true = hands.tried hands.recipient hands.there hands.some in
    true≢false (sym tried ∙ closed hands.recipient hands.there)

pub over : (queue : Queued) (now : ℕ) (taken : Taken) → taken ≡ Nothing → MayHappen queue (Take now taken) → IsOver queue
over queue now taken is may = subst (λ (t : Taken). HandsOut (moved queue now) t) is may

-- the first of the moments at which a note will be due
pub least_of : (queue queue' : Queued) (now at : ℕ) (taken : Taken) → taken ≡ Later at → MayHappen queue (Take now taken) → queue' ≡ happens queue (Take now taken) → IsLeastMoment queue' at
least_of queue queue' now at taken is may queue_is =
    let same : queue' ≡ moved queue now = subst (λ (t : Taken). queue' ≡ happens queue (Take now t)) is queue_is in
    subst (λ (q : Queued). IsLeastMoment q at) (sym same) (subst (λ (t : Taken). HandsOut (moved queue now) t) is may)

pub closed_later : (queue queue' : Queued) (now at : ℕ) (taken : Taken) → taken ≡ Later at → queue' ≡ happens queue (Take now taken) → NoneOpen queue → NoneOpen queue'
closed_later queue queue' now at taken is queue_is closed =
    let same : queue' ≡ moved queue now = subst (λ (t : Taken). queue' ≡ happens queue (Take now t)) is queue_is in
    subst NoneOpen (sym same) closed

-- what goes on behind a moment that was waited for goes on behind the queue before it
pub continues_later : (queue queue' queue'' : Queued) (now at : ℕ) (taken : Taken) (o : Option ℕ) → taken ≡ Later at → queue' ≡ happens queue (Take now taken) → Continues queue' queue'' o → Continues queue queue'' o
continues_later queue queue' queue'' now at taken o is queue_is goes =
    let same : queue' ≡ moved queue now = subst (λ (t : Taken). queue' ≡ happens queue (Take now t)) is queue_is in
    back o (subst (λ (q : Queued). Continues q queue'' o) same goes)
  where
    back : (r : Option ℕ) → Continues (moved queue now) queue'' r → Continues queue queue'' r
    back None over = over
    back (Some n) b = record {
      first = record { numbered = b.first.numbered; known = b.first.known; there = b.first.there; first = b.first.first };
      idle = b.idle;
      now = b.now;
      due = b.due;
      queue_is = b.queue_is;
    }

-- a run that ended
pub ends_so : (command : List ℕ) (note : Note) (n : ℕ) (s s' : SpawnerTells) (queue queue' : Queued) (now : ℕ) (args : List (List ℕ)) (ok : Bool) (result : Result (Unit {0}) Failed) (mark : Option Mark)
    → args ≡ note.recipient ∷ note.subject ∷ note.body ∷ [] → ok ≡ is_ok result
    → AddsRun s.runs s'.runs (record { program = command; args = args; ok = is_ok result }) → HasCause s.faults s'.faults result
    → mark ≡ mark_of (lane_at queue (home queue n)) ok → queue' ≡ happens queue (End n ok now) → Ends command note n s s' queue queue' mark
ends_so command note n s s' queue queue' now args ok result mark args_are is run cause mark_is queue_is = record {
  ok = ok;
  now = now;
  run = subst (λ (b : Bool). AddsRun s.runs s'.runs (run_with command note b)) (sym is)
      (subst (λ (l : List (List ℕ)). AddsRun s.runs s'.runs (record { program = command; args = l; ok = is_ok result })) args_are run);
  later = cause.later;
  rose = λ bad. rose_of result (Rose s.faults s'.faults) (sym is ∙ bad) cause.failed;
  queue_is = queue_is;
  mark_is = mark_is;
}
