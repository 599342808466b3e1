-- What contracts see of a front that takes an event.
use Rattle.std.proofs.Common.{◌≡◌, ℕ, List, [], ◌∷◌, ◌++◌, take, Option, None, ◌∙◌, ap}
use Rattle.std.specs.Prelude.{Result, Ok, Err, IfOk, OnOk, OnErr}
use Rattle.outside.specs.Disk.{DiskTells}
use Rattle.zbx_types.specs.declared.conf.Conf.{Conf}
use Rattle.zbx_types.specs.declared.memory.OutOfMemory.{OutOfMemory}
use Rattle.outside.specs.declared.event.WireEvent.{WireEvent}
use Rattle.entry_step.specs.Start.{Start}
use Rattle.intake_journal.specs.Settled.{Journaled}
use Rattle.intake_front.specs.Intake.{Intake, handled, IsSound}
use Rattle.intake_front.specs.Fronted.{HasRoom, limits_of}
use Rattle.intake_front.specs.Batch.{answered, HasTaken}
use Rattle.intake_front.specs.Waiting.{failing_of, front_of, IsBatch, IsWaiting}
use Rattle.intake_front.specs.declared.answer.Answer.{Answer}
use Rattle.intake_front.specs.declared.answer.Stop.{Stop}
use Rattle.intake_front.specs.declared.batch.Batch.{Batch}
use Rattle.intake_front.specs.declared.batch.First.{First}
use Rattle.intake_front.specs.declared.batch.Mark.{Mark}
use Rattle.intake_front.proofs.Sound.{kept}
use Rattle.intake_front.proofs.Taken.{front_kept, more_taken}
use Rattle.intake_front.proofs.Alone.{taken_waiting}
use Rattle.intake_front.proofs.Received.{Did}

module _ {D : Type 0} (journal : Journaled D) (conf : Conf) (i j : Intake) (b c : Batch) (e : WireEvent) where
  abbrev DidThis : Result (Option Stop) OutOfMemory → Type 0
  DidThis result = Did i j b c (λ n. handled (limits_of journal n) conf i e) result

  pub did_stop : (result : Result (Option Stop) OutOfMemory) → DidThis result → IfOk result (λ s. s ≡ (handled (limits_of journal 0) conf i e).answer.stop)
  did_stop (Ok s) did = did.stops
  did_stop (Err refused) did = tt

  pub did_after : (result : Result (Option Stop) OutOfMemory) → DidThis result → OnOk result (j ≡ (handled (limits_of journal 0) conf i e).intake)
  did_after (Ok s) did = did.after
  did_after (Err refused) did = tt

  pub did_take : (result : Result (Option Stop) OutOfMemory) → IsBatch i b → DidThis result → OnOk result ((begun : Intake) → (events : List WireEvent) → i ≡ (answered (limits_of journal 0) conf begun events).intake
      → (answered (limits_of journal 0) conf begun events).stop ≡ None → HasTaken conf begun events (front_of journal i b) → HasTaken conf begun (events ++ e ∷ []) (front_of journal j c))
  did_take (Ok s) batch did = λ begun events at going has. more_taken journal conf begun events e i j b c s batch did at going has
  did_take (Err refused) batch did = tt

  pub did_keep : (result : Result (Option Stop) OutOfMemory) → DidThis result → OnOk result ((flat : List ℕ → Conf) (ground : Start) → IsSound flat ground conf i → IsSound flat ground conf j)
  did_keep (Ok s) did = λ flat ground sound. kept (limits_of journal 0) flat ground conf i j e did.after sound
  did_keep (Err refused) did = tt

  pub did_front : (result : Result (Option Stop) OutOfMemory) → IsBatch i b → DidThis result → take b.mark.kept j.entries ≡ take b.mark.kept i.entries
  did_front (Ok s) batch did = front_kept (limits_of journal 0) conf i j e b.mark.kept did.after batch.within
  did_front (Err refused) batch did = ap (take b.mark.kept) did.entries

  did_mark : (result : Result (Option Stop) OutOfMemory) → DidThis result → c.mark ≡ b.mark
  did_mark (Ok s) did = did.mark
  did_mark (Err refused) did = did.mark

  did_number : (result : Result (Option Stop) OutOfMemory) → DidThis result → j.before ≡ i.before
  did_number (Ok s) did = did.number
  did_number (Err refused) did = did.number

  did_batch : (result : Result (Option Stop) OutOfMemory) → DidThis result → IsBatch j c
  did_batch (Ok s) did = did.batch
  did_batch (Err refused) did = did.batch

  pub did_kept : (result : Result (Option Stop) OutOfMemory) → IsBatch i b → DidThis result → take c.mark.kept j.entries ≡ take b.mark.kept i.entries
  did_kept result batch did = ap (λ (m : Mark). take m.kept j.entries) (did_mark result did) ∙ did_front result batch did

  failing_same : (answers answers' : List Answer) (first first' : Option First) → answers' ≡ answers → first' ≡ first → failing_of answers' first' ≡ failing_of answers first
  failing_same answers answers' first first' same is = ap (λ (l : List Answer). failing_of l first') same ∙ ap (failing_of answers) is

  pub did_err : (result : Result (Option Stop) OutOfMemory) → DidThis result → OnErr result ((j.entries ≡ i.entries) × (c.block ≡ b.block) × (c.answers.items ≡ b.answers.items) × (failing_of c.answers.items c.first ≡ failing_of b.answers.items b.first))
  did_err (Ok s) did = tt
  did_err (Err refused) did = (did.entries, did.block, did.answers, failing_same b.answers.items c.answers.items b.first c.first did.answers did.first)

  pub did_waiting : (tells : D → DiskTells) (result : Result (Option Stop) OutOfMemory) → IsWaiting tells journal i b → (HasRoom journal b.block → HasRoom journal c.block) → DidThis result
      → IsWaiting tells journal j c
  did_waiting tells result is room did = taken_waiting tells journal i j b c is (did_batch result did) (did_number result did) (room is.room) (did_mark result did) (did_front result is.batch did)
