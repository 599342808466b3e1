-- An event that is taken and committed alone.
use Rattle.std.proofs.Common.{◌≡◌, ◌≢◌, ℕ, ◌+◌, ◌<◌, List, [], ◌∷◌, ◌++◌, length, take, Option, Some, None, refl, sym, ◌∙◌, ap, subst, arith, length-append}
use Rattle.std.specs.Prelude.{Ok, Err}
use Rattle.outside.specs.Disk.{DiskTells, IsLawful}
use Rattle.zbx_types.specs.declared.entries.Entry.{Entry}
use Rattle.zbx_types.specs.declared.entries.Numbered.{Numbered}
use Rattle.zbx_types.specs.declared.memory.OutOfMemory.{OutOfMemory}
use Rattle.outside.specs.Causes.{Rose}
use Rattle.intake_journal.specs.Block.{opened_bytes}
use Rattle.intake_journal.specs.Settled.{Journaled}
use Rattle.intake_journal.specs.declared.state.State.TheVariants.{Ready, Broken}
use Rattle.intake_front.specs.Intake.{Intake, Handled}
use Rattle.intake_front.specs.Fronted.{HasJournaled, HasRoom, IsReady, refused_group}
use Rattle.intake_front.specs.Staging.{IsWritten, IsOffered}
use Rattle.intake_front.specs.Waiting.{failing_of, back_to, HasFirst, IsBatch, IsWaiting, FirstBy, IsTaken, IsLeft}
use Rattle.intake_front.specs.declared.answer.Answer.{Answer}
use Rattle.intake_front.specs.declared.answer.Stop.{Stop}
use Rattle.intake_front.specs.declared.answer.Stop.TheVariants as stop
use Rattle.intake_front.specs.declared.batch.Batch.{Batch}
use Rattle.intake_front.specs.declared.batch.First.{First}
use Rattle.intake_front.specs.declared.batch.Mark.{Mark}
use Rattle.intake_front.proofs.Batches.{same_intake}
use Rattle.intake_front.proofs.Journals.{leaves_same}
use Rattle.intake_front.proofs.Taken.{none_waits}

-- the last one of a list of one
last_of : (rest : List Answer) (a x : Answer) → rest ++ a ∷ [] ≡ x ∷ [] → a ≡ x
last_of [] a x is = cc
last_of (y ∷ rest) a x is = absurd (omega (arith, ap length is, length-append rest (a ∷ [])))

-- only Full and Closed have no number of a group
number_of : (i : Intake) (o : Option Stop) → o ≢ Some stop.DiskFault → refused_group i o ≡ 0
number_of i None plain = refl
number_of i (Some stop.Closed) plain = refl
number_of i (Some stop.DiskFault) plain = absurd (plain refl)
number_of i (Some (stop.Full entries bytes)) plain = refl

module _ {D : Type 0} (tells : D → DiskTells)
    (old new : Journaled D) (i m j : Intake) (b c : Batch) (says : ℕ → Handled) (s : Option Stop) (none : b.block ≡ []) (batch : IsBatch i b) (t : IsTaken i m b c says s)
    (front : take b.mark.kept (says 0).intake.entries ≡ take b.mark.kept i.entries) where
  all_kept : take b.mark.kept i.entries ≡ i.entries
  all_kept = none_waits i.before i.entries (take b.mark.kept i.entries) b.block batch.entries_are none

  before : take c.mark.kept m.entries ≡ i.entries
  before = ap (λ (k : Mark). take k.kept m.entries) t.mark ∙ ap (λ (k : Intake). take b.mark.kept k.entries) t.after ∙ front ∙ all_kept

  written : IsWritten (tells old.disk) (tells new.disk) old.base (take c.mark.kept m.entries) m.entries → IsWritten (tells old.disk) (tells new.disk) old.base i.entries (says 0).intake.entries
  written w =
      subst (λ (es : List Numbered). IsWritten (tells old.disk) (tells new.disk) old.base i.entries es) (ap (λ (k : Intake). k.entries) t.after)
      (subst (λ (es : List Numbered). IsWritten (tells old.disk) (tells new.disk) old.base es m.entries) before w)

  answers_are : b.answers.items ≡ [] → c.answers.items ≡ (says 0).answer ∷ []
  answers_are empty = t.answers ∙ ap (λ (l : List Answer). l ++ (says 0).answer ∷ []) empty

  -- its groups were kept
  pub alone_kept : (rest : List Answer) (a : Answer) → b.answers.items ≡ [] → rest ++ a ∷ [] ≡ c.answers.items → j ≡ m → IsReady old new → new.base ≡ old.base
      → IsWritten (tells old.disk) (tells new.disk) old.base (take c.mark.kept m.entries) m.entries → IsOffered tells old new i j says (Ok a)
  alone_kept rest a empty is same ready same_base w =
      let answered : a ≡ (says 0).answer = last_of rest a (says 0).answer (is ∙ answers_are empty) in
      let plain : a.stop ≢ Some stop.DiskFault = λ stops. t.no_fault (ap (λ (x : Answer). x.stop) (sym answered) ∙ stops) in
      let number : refused_group i a.stop ≡ 0 = number_of i a.stop plain in
      record {
        answer = answered ∙ ap (λ (n : ℕ). (says n).answer) (sym number);
        after = same ∙ t.after ∙ ap (λ (n : ℕ). (says n).intake) (sym number);
        err = tt;
        fault = λ stops. absurd (plain stops);
        ready = λ _. ready;
        base = same_base;
        written = written w;
      }

  first_none : (first : Option First) → HasFirst i b.mark b.block b.answers.items first → (first ≡ None) × (b.mark.tick ≡ i.tick) × (b.mark.groups ≡ i.groups)
  first_none None has = (refl, has.1, has.2)
  first_none (Some f) has = absurd (omega (arith, has.0, ap length none))

  -- the disk refused them
  pub alone_failed : (rest : List Answer) (a : Answer) → b.answers.items ≡ [] → rest ++ a ∷ [] ≡ failing_of c.answers.items c.first → j ≡ back_to m c.mark → 0 < length c.block → Rose (tells old.disk).faults (tells new.disk).faults → new.state ≡ Broken
      → new.base ≡ old.base → IsWritten (tells old.disk) (tells new.disk) old.base (take c.mark.kept m.entries) m.entries → IsOffered tells old new i j says (Ok a)
  alone_failed rest a empty is back some rose broken same_base w =
      let there = first_none b.first batch.first_is in
      by_first c.first refl t.batch.first_is (subst (λ (o : Option First). FirstBy i b.answers.items says o c.first) there.0 t.first) there
    where
      by_first : (first : Option First) → first ≡ c.first → HasFirst m c.mark c.block c.answers.items first → FirstBy i b.answers.items says None first → (b.first ≡ None) × (b.mark.tick ≡ i.tick) × (b.mark.groups ≡ i.groups)
          → IsOffered tells old new i j says (Ok a)
      by_first None at has by there = absurd (omega (arith, some, ap length has.0))
      by_first (Some f) at has by there =
          let place : f.at ≡ 0 = by.0 ∙ ap length empty in
          let held : failing_of c.answers.items c.first ≡ f.answer ∷ [] = ap (failing_of c.answers.items) (sym at) ∙ ap (λ (n : ℕ). take n c.answers.items ++ f.answer ∷ []) place in
          let answered : a ≡ f.answer = last_of rest a f.answer (is ∙ held) in
          let stops : a.stop ≡ Some stop.DiskFault = ap (λ (x : Answer). x.stop) answered ∙ by.2 in
          let number : refused_group i a.stop ≡ i.groups + 1 = ap (refused_group i) stops in
          let size : b.mark.bytes ≡ i.bytes = omega (arith, batch.size_is, ap (λ (bl : List (List Entry)). length (opened_bytes bl)) none) in
          let left : back_to m c.mark ≡ record i { now = (says 0).intake.now; peers = (says 0).intake.peers } =
          same_intake (back_to m c.mark) _ (ap (λ (k : Intake). k.now) t.after) (ap (λ (k : Mark). k.tick) t.mark ∙ there.1) (ap (λ (k : Intake). k.peers) t.after) t.number before (ap (λ (k : Mark). k.bytes) t.mark ∙ size) (ap (λ (k : Mark). k.groups) t.mark ∙ there.2) in
          record {
            answer = answered ∙ ap (λ (h : Handled). h.answer) (sym by.1) ∙ ap (λ (n : ℕ). (says n).answer) (sym number);
            after = back ∙ left ∙ ap (λ (h : Handled). h.intake) (sym by.1) ∙ ap (λ (n : ℕ). (says n).intake) (sym number);
            err = tt;
            fault = λ _. (broken, rose);
            ready = λ plain. absurd (plain stops);
            base = same_base;
            written = written w;
          }

  -- it has an answer
  pub alone_some : (list : List Answer) → b.answers.items ≡ [] → list ≡ c.answers.items → length list ≡ 0 → ⊥
  alone_some list empty is none_there = absurd (omega (arith, ap length (is ∙ answers_are empty), none_there))

  pub failing_some : (first : Option First) (list : List Answer) → b.answers.items ≡ [] → list ≡ failing_of c.answers.items first → length list ≡ 0 → ⊥
  failing_some None list empty is none_there = alone_some list empty is none_there
  failing_some (Some f) list empty is none_there = absurd (omega (arith, ap length is, length-append (take f.at c.answers.items) (f.answer ∷ []), none_there))

module _ {D : Type 0} (tells : D → DiskTells) where
  -- no memory was to be had
  pub alone_left : ((disk : D) → IsLawful (tells disk)) → (old : Journaled D) (i j : Intake) (b c : Batch) (says : ℕ → Handled) (e : OutOfMemory) → old.state ≡ Ready → IsWaiting tells old i b
      → b.block ≡ [] → IsLeft i j b c → IsOffered tells old old i j says (Err e)
  alone_left lawful old i j b c says e ready is none left =
      let all : take b.mark.kept i.entries ≡ i.entries = none_waits i.before i.entries (take b.mark.kept i.entries) b.block is.batch.entries_are none in
      let has = subst (λ (es : List Numbered). HasJournaled tells old es b.mark.bytes) all (is.journaled ready) in
      record {
        answer = tt;
        after = tt;
        err = (left.entries, refl);
        fault = tt;
        ready = tt;
        base = refl;
        written = record { later = omega arith; told = refl; any_moment = leaves_same tells lawful old i.entries (says 0).intake.entries b.mark.bytes has };
      }

-- what waits after an event that was taken, or for which no memory was to be had
pub taken_waiting : {D : Type 0} (tells : D → DiskTells) (journal : Journaled D) (i m : Intake) (b c : Batch) → IsWaiting tells journal i b → IsBatch m c → m.before ≡ i.before → HasRoom journal c.block → c.mark ≡ b.mark
    → take b.mark.kept m.entries ≡ take b.mark.kept i.entries → IsWaiting tells journal m c
taken_waiting tells journal i m b c is batch number room mark front =
    let kept : take c.mark.kept m.entries ≡ take b.mark.kept i.entries = ap (λ (k : Mark). take k.kept m.entries) mark ∙ front in
    record {
      batch = batch;
      number = number ∙ is.number;
      room = room;
      journaled = λ ready. subst (λ (es : List Numbered). HasJournaled tells journal es c.mark.bytes) (sym kept)
          (subst (λ (k : Mark). HasJournaled tells journal (take b.mark.kept i.entries) k.bytes) (sym mark) (is.journaled ready));
    }
