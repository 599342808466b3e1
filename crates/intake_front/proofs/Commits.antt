-- What a commit leaves of an intake and of what waited.
use Rattle.std.proofs.Common.{◌≡◌, ℕ, ◌+◌, ◌≤◌, false, List, [], length, take, None, IfSome, sym, ◌∙◌, ap, subst, arith, append-nil, length-append}
use Rattle.std.specs.Prelude.{is_some}
use Rattle.std.proofs.lemmas.List.{take_all, length-take-le}
use Rattle.zbx_types.specs.declared.base.Base.{Base}
use Rattle.zbx_types.specs.declared.entries.Entry.{Entry}
use Rattle.zbx_types.specs.declared.entries.Numbered.{Numbered}
use Rattle.outside.specs.Disk.{DiskTells, LeavesOnly}
use Rattle.intake_journal.specs.Based.{most_counted}
use Rattle.intake_journal.specs.Block.{opened_bytes}
use Rattle.intake_journal.specs.Settled.{Journaled}
use Rattle.intake_journal.specs.declared.state.State.TheVariants.{Ready, Broken}
use Rattle.intake_front.specs.Intake.{Intake, numbered_behind, with_group}
use Rattle.intake_front.specs.Fronted.{HasJournaled, HasRoom, KeepsEither, all_of}
use Rattle.intake_front.specs.Staging.{FollowsBlock, IsWritten}
use Rattle.intake_front.specs.Waiting.{mark_of, back_to, has_tick, HasFirst, IsBatch, IsWaiting}
use Rattle.intake_front.specs.declared.batch.Batch.{Batch}
use Rattle.intake_front.specs.declared.batch.Mark.{Mark}
use Rattle.intake_front.proofs.Journals.{count_of}
use Rattle.intake_front.proofs.Numbers.{length_numbered}

-- what an intake and what waits behind its mark has, numbered behind a base
entries_on : (number : ℕ) (i : Intake) (b : Batch) → i.before ≡ number → IsBatch i b → i.entries ≡ with_group number (take b.mark.kept i.entries) (all_of b.block)
entries_on number i b before is = is.entries_are ∙ ap (λ (n : ℕ). with_group n (take b.mark.kept i.entries) (all_of b.block)) before

-- nothing waits behind an intake's own mark
pub idle_batch : (i : Intake) (b : Batch) → i.before ≤ most_counted → b.block ≡ [] → b.first ≡ None → b.is_ticked ≡ false → b.mark ≡ mark_of i → i.groups ≤ length i.entries → IsBatch i b
idle_batch i b counted block first ticked mark few =
    let kept : b.mark.kept ≡ length i.entries = ap (λ (m : Mark). m.kept) mark in
    let bytes : b.mark.bytes ≡ i.bytes = ap (λ (m : Mark). m.bytes) mark in
    let groups : b.mark.groups ≡ i.groups = ap (λ (m : Mark). m.groups) mark in
    let all : take b.mark.kept i.entries ≡ i.entries = take_all b.mark.kept i.entries (omega (arith, kept)) in
    record {
      counted = counted;
      entries_are = sym (ap (λ (bl : List (List Entry)). with_group i.before (take b.mark.kept i.entries) (all_of bl)) block ∙ append-nil (take b.mark.kept i.entries) ∙ all);
      size_is = omega (arith, bytes, ap (λ (bl : List (List Entry)). length (opened_bytes bl)) block);
      few = omega (arith, kept, groups, few);
      within = omega (arith, kept);
      first_is = subst (HasFirst i b.mark b.block b.answers.items) (sym first) (block, ap (λ (m : Mark). m.tick) mark, groups);
      ticked = ticked ∙ ap (λ (bl : List (List Entry)). has_tick (all_of bl)) (sym block);
    }

none_room : {D : Type 0} (journal : Journaled D) (block : List (List Entry)) → block ≡ [] → HasRoom journal block
none_room journal block none some = absurd (omega (arith, ap length none))

module _ {D : Type 0} (tells : D → DiskTells) where
  -- a journal with all of an intake's entries, behind which nothing waits
  pub idle_waiting : (journal : Journaled D) (i : Intake) (b : Batch) → IsBatch i b → i.before ≡ journal.base.number → b.block ≡ [] → b.mark ≡ mark_of i → (journal.state ≡ Ready → HasJournaled tells journal i.entries i.bytes) → IsWaiting tells journal i b
  idle_waiting journal i b batch number block mark has =
      let kept : b.mark.kept ≡ length i.entries = ap (λ (m : Mark). m.kept) mark in
      let all : take b.mark.kept i.entries ≡ i.entries = take_all b.mark.kept i.entries (omega (arith, kept)) in
      let size : b.mark.bytes ≡ i.bytes = ap (λ (m : Mark). m.bytes) mark in
      record {
        batch = batch;
        number = number;
        room = none_room journal b.block block;
        journaled = λ ready. subst (λ (es : List Numbered). HasJournaled tells journal es b.mark.bytes) (sym all) (subst (λ (n : ℕ). HasJournaled tells journal i.entries n) (sym size) (has ready));
      }

  -- an intake stands behind the journal and what waits
  pub stands_of : (journal : Journaled D) (i : Intake) (b : Batch) → IsWaiting tells journal i b → journal.state ≡ Ready → FollowsBlock journal b.block i
  stands_of journal i b is ready =
      let has = is.journaled ready in
      let kept = take b.mark.kept i.entries in
      record {
        count = omega (arith, has.count, count_of b.block, ap length is.batch.entries_are, length-append kept (numbered_behind i.before kept (all_of b.block)), length_numbered (i.before + length kept + 1) (all_of b.block));
        size_is = omega (arith, has.size_is, is.batch.size_is);
      }

  -- once all that waited was appended
  pub kept_waiting : (journal : Journaled D) (i : Intake) (b c : Batch) → IsBatch i b → i.before ≡ journal.base.number
      → HasJournaled tells journal (with_group journal.base.number (take b.mark.kept i.entries) (all_of b.block)) (b.mark.bytes + length (opened_bytes b.block))
      → c.block ≡ [] → c.first ≡ None → c.is_ticked ≡ false → c.mark ≡ mark_of i → i.groups ≤ length i.entries → IsWaiting tells journal i c
  kept_waiting journal i b c batch number has block first ticked mark few =
      let all = subst (λ (es : List Numbered). HasJournaled tells journal es (b.mark.bytes + length (opened_bytes b.block))) (sym (entries_on journal.base.number i b number batch)) has in
      let now = subst (λ (n : ℕ). HasJournaled tells journal i.entries n) (sym batch.size_is) all in
      idle_waiting journal i c (idle_batch i c batch.counted block first ticked mark few) number block mark (λ _. now)

  -- once the disk refused it
  pub back_waiting : (journal : Journaled D) (i : Intake) (b c : Batch) → IsBatch i b → i.before ≡ journal.base.number → journal.state ≡ Broken → c.block ≡ [] → c.first ≡ None → c.is_ticked ≡ false → c.mark ≡ b.mark
      → IsWaiting tells journal (back_to i b.mark) c
  back_waiting journal i b c batch number broken block first ticked mark =
      let back = back_to i b.mark in
      let long : length back.entries ≡ b.mark.kept = length-take-le b.mark.kept i.entries batch.within in
      let same : c.mark ≡ mark_of back = mark ∙ sym (ap (λ (n : ℕ). (let m : Mark = record { kept = n; tick = b.mark.tick; bytes = b.mark.bytes; groups = b.mark.groups } in m)) long) in
      idle_waiting journal back c (idle_batch back c batch.counted block first ticked same (omega (arith, long, batch.few))) number block same (λ ready. absurd (not_both ready))
    where
      not_both : journal.state ≡ Ready → ⊥
      not_both ready = let both = sym ready ∙ broken in absurd (cc)

-- what was written of what waited
pub commit_written : (old new : DiskTells) (base : Base) (i : Intake) (b : Batch) → IsBatch i b → i.before ≡ base.number → old.faults ≤ new.faults
    → is_some new.bytes ≡ is_some old.bytes → IfSome old.bytes (λ _. LeavesOnly old new (KeepsEither base (take b.mark.kept i.entries) (with_group base.number (take b.mark.kept i.entries) (all_of b.block))))
    → IsWritten old new base (take b.mark.kept i.entries) i.entries
commit_written old new base i b batch number later told left = record {
  later = later;
  told = told;
  any_moment = subst (λ (es : List Numbered). IfSome old.bytes (λ _. LeavesOnly old new (KeepsEither base (take b.mark.kept i.entries) es))) (sym (entries_on base.number i b number batch)) left;
}
