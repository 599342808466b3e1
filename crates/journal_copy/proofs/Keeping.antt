-- Laws of a journal that was read for its state.
use Rattle.std.proofs.Common.{◌≡◌, ◌≤◌, ◌+◌, ℕ, List, length, map, sym, ap, ◌∙◌, subst, arith}
use Rattle.std.proofs.lemmas.List.{length-reverse}
use Rattle.zbx_types.specs.declared.base.Base.{Base}
use Rattle.zbx_types.specs.declared.entries.Numbered.{Numbered}
use Rattle.outside.specs.Disk.{DiskTells}
use Rattle.base_laws.specs.Grounds.{start_of}
use Rattle.entry_laws.specs.InForce.{FitsLog, HasBegun, IsFull, texts_on}
use Rattle.entry_step.specs.Log.{log_of}
use Rattle.entry_step.specs.Start.{Start}
use Rattle.intake_journal.specs.Settled.{Journaled}
use Rattle.intake_front.specs.Fronted.{numbered_of}
use Rattle.book_opening.specs.Opening.{IsSound}
use Rattle.journal_opening.specs.Recovered.{found_entries}
use Rattle.journal_opening.specs.Replayed.{flat, AreFlat, IsGoodBase}
use Rattle.journal_opening.specs.Resumed.{IsTakenUp}
use Rattle.journal_opening.proofs.Bases.{stands_of}
use Rattle.journal_opening.proofs.Beginning.{full_numbered}
use Rattle.journal_opening.proofs.Distinct.{all_distinct}
use Rattle.journal_copy.specs.State.{AreKept}

-- a journal that was taken up is one
pub taken_kept : {D : Type 0} (tells : D → DiskTells) (most : ℕ) (old : D) (journal : Journaled D) (entries : List Numbered)
    → IsTakenUp tells most old journal entries (map flat (texts_on journal.base.text entries)) → AreKept journal.base entries
taken_kept tells most old journal entries t = record { found = t.found; accepted = t.accepted; base_is = t.has.base; entries_are = t.kept_are }

module _ (base : Base) (entries : List Numbered) (k : AreKept base entries) where
  pub kept_good : IsGoodBase base
  kept_good = subst IsGoodBase (sym k.base_is) k.accepted.0

  pub kept_flat : AreFlat base.text entries
  kept_flat =
      subst (λ (es : List Numbered). AreFlat base.text es) (sym k.entries_are)
      (subst (λ (b : Base). AreFlat b.text (found_entries k.found)) (sym k.base_is) k.accepted.1)

  -- the entries are numbered behind the start
  abbrev start : Start
  start = start_of flat base

  numbers : numbered_of start.number k.found.groups ≡ entries
  numbers =
      ap (λ n. numbered_of n k.found.groups) ((stands_of base kept_good).number ∙ ap (λ (b : Base). b.number) k.base_is) ∙ sym k.entries_are

  kept_full : IsFull start (log_of entries)
  kept_full = subst (λ (es : List Numbered). IsFull start (log_of es)) numbers (full_numbered start k.found.groups)

  pub kept_fits : FitsLog flat start (log_of entries)
  kept_fits =
      subst (λ (es : List Numbered). FitsLog flat start (log_of es)) numbers
      (subst (λ (s : Start). FitsLog flat s (log_of (numbered_of s.number k.found.groups))) (ap (start_of flat) (sym k.base_is)) k.accepted.2)

  -- so they can be replayed
  pub kept_sound : IsSound flat base (log_of entries)
  kept_sound = record {
    distinct = all_distinct;
    base_is = kept_good.1;
    full = kept_full;
    fits = kept_fits;
  }

  -- where there is something
  pub some_begun : 1 ≤ length base.text + length entries → HasBegun start (log_of entries)
  some_begun some =
      let text : length start.stage.conf.text ≡ length base.text = ap (λ (t : List ℕ). length t) (stands_of base kept_good).text in
      let long = length-reverse entries in
      omega (arith, some, text, long)
