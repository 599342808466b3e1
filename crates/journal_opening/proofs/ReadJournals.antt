-- Laws of a journal that is read for a call that adds nothing to it.
use Rattle.std.proofs.Common.{◌≡◌, ℕ, List, map, inl, inr, sym, ap, ◌∙◌, subst}
use Rattle.zbx_types.specs.declared.base.Base.{Base}
use Rattle.zbx_types.specs.declared.conf.Conf.{Conf}
use Rattle.zbx_types.specs.declared.entries.Numbered.{Numbered}
use Rattle.outside.specs.Disk.{DiskTells}
use Rattle.trigger_state.specs.Stages.{Stage, first_stage}
use Rattle.intake_journal.specs.Settled.{Journaled}
use Rattle.entry_laws.specs.InForce.{texts_on}
use Rattle.book_opening.specs.Opening.{run_epochs}
use Rattle.pattern_set.specs.Patterns.{IsNoPattern}
use Rattle.server_words.specs.declared.status.Status.{Status}
use Rattle.server_words.specs.declared.status.Status.TheVariants as status
use Rattle.journal_opening.specs.Epochs.{AreUnready}
use Rattle.journal_opening.specs.Patterns.{HoldsBrace}
use Rattle.journal_opening.specs.Replayed.{flat}
use Rattle.journal_opening.specs.Resumed.{IsTakenUp}
use Rattle.journal_opening.specs.Unkept.{IsUnkept}
use Rattle.journal_opening.proofs.Beginning.{kept_flawed}
use Rattle.journal_opening.proofs.KeptTexts.{maps}

module _ {D : Type 0} (tells : D → DiskTells) (most : ℕ) (old : D) (journal : Journaled D) (kept : List Numbered) (confs : List Conf) (t : IsTakenUp tells most old journal kept confs) where
  -- the configurations are those of the texts along the journal's entries
  confs_told : confs ≡ map flat (texts_on journal.base.text kept)
  confs_told = t.confs_are ∙ ap (λ (k : Base). map flat (texts_on k.text kept)) (sym t.has.base)

  pub taken_texts : IsTakenUp tells most old journal kept (map flat (texts_on journal.base.text kept))
  taken_texts = subst (IsTakenUp tells most old journal kept) confs_told t

  pub kept_epochs : (epochs : List Stage) → epochs ≡ map first_stage confs → epochs ≡ run_epochs flat journal.base kept
  kept_epochs epochs made =
      made ∙ ap (map first_stage) confs_told ∙ maps flat first_stage (texts_on journal.base.text kept)

  -- one that couldn't be made ready has a flaw, or memory was refused
  pub unkept_pattern : (new : D) (s : Status) → AreUnready confs s → IsUnkept (tells old) (tells new) s
  unkept_pattern new status.OutOfMemory why = inl (inl tt)
  unkept_pattern new (status.PatternRefused path) why = inr (kept_flawed IsNoPattern path (tells old).bytes t.found kept confs t.finds t.accepted t.kept_are t.confs_are why.0 why.1 why.2)
  unkept_pattern new (status.PatternTooLarge path) why = inr (kept_flawed HoldsBrace path (tells old).bytes t.found kept confs t.finds t.accepted t.kept_are t.confs_are why.0 why.1 why.2)
  unkept_pattern new _ why = absurd why.2
