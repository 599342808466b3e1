-- The configuration behind kept entries.
use Rattle.std.proofs.Common.{◌≡◌, ◌<◌, ℕ, ◌+◌, Bool, true, false, List, [], ◌∷◌, ◌++◌, length, Option, refl, ◌∙◌, ap, subst, arith}
use Rattle.std.specs.Prelude.{IfSome, if◌then◌else◌}
use Rattle.std.specs.Option.{option_or}
use Rattle.std.specs.Str.{bytes_eq}
use Rattle.std.proofs.lemmas.List.{reverse-append}
use Rattle.zbx_types.specs.declared.base.Base.{Base}
use Rattle.zbx_types.specs.declared.entries.Entry.{Entry}
use Rattle.zbx_types.specs.declared.entries.Entry.TheVariants.{Config, Value, Tick}
use Rattle.zbx_types.specs.declared.entries.Numbered.{Numbered}
use Rattle.outside.specs.Disk.{DiskTells, LeavesOnly}
use Rattle.entry_step.specs.Log.{log_of}
use Rattle.intake_journal.specs.Block.{opened_bytes}
use Rattle.intake_journal.specs.Settled.{Journaled}
use Rattle.intake_journal.proofs.Staged.{more_long}
use Rattle.intake_front.specs.Intake.{with_group, bytes_with, config_text, last_text, is_text, is_text_with, config_behind, opening_group, resumed, resumed_with, start}
use Rattle.intake_front.specs.Fronted.{HasJournaled, KeepsEither, all_of}
use Rattle.entry_laws.specs.InForce.{text_in}

-- the text of the last Config, with one more entry
text_with : (text : List ℕ) (e : Entry) (last : Option (List ℕ)) → is_text text (option_or (config_text e) last) ≡ is_text_with (is_text text last) text e
text_with text (Config now found) last = refl
text_with text (Value now item time value) last = refl
text_with text (Tick now) last = refl

pub text_more : (before text : List ℕ) (entries : List Numbered) (e : Numbered) → is_text text (last_text before (log_of (entries ++ e ∷ []))) ≡ is_text_with (is_text text (last_text before (log_of entries))) text e.entry
text_more before text entries e =
    ap (λ (l : List Numbered). is_text text (last_text before l)) (reverse-append entries (e ∷ []))
    ∙ text_with text e.entry (last_text before (log_of entries))

-- whether a base has a text
pub no_text : (before text : List ℕ) → length before ≡ 0 → is_text text (text_in before) ≡ false
no_text [] text none = refl
no_text (byte ∷ rest) text none = absurd (omega (arith, none))

pub text_there : (before text : List ℕ) → 0 < length before → is_text text (text_in before) ≡ bytes_eq before text
text_there [] text some = absurd (omega arith)
text_there (byte ∷ rest) text some = refl

-- the configuration behind entries, before which a moment was reached
module _ (moment : ℕ) (text : List ℕ) (kept : List Numbered) where
  abbrev own : List Entry
  own = config_behind moment text kept

  -- a journal to which it was appended
  config_size : (size : ℕ) → size + length (opened_bytes (own ∷ [])) ≡ bytes_with size own
  config_size size = omega (arith, more_long [] own)

  pub config_has : {D : Type 0} (tells : D → DiskTells) (journal : Journaled D) (block : List (List Entry)) (size number : ℕ) → block ≡ own ∷ []
      → HasJournaled tells journal (with_group number kept (all_of block)) (size + length (opened_bytes block))
      → HasJournaled tells journal (with_group number kept own) (bytes_with size own)
  config_has tells journal block size number is has =
      let P : List (List Entry) → Type 0 = λ b. HasJournaled tells journal (with_group number kept (all_of b)) (size + length (opened_bytes b)) in
      subst (λ (n : ℕ). HasJournaled tells journal (with_group number kept own) n) (config_size size) (subst P is has)

  pub config_moments : (old new : DiskTells) (base : Base) (block : List (List Entry)) → block ≡ own ∷ []
      → IfSome old.bytes (λ _. LeavesOnly old new (KeepsEither base kept (with_group base.number kept (all_of block))))
      → IfSome old.bytes (λ _. LeavesOnly old new (KeepsEither base kept (with_group base.number kept own)))
  config_moments old new base block is left =
      subst (λ (b : List (List Entry)). IfSome old.bytes (λ _. LeavesOnly old new (KeepsEither base kept (with_group base.number kept (all_of b))))) is left

-- the group of an opening, by whether the last configuration has the text
module _ (base : Base) (text : List ℕ) (kept : List Numbered) where
  abbrev has_it : Bool
  has_it = is_text text (last_text base.text (log_of kept))

  abbrev behind : List Entry
  behind = config_behind base.now text kept

  pub opening_same : has_it ≡ true → opening_group base text kept ≡ []
  opening_same same = ap (λ (b : Bool). if b then [] else behind) same

  pub opening_other : has_it ≡ false → opening_group base text kept ≡ behind
  opening_other other = ap (λ (b : Bool). if b then [] else behind) other

  pub start_same : (bytes : ℕ) → has_it ≡ true → start base text kept bytes ≡ resumed base kept bytes
  start_same bytes same = ap (resumed_with base kept bytes) (opening_same same)

  pub start_other : (bytes : ℕ) → has_it ≡ false → start base text kept bytes ≡ resumed base (with_group base.number kept behind) (bytes_with bytes behind)
  start_other bytes other = ap (resumed_with base kept bytes) (opening_other other)
