-- Bases of whole logs.
use Rattle.std.proofs.Common.{◌≡◌, ◌≤◌, ◌<◌, ℕ, false, List, [], ◌∷◌, ◌++◌, refl, sym, ◌∙◌, ap, ap₂, subst, append_assoc, append-nil}
use mathlib.Core.Path.{fun_ext}
use Rattle.zbx_types.specs.Entries.{moment_of}
use Rattle.zbx_types.specs.declared.base.Base.{Base}
use Rattle.zbx_types.specs.declared.conf.Conf.{Conf}
use Rattle.zbx_types.specs.declared.entries.Entry.{Entry}
use Rattle.zbx_types.specs.declared.entries.Entry.TheVariants.{Config, Value, Tick}
use Rattle.zbx_types.specs.declared.entries.Numbered.{Numbered}
use Rattle.zbx_types.specs.declared.entries.Rec.{Rec}
use Rattle.preprocess.specs.Carry.{carried_history, carried_marks}
use Rattle.trigger_state.specs.Problems.{open_of}
use Rattle.entry_step.specs.Behind.{behind}
use Rattle.entry_step.specs.Carry.{removed, next_stage, next_start}
use Rattle.entry_step.specs.Each.{Each}
use Rattle.entry_step.specs.History.{marks_of, history_of}
use Rattle.entry_step.specs.InForce.{SuitsWhole}
use Rattle.entry_laws.specs.InForce.{IsPlain, left_by}
use Rattle.entry_step.specs.Log.{is_config, first_tick, last_moment, last_number, IsFitting, IsRising, Suits}
use Rattle.entry_step.specs.Records.{out_of, replay}
use Rattle.entry_step.specs.Start.{Start}
use Rattle.entry_step.specs.Whole.{Point, out_at, point_with, point, whole_replay, AreTold, FitsStart, FitsWhole}
use Rattle.entry_step.proofs.Wholes.{stays_told}
use Rattle.entry_laws.proofs.Behind.{out_behind}
use Rattle.base_laws.specs.Alike.{AreAlike}
use Rattle.base_laws.specs.Bases.{Beside, beside_of, beside_with, base_at, base_of, whole_base}
use Rattle.base_laws.specs.Sound.{IsSound}
use Rattle.base_laws.specs.WholeBases.{IsRegular, IsWhole, start_after, WholeIsSound, ToldByBase, CheckpointLaw, WholeLaw}
use Rattle.base_laws.proofs.Alike.{alike_logs}
use Rattle.base_laws.proofs.ByBase.{its_alike, its_sound, its_fits}
use Rattle.base_laws.proofs.Central.{same_base, behind_both, behind_nothing, beside_both, beside_back}
use Rattle.base_laws.proofs.Configs.{config_start, next_sound, removed_alike, next_alike}
use Rattle.base_laws.proofs.Sound.{behind_is_sound}

-- What stands at a point
pub records_at : (flat : List ℕ → Conf) (start : Start) (log : List Numbered) → (point flat start log).records ≡ (left_by (point flat start log)).records
records_at flat start [] = sym (append-nil start.records)
records_at flat start (e ∷ log) = go e.entry (records_at flat start log)
  where
    p : Point
    p = point flat start log

    plain : p.records ≡ p.start.records ++ replay p.start p.since → p.records ++ out_of p.start p.since e e.entry p.records ≡ p.start.records ++ replay p.start (e ∷ p.since)
    plain ih =
        ap (λ rs. rs ++ out_of p.start p.since e e.entry rs) ih
        ∙ append_assoc p.start.records (replay p.start p.since) (out_of p.start p.since e e.entry (p.start.records ++ replay p.start p.since))

    go : (entry : Entry) → p.records ≡ (left_by p).records → (point_with flat p e entry).records ≡ (left_by (point_with flat p e entry)).records
    go (Config now text) ih = sym (append-nil (p.records ++ out_at flat p e (Config now text)))
    go (Value now item time value) ih = plain ih
    go (Tick now) ih = plain ih

pub number_at : (flat : List ℕ → Conf) (start : Start) (log : List Numbered) → (left_by (point flat start log)).number ≡ last_number start log
number_at flat start [] = refl
number_at flat start (e ∷ log) = go e.entry
  where
    go : (entry : Entry) → (left_by (point_with flat (point flat start log) e entry)).number ≡ e.number
    go (Config now text) = refl
    go (Value now item time value) = refl
    go (Tick now) = refl

pub moment_at : (flat : List ℕ → Conf) (start : Start) (log : List Numbered) → (left_by (point flat start log)).moment ≡ last_moment start log
moment_at flat start [] = refl
moment_at flat start (e ∷ log) = go e.entry refl
  where
    go : (entry : Entry) → moment_of e.entry ≡ moment_of entry → (left_by (point_with flat (point flat start log) e entry)).moment ≡ moment_of e.entry
    go (Config now text) q = sym q
    go (Value now item time value) q = refl
    go (Tick now) q = refl

pub regular_at : (flat : List ℕ → Conf) (start : Start) (log : List Numbered) → ((text : List ℕ) → IsRegular (flat text)) → IsRegular start.stage.conf → IsRegular (point flat start log).start.stage.conf
regular_at flat start [] texts first = first
regular_at flat start (e ∷ log) texts first = go e.entry (regular_at flat start log texts first)
  where
    go : (entry : Entry) → IsRegular (point flat start log).start.stage.conf → IsRegular (point_with flat (point flat start log) e entry).start.stage.conf
    go (Config now text) ih = texts text
    go (Value now item time value) ih = ih
    go (Tick now) ih = ih

pub told_at : (flat : List ℕ → Conf) (start : Start) (log : List Numbered) → FitsWhole flat start log → AreTold (left_by (point flat start log)).stage (left_by (point flat start log)).number (left_by (point flat start log)).records
told_at flat start log fits =
    subst (λ n. AreTold (point flat start log).start.stage n (left_by (point flat start log)).records) (sym (number_at flat start log))
    (subst (AreTold (point flat start log).start.stage (last_number start log)) (records_at flat start log) (stays_told flat start log fits))

-- A Value or Tick behind a point, and a Config
module _ (p : Point) (e : Numbered) (same : p.records ≡ (left_by p).records) where
  abbrev pub plainly : Point
  plainly = record { start = p.start; since = e ∷ p.since; records = p.records ++ out_of p.start p.since e e.entry p.records }

  pub left_plain : left_by plainly ≡ behind (left_by p) (e ∷ [])
  left_plain = sym (behind_both p.start (e ∷ []) p.since)

  out_plain : out_of p.start p.since e e.entry p.records ≡ replay (left_by p) (e ∷ [])
  out_plain =
      ap (out_of p.start p.since e e.entry) (same ∙ sym (append-nil (left_by p).records))
      ∙ sym (out_behind p.start [] p.since e ((left_by p).records ++ []))

  pub config_left : (new : Conf) (now : ℕ) → behind (next_start p.start p.since new e.number now p.records) [] ≡ config_start (left_by p) new e.number now
  unfolding marks_of
  config_left new now =
      behind_nothing (next_start p.start p.since new e.number now p.records) ∙ ap (next_start p.start p.since new e.number now) same ∙ (λ i. record {
        stage = next_stage p.start.stage new (open_of p.start.stage (left_by p).records);
        number = e.number;
        moment = now;
        tick = first_tick p.start p.since;
        histories = carried_history p.start.stage.conf new now (histories i);
        marks = carried_marks p.start.stage.conf new (marks i);
        records = (left_by p).records ++ removed p.start.stage new e.number now (open_of p.start.stage (left_by p).records);
      })
    where
      histories : history_of p.start p.since ≡ history_of (left_by p) []
      histories = fun_ext (λ id. refl)

      marks : marks_of p.start p.since ≡ marks_of (left_by p) []
      marks = fun_ext (λ id. refl)

-- What a whole log leaves is sound
module _ (flat : List ℕ → Conf) (start : Start) (texts : (text : List ℕ) → IsRegular (flat text)) (first : IsRegular start.stage.conf) (sound : IsSound start) where
  pub sound_at : (log : List Numbered) → FitsWhole flat start log → IsSound (left_by (point flat start log))
  sound_at [] fits = subst IsSound (sym (behind_nothing start)) sound
  sound_at (e ∷ log) fits = go e.entry (sound_at log fits.0)
    where
      p : Point
      p = point flat start log

      same : p.records ≡ (left_by p).records
      same = records_at flat start log

      regular : IsRegular p.start.stage.conf
      regular = regular_at flat start log texts first

      later : (left_by p).number < e.number
      later = subst (λ n. n < e.number) (sym (number_at flat start log)) fits.1

      plain : IsSound (left_by p) → IsSound (left_by (plainly p e same))
      plain ih = subst IsSound (sym (left_plain p e same)) (behind_is_sound (left_by p) (e ∷ []) regular.actions ih (later, tt))

      go : (entry : Entry) → IsSound (left_by p) → IsSound (left_by (point_with flat p e entry))
      go (Config now text) ih =
          subst IsSound (sym (config_left p e same (flat text) now))
          (next_sound (left_by p) (flat text) e.number now regular.triggers (texts text).triggers (told_at flat start log fits.0) later ih)
      go (Value now item time value) ih = plain ih
      go (Tick now) ih = plain ih

pub whole_is_sound : WholeIsSound
whole_is_sound flat start log whole = sound_at flat start whole.texts whole.first whole.sound log whole.fits

-- The start that a base is by itself
pub told_by_base : ToldByBase
told_by_base flat beside start log whole =
    let left : Start = left_by (point flat start log) in
    let sound : IsSound left = whole_is_sound flat start log whole in
    let distinct = (regular_at flat start log whole.texts whole.first).triggers in
    let told = told_at flat start log whole.fits in
    let at : Beside = beside_with beside log (whole_replay flat start log) in
    (its_alike at left sound distinct told, its_sound at left sound distinct told, its_fits at left sound distinct told)

-- Newer entries on starts that are alike
fits_before : (flat : List ℕ → Conf) (start : Start) (newer older : List Numbered) → FitsWhole flat start (newer ++ older) → FitsWhole flat start older
fits_before flat start [] older fits = fits
fits_before flat start (e ∷ newer) older fits = fits_before flat start newer older fits.0

module _ (flat : List ℕ → Conf) (start its : Start) (older : List Numbered) (texts : (text : List ℕ) → IsRegular (flat text)) (first : IsRegular start.stage.conf)
    (alike : AreAlike (left_by (point flat start older)) its) (stands : FitsStart its) where
  number_on : (newer : List Numbered) → last_number its newer ≡ last_number start (newer ++ older)
  number_on [] = sym alike.number ∙ number_at flat start older
  number_on (e ∷ newer) = refl

  moment_on : (newer : List Numbered) → last_moment its newer ≡ last_moment start (newer ++ older)
  moment_on [] = sym alike.moment ∙ moment_at flat start older
  moment_on (e ∷ newer) = refl

  fits_on : (newer : List Numbered) → FitsWhole flat start (newer ++ older) → FitsWhole flat its newer
  fits_on [] fits = stands
  fits_on (e ∷ newer) fits = (fits_on newer fits.0, subst (λ n. n < e.number) (sym (number_on newer)) fits.1, fits.2)

  left_alike : (newer : List Numbered) → FitsWhole flat start (newer ++ older) → SuitsWhole flat start (newer ++ older)
      → AreAlike (left_by (point flat start (newer ++ older))) (left_by (point flat its newer)) × (whole_replay flat start (newer ++ older) ≡ whole_replay flat start older ++ whole_replay flat its newer)
  left_alike [] fits suits = (subst (AreAlike (left_by (point flat start older))) (sym (behind_nothing its)) alike, sym (append-nil (whole_replay flat start older)))
  left_alike (e ∷ newer) fits suits =
      let before = left_alike newer fits.0 suits.0 in
      let step = go e.entry refl before.0 in (
        step.0,
        ap₂ (λ rs more. rs ++ more) before.1 step.1 ∙ append_assoc (whole_replay flat start older) (whole_replay flat its newer) (out_at flat (point flat its newer) e e.entry),
      )
    where
      p : Point
      p = point flat start (newer ++ older)

      q : Point
      q = point flat its newer

      same : p.records ≡ (left_by p).records
      same = records_at flat start (newer ++ older)

      same_too : q.records ≡ (left_by q).records
      same_too = records_at flat its newer

      regular : IsRegular p.start.stage.conf
      regular = regular_at flat start (newer ++ older) texts first

      later : (left_by p).number < e.number
      later = subst (λ n. n < e.number) (sym (number_at flat start (newer ++ older))) fits.1

      late : (left_by p).moment ≤ moment_of e.entry
      late = subst (λ m. m ≤ moment_of e.entry) (sym (moment_at flat start (newer ++ older))) suits.1

      Both : Entry → Type 0
      Both entry = AreAlike (left_by (point_with flat p e entry)) (left_by (point_with flat q e entry)) × (out_at flat p e entry ≡ out_at flat q e entry)

      plain : AreAlike (left_by p) (left_by q) → AreAlike (left_by (plainly p e same)) (left_by (plainly q e same_too)) × (out_of p.start p.since e e.entry p.records ≡ out_of q.start q.since e e.entry q.records)
      plain ih =
          let both = alike_logs (left_by p) (left_by q) (e ∷ []) regular.periods ih (later, tt) (tt, late, suits.2) in (
            subst (λ s. AreAlike s (left_by (plainly q e same_too))) (sym (left_plain p e same)) (subst (AreAlike (behind (left_by p) (e ∷ []))) (sym (left_plain q e same_too)) both.1),
            out_plain p e same ∙ both.0 ∙ sym (out_plain q e same_too),
          )

      config : (now : ℕ) (text : List ℕ) → moment_of e.entry ≡ now → AreAlike (left_by p) (left_by q) → Both (Config now text)
      config now text at ih =
          let told = told_at flat start (newer ++ older) fits.0 in
          let told_too = told_at flat its newer (fits_on newer fits.0) in
          let l : (left_by p).moment ≤ now = subst (λ m. (left_by p).moment ≤ m) at late in (
            subst (λ s. AreAlike s (left_by (point_with flat q e (Config now text)))) (sym (config_left p e same (flat text) now))
                (subst (AreAlike (config_start (left_by p) (flat text) e.number now)) (sym (config_left q e same_too (flat text) now))
                (next_alike (left_by p) (left_by q) (flat text) e.number now regular.triggers (texts text).triggers told told_too later l ih)),
            ap (λ rs. removed p.start.stage (flat text) e.number now (open_of p.start.stage rs)) same
                ∙ removed_alike (left_by p) (left_by q) (flat text) e.number now regular.triggers (texts text).triggers told told_too later l ih
                ∙ ap (λ rs. removed q.start.stage (flat text) e.number now (open_of q.start.stage rs)) (sym same_too),
          )

      go : (entry : Entry) → e.entry ≡ entry → AreAlike (left_by p) (left_by q) → Both entry
      go (Config now text) at ih = config now text (ap moment_of at) ih
      go (Value now item time value) at ih = plain ih
      go (Tick now) at ih = plain ih

  suits_on : (newer : List Numbered) → FitsWhole flat start (newer ++ older) → SuitsWhole flat start (newer ++ older) → SuitsWhole flat its newer
  suits_on [] fits suits = tt
  suits_on (e ∷ newer) fits suits = (
    suits_on newer fits.0 suits.0,
    subst (λ m. m ≤ moment_of e.entry) (sym (moment_on newer)) suits.1,
    subst (λ (conf : Conf). IsFitting conf e.entry) (left_alike newer fits.0 suits.0).0.conf suits.2,
  )

module _ (flat : List ℕ → Conf) (beside : Beside) (start : Start) (newer older : List Numbered) (whole : IsWhole flat start (newer ++ older)) (suits : SuitsWhole flat start (newer ++ older)) where
  abbrev its : Start
  its = start_after flat beside start older

  abbrev base : Base
  base = whole_base flat beside start older

  before : IsWhole flat start older
  before = record { texts = whole.texts; first = whole.first; sound = whole.sound; fits = fits_before flat start newer older whole.fits }

  abbrev told : AreAlike (left_by (point flat start older)) its × IsSound its × FitsStart its
  told = told_by_base flat beside start older before

  both : AreAlike (left_by (point flat start (newer ++ older))) (left_by (point flat its newer)) × (whole_replay flat start (newer ++ older) ≡ whole_replay flat start older ++ whole_replay flat its newer)
  both = left_alike flat start its older whole.texts whole.first told.0 told.2 newer whole.fits suits

  abbrev at : Beside
  at = beside_with beside older (whole_replay flat start older)

  same_again : whole_base flat beside start (newer ++ older) ≡ whole_base flat (beside_of base) its newer
  same_again =
      ap (λ rs. base_at (beside_with beside (newer ++ older) rs) (left_by (point flat start (newer ++ older)))) both.1
      ∙ ap (λ b. base_at b (left_by (point flat start (newer ++ older)))) (beside_both beside newer older (whole_replay flat start older) (whole_replay flat its newer))
      ∙ same_base (left_by (point flat start (newer ++ older))) (left_by (point flat its newer)) both.0 (beside_with at newer (whole_replay flat its newer))
      ∙ ap (λ b. base_at (beside_with b newer (whole_replay flat its newer)) (left_by (point flat its newer))) (sym (beside_back at (left_by (point flat start older))))

  again_whole : IsWhole flat its newer
  again_whole = record {
    texts = whole.texts;
    first = regular_at flat start older whole.texts whole.first;
    sound = told.1;
    fits = fits_on flat start its older whole.texts whole.first told.0 told.2 newer whole.fits;
  }

  again_suits : SuitsWhole flat its newer
  again_suits = suits_on flat start its older whole.texts whole.first told.0 told.2 newer whole.fits suits

pub whole_law : WholeLaw
whole_law flat beside start newer older whole suits =
    ((both flat beside start newer older whole suits).1, same_again flat beside start newer older whole suits, again_whole flat beside start newer older whole suits, again_suits flat beside start newer older whole suits)

-- Values and Ticks alone
plain_point : (flat : List ℕ → Conf) (start : Start) (log : List Numbered) → Each IsPlain log → point flat start log ≡ record { start = start; since = log; records = start.records ++ replay start log }
plain_point flat start [] plain = ap (λ (rs : List Rec). at_point rs) (sym (append-nil start.records))
  where
    at_point : List Rec → Point
    at_point rs = record { start = start; since = []; records = rs }
plain_point flat start (e ∷ log) plain = ap (λ (p : Point). point_with flat p e e.entry) (plain_point flat start log plain.1) ∙ go e.entry plain.0
  where
    p : Point
    p = record { start = start; since = log; records = start.records ++ replay start log }

    with_records : List Rec → Point
    with_records rs = record { start = start; since = e ∷ log; records = rs }

    one : plainly p e refl ≡ with_records (start.records ++ replay start (e ∷ log))
    one = ap with_records (append_assoc start.records (replay start log) (out_of start log e e.entry (start.records ++ replay start log)))

    go : (entry : Entry) → is_config entry ≡ false → point_with flat p e entry ≡ with_records (start.records ++ replay start (e ∷ log))
    go (Config now text) q = absurd (cc)
    go (Value now item time value) q = one
    go (Tick now) q = one

plain_replay : (flat : List ℕ → Conf) (start : Start) (log : List Numbered) → Each IsPlain log → whole_replay flat start log ≡ replay start log
plain_replay flat start [] plain = refl
plain_replay flat start (e ∷ log) plain =
    ap₂ (λ rs more. rs ++ more) (plain_replay flat start log plain.1) (ap (λ (p : Point). out_at flat p e e.entry) (plain_point flat start log plain.1) ∙ go e.entry plain.0)
  where
    p : Point
    p = record { start = start; since = log; records = start.records ++ replay start log }

    go : (entry : Entry) → is_config entry ≡ false → out_at flat p e entry ≡ out_of start log e e.entry (start.records ++ replay start log)
    go (Config now text) q = absurd (cc)
    go (Value now item time value) q = refl
    go (Tick now) q = refl

plain_base : (flat : List ℕ → Conf) (beside : Beside) (start : Start) (log : List Numbered) → Each IsPlain log → whole_base flat beside start log ≡ base_of beside start log
plain_base flat beside start log plain =
    ap (λ rs. base_at (beside_with beside log rs) (left_by (point flat start log))) (plain_replay flat start log plain)
    ∙ ap (λ (p : Point). base_at (beside_with beside log (replay start log)) (left_by p)) (plain_point flat start log plain)

fits_rising : (flat : List ℕ → Conf) (start : Start) (log : List Numbered) → FitsWhole flat start log → IsRising start log
fits_rising flat start [] fits = tt
fits_rising flat start (e ∷ log) fits = (fits.1, fits_rising flat start log fits.0)

plain_suits : (flat : List ℕ → Conf) (start : Start) (log : List Numbered) → Each IsPlain log → SuitsWhole flat start log → Suits start log
plain_suits flat start [] plain suits = tt
plain_suits flat start (e ∷ log) plain suits =
    (plain_suits flat start log plain.1 suits.0, suits.1, subst (λ (p : Point). IsFitting p.start.stage.conf e.entry) (plain_point flat start log plain.1) suits.2)

pub checkpoint_law : CheckpointLaw
checkpoint_law flat beside start newer older plain whole suits =
    let its : Start = start_after flat beside start older in
    let law = whole_law flat beside start newer older whole suits in (
      law.0 ∙ ap (λ rs. whole_replay flat start older ++ rs) (plain_replay flat its newer plain),
      law.1 ∙ plain_base flat (beside_of (whole_base flat beside start older)) its newer plain,
      fits_rising flat its newer law.2.fits,
      plain_suits flat its newer plain law.3,
    )
