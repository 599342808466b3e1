-- What newer entries make on the state of older ones.
use Rattle.std.proofs.Common.{◌≡◌, ◌≢◌, ◌≤◌, ◌+◌, ℕ, List, [], ◌∷◌, ◌++◌, length, All, None, refl, sym, ap, ◌∙◌, subst, append_assoc, length-append, arith}
use Rattle.std.specs.Prelude.{option_to_list}
use Rattle.std.proofs.lemmas.List.{length-reverse, reverse-append}
use Rattle.std.proofs.lemmas.List.Elements.{All-cons, All-nil, All-head}
use Rattle.zbx_types.specs.declared.base.Base.{Base}
use Rattle.zbx_types.specs.declared.conf.Conf.{Conf}
use Rattle.zbx_types.specs.declared.entries.Entry.{Entry}
use Rattle.zbx_types.specs.declared.entries.Entry.TheVariants.{Config, Value, Tick}
use Rattle.zbx_types.specs.declared.entries.Numbered.{Numbered}
use Rattle.trigger_state.specs.Stages.{first_stage}
use Rattle.entry_step.specs.InForce.{SuitsWhole}
use Rattle.entry_step.specs.Log.{IsRising, last_moment, last_number, log_of}
use Rattle.entry_step.specs.Start.{Start, no_conf, nothing}
use Rattle.entry_step.specs.Whole.{point, whole_replay}
use Rattle.entry_laws.specs.InForce.{conf_behind, conf_with, FitsBehind, FitsLater, FitsLog, FitsOn, HasBegun, IsFull, IsGround, config_texts, left_by, text_in, texts_on}
use Rattle.entry_laws.proofs.InForce.{conf_is_behind, config_texts_append, fits_suits, full_rises, moment_behind_all, number_behind_all}
use Rattle.base_laws.specs.Bases.{Beside, beside_of, beside_with, base_at, last_text, text_with, told_start, whole_base}
use Rattle.base_laws.specs.Dated.{HasSeverities, IsDated}
use Rattle.base_laws.specs.FitsBase.{most_counted, FitsBase}
use Rattle.base_laws.specs.Grounds.{start_of}
use Rattle.base_laws.specs.WholeBases.{conf_after, IsRegular, IsWhole, start_after}
use Rattle.base_laws.proofs.BaseFitting.{base_fits, checkpoint_fits}
use Rattle.base_laws.proofs.Central.{beside_back}
use Rattle.base_laws.proofs.Dated.{fresh_is_dated}
use Rattle.base_laws.proofs.Grounds.{some_of, start_none, start_some}
use Rattle.base_laws.proofs.Nothing.{whole_over_nothing}
use Rattle.base_laws.proofs.Texts.{text_in_force}
use Rattle.base_laws.proofs.WholeBases.{whole_law}
use Rattle.journal_opening.specs.Replayed.{flat, IsFlat, AreFlat, IsGoodBase}
use Rattle.journal_opening.proofs.Bases.{good_ground, stands_of}
use Rattle.journal_opening.proofs.Judging.{all_back, all_front}
use Rattle.journal_opening.proofs.Regular.{all_regular, all_severe}
use Rattle.journal_opening.proofs.Texts.{text_kept}
use Rattle.journal_copy.specs.Laws.{CopyGoesOn, StandOn}
use Rattle.journal_copy.specs.State.{state_of}
use Rattle.journal_copy.proofs.Forming.{flat_nothing, text_there}
use Rattle.journal_copy.proofs.States.{FlatEntry, FlatLog, texts_flat}

-- ---- a log with more entries behind it

full_behind : (start : Start) (newer older : List Numbered) → IsFull start (newer ++ older) → IsFull start older
full_behind start [] older full = full
full_behind start (e ∷ newer) older full = full_behind start newer older full.0

fits_front : (start : Start) (newer older : List Numbered) → FitsLog flat start (newer ++ older) → FitsLog flat start older
fits_front start [] older fits = fits
fits_front start (e ∷ newer) older fits = fits_front start newer older fits.0

number_full : (start : Start) (log : List Numbered) → IsFull start log → last_number start log ≡ start.number + length log
number_full start [] full = omega arith
number_full start (e ∷ log) full = let own = full.1 in omega (arith, own)

-- on a start that has what the older entries left their numbers go on
full_on : (start next : Start) (newer older : List Numbered) → next.number ≡ start.number + length older → IsFull start (newer ++ older) → IsFull next newer
full_on start next [] older same full = tt
full_on start next (e ∷ newer) older same full =
    (full_on start next newer older same full.0, (let own = full.1 in let long = length-append newer older in omega (arith, own, long, same)))

on_later : (text : List ℕ) (conf : Conf) (moment : ℕ) (e : Entry) → 1 ≤ length text → FitsOn text conf moment e → FitsLater conf moment e
on_later [] conf moment e some fits = absurd (omega (arith, some))
on_later (byte ∷ text) conf moment e some fits = fits

later_on : (text : List ℕ) (conf : Conf) (moment : ℕ) (e : Entry) → 1 ≤ length text → FitsLater conf moment e → FitsOn text conf moment e
later_on [] conf moment e some fits = absurd (omega (arith, some))
later_on (byte ∷ text) conf moment e some fits = fits

-- and they fit
module _ (start next : Start) (older : List Numbered) (conf : next.stage.conf ≡ conf_behind flat start older) (moment : next.moment ≡ last_moment start older) (text : 1 ≤ length next.stage.conf.text) (begun : HasBegun start older) where
  same_conf : (newer : List Numbered) → conf_behind flat start (newer ++ older) ≡ conf_behind flat next newer
  same_conf [] = sym conf
  same_conf (e ∷ newer) = ap (λ (c : Conf). conf_with flat c e.entry) (same_conf newer)

  behind_older : (older : List Numbered) (e : Entry) (c : Conf) → HasBegun start older → FitsBehind c start older e → FitsLater c (last_moment start older) e
  behind_older [] e c has fits = on_later start.stage.conf.text c start.moment e (omega (arith, has)) fits
  behind_older (a ∷ older) e c has fits = fits

  first_on : (e : Entry) → FitsBehind (conf_behind flat start older) start older e → FitsBehind (conf_behind flat next []) next [] e
  first_on e fits =
      later_on next.stage.conf.text next.stage.conf next.moment e text
      (subst (λ (c : Conf). FitsLater c next.moment e) (sym conf)
      (subst (λ n. FitsLater (conf_behind flat start older) n e) (sym moment) (behind_older older e (conf_behind flat start older) begun fits)))

  next_on : (newer : List Numbered) (e : Entry) → FitsBehind (conf_behind flat start (newer ++ older)) start (newer ++ older) e → FitsBehind (conf_behind flat next newer) next newer e
  next_on [] e fits = first_on e fits
  next_on (a ∷ newer) e fits = subst (λ (c : Conf). FitsBehind c next (a ∷ newer) e) (same_conf (a ∷ newer)) fits

  fits_on : (newer : List Numbered) → FitsLog flat start (newer ++ older) → FitsLog flat next newer
  fits_on [] fits = tt
  fits_on (e ∷ newer) fits = (fits_on newer fits.0, next_on newer e.entry fits.1)

-- ---- the text in force is accepted

last_flat : (own : List ℕ) (log : List Numbered) → FlatLog log → (own ≢ [] → IsFlat own) → last_text own log ≢ [] → IsFlat (last_text own log)
last_flat own [] all first some = first some
last_flat own (e ∷ log) all first some = go e.entry all.0 (last_flat own log all.1 first) some
  where
    go : (entry : Entry) → FlatEntry entry → (last_text own log ≢ [] → IsFlat (last_text own log)) → text_with (last_text own log) entry ≢ [] → IsFlat (text_with (last_text own log) entry)
    go (Config now text) is before there = is
    go (Value now item time value) is before there = before there
    go (Tick now) is before there = before there

flat_all : (text : List ℕ) → IsFlat text → AreFlat text []
flat_all [] is = All-nil IsFlat
flat_all (byte ∷ text) is = All-cons IsFlat (byte ∷ text) [] is (All-nil IsFlat)

flat_more : (text : List ℕ) (newer : List Numbered) → IsFlat text → All IsFlat (config_texts newer) → AreFlat text newer
flat_more [] newer is all = all
flat_more (byte ∷ text) newer is all = All-cons IsFlat (byte ∷ text) (config_texts newer) is all

own_flat : (text : List ℕ) (entries : List Numbered) → AreFlat text entries → text ≢ [] → IsFlat text
own_flat [] entries all some = absurd (some refl)
own_flat (byte ∷ text) entries all some = All-head IsFlat (byte ∷ text) (config_texts entries) all

-- ---- what stands before entries on a base

module _ (base : Base) (good : IsGoodBase base) where
  abbrev before : Start
  before = start_of flat base

  -- its configuration is that of the base's text
  told : flat base.text ≡ before.stage.conf
  told = go base.text refl
    where
      go : (text : List ℕ) → base.text ≡ text → flat base.text ≡ before.stage.conf
      go [] same = ap flat same ∙ flat_nothing ∙ sym (ap (λ (s : Start). s.stage.conf) (start_none flat base same))
      go (byte ∷ text) same = sym (ap (λ (s : Start). s.stage.conf) (start_some flat base (some_of base.text byte text same)))

  regular : IsRegular before.stage.conf
  regular = subst IsRegular told (all_regular base.text)

  severe : HasSeverities before.stage.conf
  severe = subst HasSeverities told (all_severe base.text)

  -- it is dated, and a log whose numbers rise is a whole one on it
  dated_whole : (log : List Numbered) → IsRising before log → IsDated before base.last_tick × IsWhole flat before log
  dated_whole log rises = go base.text refl
    where
      on : Start → Type 0
      on s = IsDated s base.last_tick × IsWhole flat s log

      go : (text : List ℕ) → base.text ≡ text → on before
      go [] same =
          let none = start_none flat base same in
          let tick : base.last_tick ≡ None = ap (λ (b : Base). b.last_tick) (good.1.empty same) in
          subst on (sym none) (
            subst (IsDated nothing) (sym tick) (fresh_is_dated (first_stage no_conf)),
            whole_over_nothing flat log all_regular (subst (λ (s : Start). IsRising s log) none rises),
          )
      go (byte ∷ text) same =
          let some = some_of base.text byte text same in
          let its = start_some flat base some in
          subst on (sym its)
          (checkpoint_fits flat (flat base.text) base log all_regular (all_regular base.text) (good.1.fits some) (subst (λ (s : Start). IsRising s log) its rises))

-- ---- the law

module _ (base : Base) (older newer : List Numbered) (stand : StandOn base (older ++ newer)) (some : 1 ≤ length base.text + length older) where
  abbrev start : Start
  start = start_of flat base

  abbrev log : List Numbered
  log = log_of older

  abbrev more : List Numbered
  more = log_of newer

  abbrev state : Base
  state = state_of base older

  abbrev beside : Beside
  beside = beside_of base

  both : log_of (older ++ newer) ≡ more ++ log
  both = reverse-append older newer

  full : IsFull start (more ++ log)
  full = subst (IsFull start) both stand.full

  fits : FitsLog flat start (more ++ log)
  fits = subst (FitsLog flat start) both stand.fits

  older_full : IsFull start log
  older_full = full_behind start more log full

  older_fits : FitsLog flat start log
  older_fits = fits_front start more log fits

  ground : IsGround start
  ground = good_ground base stand.good

  begun : HasBegun start log
  begun =
      let text : length start.stage.conf.text ≡ length base.text = ap (λ (t : List ℕ). length t) (stands_of base stand.good).text in
      let long = length-reverse older in
      omega (arith, some, text, long)

  -- the texts of older and of newer configurations are accepted
  apart : texts_on base.text (older ++ newer) ≡ texts_on base.text older ++ config_texts newer
  apart =
      ap (λ (l : List (List ℕ)). option_to_list (text_in base.text) ++ l) (config_texts_append older newer)
      ∙ sym (append_assoc (option_to_list (text_in base.text)) (config_texts older) (config_texts newer))

  all_apart : All IsFlat (texts_on base.text older ++ config_texts newer)
  all_apart = subst (All IsFlat) apart stand.accepted

  older_flat : AreFlat base.text older
  older_flat = all_front IsFlat (texts_on base.text older) (config_texts newer) all_apart

  newer_flat : All IsFlat (config_texts newer)
  newer_flat = all_back IsFlat (texts_on base.text older) (config_texts newer) all_apart

  flat_log : FlatLog log
  flat_log = texts_flat older (all_back IsFlat (option_to_list (text_in base.text)) (config_texts older) older_flat)

  -- what the state tells
  state_text : state.text ≡ last_text base.text log
  state_text = ap (λ (b : Beside). b.text) (beside_back (beside_with beside log (whole_replay flat start log)) (left_by (point flat start log)))

  state_number : state.number ≡ start.number + length log
  unfolding base_at
  state_number = number_behind_all flat start log ∙ number_full start log older_full

  state_moment : state.now ≡ last_moment start log
  unfolding base_at
  state_moment = moment_behind_all flat start log

  there : 1 ≤ length state.text
  there =
      let long = length-reverse older in
      let has = text_there base start (stands_of base stand.good).text log older_fits flat_log (omega (arith, some, long)) in
      let same = ap (λ (t : List ℕ). length t) state_text in
      omega (arith, has, same)

  text_some : state.text ≢ []
  text_some none = let long = ap (λ (t : List ℕ). length t) none in omega (arith, there, long)

  text_flat : IsFlat state.text
  text_flat =
      subst IsFlat (sym state_text)
      (last_flat base.text log flat_log (own_flat base.text older older_flat) (λ none. text_some (state_text ∙ none)))

  own_text : (flat state.text).text ≡ state.text
  own_text = text_kept state.text (flat state.text) text_flat

  -- the start that it is
  in_force : flat state.text ≡ conf_after flat start log
  in_force = text_in_force flat beside start log (told base stand.good)

  its : start_of flat state ≡ start_after flat beside start log
  its = start_some flat state text_some ∙ ap (λ (c : Conf). told_start c state) in_force

  law : (whole_replay flat start (more ++ log) ≡ whole_replay flat start log ++ whole_replay flat (start_after flat beside start log) more)
      × (whole_base flat beside start (more ++ log) ≡ whole_base flat (beside_of state) (start_after flat beside start log) more)
      × IsWhole flat (start_after flat beside start log) more
      × SuitsWhole flat (start_after flat beside start log) more
  law = whole_law flat beside start more log (dated_whole base stand.good (more ++ log) (full_rises start (more ++ log) full)).1 (fits_suits flat start (more ++ log) ground fits)

  records : whole_replay flat start (log_of (older ++ newer)) ≡ whole_replay flat start log ++ whole_replay flat (start_of flat state) more
  records =
      ap (whole_replay flat start) both ∙ law.0
      ∙ ap (λ (s : Start). whole_replay flat start log ++ whole_replay flat s more) (sym its)

  states : state_of base (older ++ newer) ≡ state_of state newer
  states =
      ap (whole_base flat beside start) both ∙ law.1
      ∙ ap (λ (s : Start). whole_base flat (beside_of state) s more) (sym its)

  -- a run can begin with it
  module _ (number : state.number ≤ most_counted) (lines : state.lines ≤ most_counted) where
    fitting : FitsBase (flat state.text) state
    fitting =
        let first = dated_whole base stand.good log (full_rises start log older_full) in
        subst (λ (c : Conf). FitsBase c state) (sym in_force)
        (base_fits flat beside start log first.1 (fits_suits flat start log ground older_fits) all_severe (severe base stand.good) first.0 number lines)

    state_good : IsGoodBase state
    state_good = (
      flat_all state.text text_flat,
      record {
        empty = λ none. absurd (text_some none);
        text = λ is. own_text;
        fits = λ is. fitting;
      },
    )

    stands : StandOn state newer
    stands = record {
      good = state_good;
      accepted = flat_more state.text newer text_flat newer_flat;
      full = full_on start (start_of flat state) more log (ap (λ (s : Start). s.number) its ∙ state_number) full;
      fits = fits_on start (start_of flat state) log (ap (λ (s : Start). s.stage.conf) its ∙ conf_is_behind flat start log) (ap (λ (s : Start). s.moment) its ∙ state_moment) (let long = ap (λ (s : Start). length s.stage.conf.text) its in let conf = ap (λ (c : Conf). length c.text) in_force in let same = ap (λ (t : List ℕ). length t) own_text in omega (arith, there, long, conf, same)) begun more fits;
    }

pub copy_goes_on : CopyGoesOn
copy_goes_on base older newer stand some number lines = (records base older newer stand some, states base older newer stand some, stands base older newer stand some number lines)
