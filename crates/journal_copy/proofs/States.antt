-- Laws of the state of what a journal keeps.
use Rattle.std.proofs.Common.{◌≡◌, ◌+◌, List, [], ◌∷◌, ◌++◌, length, All, refl, sym, ap, ◌∙◌, subst, append-nil}
use Rattle.std.specs.Prelude.{min, option_to_list}
use Rattle.std.proofs.lemmas.List.{reverse-append}
use Rattle.std.proofs.lemmas.List.Elements.{All-head}
use Rattle.zbx_types.specs.declared.base.Base.{Base}
use Rattle.zbx_types.specs.declared.conf.Conf.{Conf}
use Rattle.zbx_types.specs.declared.entries.Entry.{Entry}
use Rattle.zbx_types.specs.declared.entries.Entry.TheVariants.{Config, Value, Tick}
use Rattle.zbx_types.specs.declared.entries.Numbered.{Numbered}
use Rattle.event_text.specs.Lines.{lines_of}
use Rattle.trigger_state.specs.Stages.{Stage}
use Rattle.entry_step.specs.Cells.{Cells, TickKey, AreCellsOf, look}
use Rattle.entry_step.specs.Log.{log_of, last_moment, last_number, moment_from}
use Rattle.entry_step.specs.Represents.{CellsView, Holds}
use Rattle.entry_step.specs.Start.{Start}
use Rattle.entry_step.specs.Whole.{point, whole_replay}
use Rattle.entry_laws.specs.InForce.{conf_behind, conf_with, config_texts, texts_of, left_by, text_in}
use Rattle.entry_laws.proofs.InForce.{conf_is_behind, holds_behind_all, moment_behind_all, number_behind_all}
use Rattle.base_laws.specs.Bases.{Beside, beside_of, beside_with, base_at, last_text, text_with}
use Rattle.base_state.specs.Telling.{EndsAt, IsBaseOf}
use Rattle.base_state.specs.declared.place.Place.{Place}
use Rattle.base_laws.specs.Grounds.{start_of}
use Rattle.book_opening.specs.Opening.{IsReached}
use Rattle.book_opening.specs.Tally.{tally_of}
use Rattle.book_opening.specs.declared.kept.Reached.{Reached}
use Rattle.journal_opening.specs.Replayed.{flat, IsFlat}
use Rattle.journal_opening.proofs.Bases.{good_ground, stands_of}
use Rattle.journal_opening.proofs.Judging.{all_back, all_front}
use Rattle.journal_opening.proofs.Texts.{text_kept}
use Rattle.journal_copy.specs.Places.{number_from, place_of}
use Rattle.journal_copy.specs.State.{AreKept, counted, state_of}
use Rattle.journal_copy.proofs.Keeping.{kept_fits, kept_flat, kept_good}

-- ---- the text in force

-- the text of an entry is accepted, where it is a Config
abbrev pub FlatEntry : Entry → Type 0
FlatEntry (Config now text) = IsFlat text
FlatEntry (Value now item time value) = Unit {0}
FlatEntry (Tick now) = Unit {0}

abbrev pub FlatLog : List Numbered → Type 0
FlatLog [] = Unit {0}
FlatLog (e ∷ log) = FlatEntry e.entry × FlatLog log

both_flat : (xs ys : List Numbered) → FlatLog xs → FlatLog ys → FlatLog (xs ++ ys)
both_flat [] ys one other = other
both_flat (x ∷ xs) ys one other = (one.0, both_flat xs ys one.1 other)

entry_flat : (entry : Entry) → All IsFlat (texts_of entry) → FlatEntry entry
entry_flat (Config now text) all = All-head IsFlat text [] all
entry_flat (Value now item time value) all = tt
entry_flat (Tick now) all = tt

pub texts_flat : (entries : List Numbered) → All IsFlat (config_texts entries) → FlatLog (log_of entries)
texts_flat [] all = tt
texts_flat (e ∷ entries) all =
    subst FlatLog (sym (reverse-append (e ∷ []) entries))
    (both_flat (log_of entries) (e ∷ []) (texts_flat entries (all_back IsFlat (texts_of e.entry) (config_texts entries) all))
    (entry_flat e.entry (all_front IsFlat (texts_of e.entry) (config_texts entries) all), tt))

pub kept_texts : (base : Base) (entries : List Numbered) → AreKept base entries → FlatLog (log_of entries)
kept_texts base entries k = texts_flat entries (all_back IsFlat (option_to_list (text_in base.text)) (config_texts entries) (kept_flat base entries k))

-- it is that of the last Config, or the base's
text_behind : (base : Base) (start : Start) (log : List Numbered) → start.stage.conf.text ≡ base.text → FlatLog log → (conf_behind flat start log).text ≡ last_text base.text log
text_behind base start [] same all = same
text_behind base start (e ∷ log) same all = go e.entry all.0 (text_behind base start log same all.1)
  where
    go : (entry : Entry) → FlatEntry entry → (conf_behind flat start log).text ≡ last_text base.text log → (conf_with flat (conf_behind flat start log) entry).text ≡ text_with (last_text base.text log) entry
    go (Config now text) is ih = text_kept text (flat text) is
    go (Value now item time value) is ih = ih
    go (Tick now) is ih = ih

-- ---- where the entries end

number_on : (base : Base) (start : Start) (log : List Numbered) → start.number ≡ base.number → number_from base.number log ≡ last_number start log
number_on base start [] same = sym same
number_on base start (e ∷ log) same = refl

moment_on : (base : Base) (start : Start) (log : List Numbered) → start.moment ≡ base.now → moment_from base.now log ≡ last_moment start log
moment_on base start [] same = sym same
moment_on base start (e ∷ log) same = refl

-- the first Tick is the one that is held
tick_held : (start : Start) (held : CellsView) → Holds start held [] → held.tick ≡ start.tick
unfolding AreCellsOf look
tick_held start held holds = holds.represented.tick ∙ ap (λ (c : Cells). c TickKey) (holds.stand ∙ ap (look start []) (append-nil start.records))

bytes_of : (base : Base) (entries : List Numbered) (r : Reached) → IsReached flat base (log_of entries) r
    → r.tally.bytes ≡ min (base.lines + length (lines_of (whole_replay flat (start_of flat base) (log_of entries)))) 18446744073709551615
unfolding tally_of
bytes_of base entries r is = ap (λ t. t.bytes) is.tally

module _ (base : Base) (entries : List Numbered) (r : Reached) (k : AreKept base entries) (is : IsReached flat base (log_of entries) r) where
  abbrev start : Start
  start = start_of flat base

  abbrev log : List Numbered
  log = log_of entries

  abbrev left : Start
  left = left_by (point flat start log)

  -- what is told beside it, with the bytes as they are counted
  abbrev beside : Beside
  beside = record (beside_with (beside_of base) log (whole_replay flat start log)) { lines = r.tally.bytes }

  in_force : r.present.ready.conf.text ≡ last_text base.text log
  in_force =
      ap (λ (s : Stage). s.conf.text) is.present.stage ∙ ap (λ (c : Conf). c.text) (conf_is_behind flat start log)
      ∙ text_behind base start log (stands_of base (kept_good base entries k)).text
      (kept_texts base entries k)

  held : Holds left r.present.cells []
  held = holds_behind_all flat start log r.present.cells (good_ground base (kept_good base entries k)) (kept_fits base entries k) is.present.cells

  ends : (at : Place) → at ≡ place_of base entries r.present.cells.tick r.tally.bytes → EndsAt beside left r.present.ready.conf.text at
  ends at place = subst (EndsAt beside left r.present.ready.conf.text) (sym place) (record {
    number = number_on base start log (stands_of base (kept_good base entries k)).number ∙ sym (number_behind_all flat start log);
    now = moment_on base start log (stands_of base (kept_good base entries k)).moment ∙ sym (moment_behind_all flat start log);
    first = tick_held left r.present.cells held;
    last = refl;
    lines = refl;
    text = in_force;
  })

  same_state : base_at beside left ≡ counted (state_of base entries)
  unfolding base_at
  same_state = ap (λ n. record (base_at (beside_with (beside_of base) log (whole_replay flat start log)) left) { lines = n }) (bytes_of base entries r is)

  -- the base of what was reached is the journal's state
  pub state_is : (at : Place) (made : Base) → at ≡ place_of base entries r.present.cells.tick r.tally.bytes → IsBaseOf r.present.ready r.present.cells at made → made ≡ counted (state_of base entries)
  unfolding IsBaseOf
  state_is at made place told = told beside left (sym is.present.stage) held (ends at place) ∙ same_state
