-- What follows behind a base is what follows behind the entries in whose place it stands.
use Rattle.std.proofs.Common.{◌≡◌, ◌≤◌, ◌<◌, ℕ, ◌+◌, Option, List, [], ◌∷◌, ◌++◌, length, map, reverse, refl, sym, ◌∙◌, ap, subst, append_assoc, append-nil, length-append, le_refl, arith}
use mathlib.Core.Path.{fun_ext}
use Rattle.std.specs.Option.{option_or}
use Rattle.std.proofs.lemmas.List.Concat.{flat_map-append}
use Rattle.zbx_types.specs.Entries.{moment_of}
use Rattle.zbx_types.specs.Ids.{ids_from}
use Rattle.zbx_types.specs.declared.base.Base.{Base}
use Rattle.zbx_types.specs.declared.base.BaseItem.{BaseItem}
use Rattle.zbx_types.specs.declared.conf.Conf.{Conf}
use Rattle.zbx_types.specs.declared.entries.Numbered.{Numbered}
use Rattle.zbx_types.specs.declared.entries.Rec.{Rec}
use Rattle.zbx_types.specs.declared.entries.Stored.{Stored}
use Rattle.prep_steps.specs.declared.memory.StepMemory.{StepMemory}
use Rattle.preprocess.specs.Draft.{visit_at, marks_after}
use Rattle.preprocess.specs.Ways.{memory_at}
use Rattle.event_text.specs.Lines.{line_of, lines_of}
use Rattle.value_cache.specs.Cells.{trim}
use Rattle.value_cache.specs.Keeps.{keep_of}
use Rattle.trigger_state.specs.Problems.{event_in, open_of}
use Rattle.trigger_state.specs.Stages.{Stage}
use Rattle.trigger_state.specs.declared.problems.Open.{Open}
use Rattle.trigger_state.specs.declared.stage.Origin.{Origin}
use Rattle.entry_step.specs.Behind.{behind}
use Rattle.entry_step.specs.Cells.{look}
use Rattle.entry_step.specs.Due.{by_making}
use Rattle.entry_step.specs.History.{visits_at, marks_of}
use Rattle.entry_step.specs.Log.{tick_of, tick_with, first_tick, last_moment, last_number, IsRising, Suits}
use Rattle.entry_step.specs.Records.{replay}
use Rattle.entry_step.specs.Start.{Start}
use Rattle.entry_laws.specs.Rising.{HaveOwnNames}
use Rattle.entry_step.proofs.Members.{each_from, in_map}
use Rattle.entry_laws.proofs.Behind.{moment_behind, history_behind, replay_behind, suits_behind}
use Rattle.base_laws.specs.Alike.{HasShortPeriods, unranked, IsOpen, AlikeOpens, AreAlike}
use Rattle.base_laws.specs.Bases.{told_value, told_step, told_problem, base_start, Beside, beside_of, last_tick, text_with, last_text, beside_with, told_item, told_problems, base_at, base_of}
use Rattle.base_laws.specs.Sound.{IsSound, BaseIsAlike, BaseIsSound, FollowsBase, CentralLaw}
use Rattle.base_laws.proofs.Absorbing.{map_over}
use Rattle.base_laws.proofs.Alike.{alike_logs}
use Rattle.base_laws.proofs.Opens.{Like, making_like}
use Rattle.base_laws.proofs.Retold.{homes_kept}
use Rattle.base_laws.proofs.Sound.{behind_is_sound}
use Rattle.base_laws.proofs.Told.{is_alike, is_sound}

-- The same is in force
module _ (beside : Beside) (start : Start) (log : List Numbered) (own : HaveOwnNames start.stage.conf.actions) (sound : IsSound start) (rising : IsRising start log) where
  left_sound : IsSound (behind start log)
  left_sound = behind_is_sound start log own sound rising

  pub same_alike : AreAlike (behind start log) (base_start start.stage (base_of beside start log))
  same_alike = is_alike (beside_with beside log (replay start log)) (behind start log) left_sound start.stage.origins left_sound.good.origins (homes_kept start.stage (start.records ++ replay start log)) (λ v w i j h. h)

  pub same_sound : IsSound (base_start start.stage (base_of beside start log))
  same_sound = is_sound (beside_with beside log (replay start log)) (behind start log) left_sound start.stage.origins left_sound.good.origins (homes_kept start.stage (start.records ++ replay start log)) (λ v w i j h. h)

pub base_is_alike : BaseIsAlike
base_is_alike beside start log own sound rising = same_alike beside start log own sound rising

pub base_is_sound : BaseIsSound
base_is_sound beside start log own sound rising = same_sound beside start log own sound rising

-- Over starts that are alike the base is the same
module _ (conf : Conf) (origins others : List Origin) (number : ℕ) (all rows : ℕ → List Open) (alike : AlikeOpens (record { conf = conf; origins = origins }) (record { conf = conf; origins = others }) number all rows) where
  like : Like conf origins others (IsOpen all) all rows
  like = record {
    same = alike.same;
    homes = alike.homes;
    homes_too = alike.homes_too;
    within = λ id. each_from (λ o. IsOpen all (event_in o)) (all id) (λ o i. (id, in_map event_in (all id) o i));
  }

  same_made : map unranked (by_making (record { conf = conf; origins = origins }) all) ≡ map unranked (by_making (record { conf = conf; origins = others }) rows)
  same_made = making_like conf origins others (IsOpen all) alike.order all rows like

pub making_alike : (stage other : Stage) (number : ℕ) (all rows : ℕ → List Open) → stage.conf ≡ other.conf → AlikeOpens stage other number all rows → map unranked (by_making stage all) ≡ map unranked (by_making other rows)
making_alike stage other number all rows same alike = subst Same same (λ kept. same_made stage.conf stage.origins other.origins number all rows kept) alike
  where
    Same : Conf → Type 0
    Same conf = AlikeOpens stage (record { conf = conf; origins = other.origins }) number all rows → map unranked (by_making stage all) ≡ map unranked (by_making (record { conf = conf; origins = other.origins }) rows)

module _ (one other : Start) (same : AreAlike one other) where
  same_item : (id : ℕ) → told_item one id ≡ told_item other id
  unfolding look marks_of
  same_item id =
      ap (λ xs. item_of xs (one.marks id)) ((same.cells.items id).kept one.moment (le_refl one.moment))
      ∙ ap (λ (conf : Conf). item_of (trim (keep_of conf id) one.moment (other.histories id)) (one.marks id)) same.conf
      ∙ ap (λ now. item_of (trim (keep_of other.stage.conf id) now (other.histories id)) (one.marks id)) same.moment
      ∙ ap (item_of (trim (keep_of other.stage.conf id) other.moment (other.histories id))) (same.cells.items id).marks
    where
      item_of : List Stored → List StepMemory → BaseItem
      item_of kept marks = record { values = map told_value (reverse kept); steps = map told_step marks }

  same_items : map (told_item one) (ids_from 1 one.stage.conf.items) ≡ map (told_item other) (ids_from 1 other.stage.conf.items)
  same_items =
      ap (λ (f : ℕ → BaseItem). map f (ids_from 1 one.stage.conf.items)) (fun_ext same_item)
      ∙ ap (λ (conf : Conf). map (told_item other) (ids_from 1 conf.items)) same.conf

  same_problems : told_problems one ≡ told_problems other
  unfolding look
  same_problems =
      sym (map_over told_problem unranked (by_making one.stage (open_of one.stage one.records)))
      ∙ ap (map told_problem) (making_alike one.stage other.stage one.number (open_of one.stage one.records) (open_of other.stage other.records) same.conf
      (record { same = same.cells.opens.same; homes = same.cells.opens.homes; homes_too = same.cells.opens.homes_too; upto = same.cells.opens.upto; order = same.cells.opens.order }))
      ∙ map_over told_problem unranked (by_making other.stage (open_of other.stage other.records))

  same_tick : one.tick ≡ other.tick
  unfolding look
  same_tick = same.cells.tick

  pub same_base : (beside : Beside) → base_at beside one ≡ base_at beside other
  unfolding base_at
  same_base beside = λ i. record {
    number = same.number i;
    now = same.moment i;
    first_tick = same_tick i;
    last_tick = beside.tick;
    lines = beside.lines;
    text = beside.text;
    items = same_items i;
    problems = same_problems i;
  }

-- What a log leaves behind what an older one left is what both leave
number_behind : (start : Start) (newer older : List Numbered) → last_number (behind start older) newer ≡ last_number start (newer ++ older)
number_behind start [] older = refl
number_behind start (e ∷ newer) older = refl

tick_behind : (start : Start) (newer older : List Numbered) → first_tick (behind start older) newer ≡ first_tick start (newer ++ older)
tick_behind start [] older = refl
tick_behind start (e ∷ newer) older = ap (λ t. tick_with t e.entry) (tick_behind start newer older)

marks_behind : (start : Start) (newer older : List Numbered) → marks_of (behind start older) newer ≡ marks_of start (newer ++ older)
unfolding marks_of
marks_behind start [] older = fun_ext (λ id. refl)
marks_behind start (e ∷ newer) older = fun_ext (λ id.
    ap (λ (m : ℕ → List StepMemory). marks_after (visit_at (visits_at start.stage.conf (λ i k. memory_at (m i) k) e.number e.entry) id) (m id)) (marks_behind start newer older))

pub behind_both : (start : Start) (newer older : List Numbered) → behind (behind start older) newer ≡ behind start (newer ++ older)
behind_both start newer older = λ i. record {
  stage = start.stage;
  number = number_behind start newer older i;
  moment = moment_behind start newer older i;
  tick = tick_behind start newer older i;
  histories = history_behind start newer older i;
  marks = marks_behind start newer older i;
  records = records i;
}
  where
    records : (start.records ++ replay start older) ++ replay (behind start older) newer ≡ start.records ++ replay start (newer ++ older)
    records = append_assoc start.records (replay start older) (replay (behind start older) newer) ∙ ap (λ rs. start.records ++ rs) (sym (replay_behind start newer older))

pub behind_nothing : (start : Start) → behind start [] ≡ start
unfolding marks_of
behind_nothing start = ap (λ (rs : List Rec). record (behind start []) { records = rs }) (append-nil start.records)

-- What is told beside
text_both : (text : List ℕ) (newer older : List Numbered) → last_text text (newer ++ older) ≡ last_text (last_text text older) newer
text_both text [] older = refl
text_both text (e ∷ newer) older = ap (λ t. text_with t e.entry) (text_both text newer older)

tick_both : (tick : Option ℕ) (newer older : List Numbered) → last_tick tick (newer ++ older) ≡ last_tick (last_tick tick older) newer
tick_both tick [] older = refl
tick_both tick (e ∷ newer) older = ap (option_or (tick_of e.entry)) (tick_both tick newer older)

lines_both : (bytes : ℕ) (xs ys : List Rec) → bytes + length (lines_of (xs ++ ys)) ≡ (bytes + length (lines_of xs)) + length (lines_of ys)
lines_both bytes xs ys =
    let q : length (lines_of (xs ++ ys)) ≡ length (lines_of xs) + length (lines_of ys) = ap length (flat_map-append line_of xs ys) ∙ length-append (lines_of xs) (lines_of ys) in
    omega (arith, q)

pub beside_both : (beside : Beside) (newer older : List Numbered) (xs ys : List Rec) → beside_with beside (newer ++ older) (xs ++ ys) ≡ beside_with (beside_with beside older xs) newer ys
beside_both beside newer older xs ys = λ i. record {
  lines = lines_both beside.lines xs ys i;
  text = text_both beside.text newer older i;
  tick = tick_both beside.tick newer older i;
}

pub beside_back : (beside : Beside) (start : Start) → beside_of (base_at beside start) ≡ beside
unfolding base_at
beside_back beside start = refl

-- Numbers that rise behind a log
pub rises_behind : (start : Start) (newer older : List Numbered) → IsRising start (newer ++ older) → IsRising (behind start older) newer
rises_behind start [] older rising = tt
rises_behind start (e ∷ newer) older rising = (subst (λ n. n < e.number) (sym (number_behind start newer older)) rising.0, rises_behind start newer older rising.1)

pub rises_before : (start : Start) (newer older : List Numbered) → IsRising start (newer ++ older) → IsRising start older
rises_before start [] older rising = rising
rises_before start (e ∷ newer) older rising = rises_before start newer older rising.1

module _ (beside : Beside) (start : Start) (newer older : List Numbered) (own : HaveOwnNames start.stage.conf.actions) (short : HasShortPeriods start.stage.conf) (sound : IsSound start) (rising : IsRising start (newer ++ older)) (suits : Suits start (newer ++ older)) where
  abbrev base : Base
  base = base_of beside start older

  abbrev on_base : Start
  on_base = base_start start.stage base

  both : (replay (behind start older) newer ≡ replay on_base newer) × AreAlike (behind (behind start older) newer) (behind on_base newer)
  both = alike_logs (behind start older) on_base newer short (same_alike beside start older own sound (rises_before start newer older rising)) (rises_behind start newer older rising) (suits_behind start newer older suits)

  pub same_replay : replay start (newer ++ older) ≡ replay start older ++ replay on_base newer
  same_replay = replay_behind start newer older ∙ ap (λ rs. replay start older ++ rs) both.0

  pub same_again : base_of beside start (newer ++ older) ≡ base_of (beside_of base) on_base newer
  same_again =
      ap (λ rs. base_at (beside_with beside (newer ++ older) rs) (behind start (newer ++ older))) same_replay
      ∙ ap (λ b. base_at b (behind start (newer ++ older))) (beside_both beside newer older (replay start older) (replay on_base newer))
      ∙ ap (base_at (beside_with (beside_with beside older (replay start older)) newer (replay on_base newer))) (sym (behind_both start newer older))
      ∙ same_base (behind (behind start older) newer) (behind on_base newer) both.1 (beside_with (beside_with beside older (replay start older)) newer (replay on_base newer))
      ∙ ap (λ b. base_at (beside_with b newer (replay on_base newer)) (behind on_base newer)) (sym (beside_back (beside_with beside older (replay start older)) (behind start older)))

pub central_law : CentralLaw
central_law beside start newer older own short sound rising suits =
    (same_replay beside start newer older own short sound rising suits, same_again beside start newer older own short sound rising suits)

-- what follows the entries follows their base
pub follows_base : FollowsBase
unfolding base_at
follows_base beside start newer older rising suits = (rises newer rising, suited newer suits)
  where
    on_base : Start
    on_base = base_start start.stage (base_of beside start older)

    rises : (newer : List Numbered) → IsRising start (newer ++ older) → IsRising on_base newer
    rises [] r = tt
    rises (e ∷ newer) r = (subst (λ n. n < e.number) (sym (number newer)) r.0, rises newer r.1)
      where
        number : (more : List Numbered) → last_number on_base more ≡ last_number start (more ++ older)
        number [] = refl
        number (x ∷ more) = refl

    suited : (newer : List Numbered) → Suits start (newer ++ older) → Suits on_base newer
    suited [] s = tt
    suited (e ∷ newer) s = (suited newer s.0, subst (λ m. m ≤ moment_of e.entry) (sym (moment newer)) s.1, s.2)
      where
        moment : (more : List Numbered) → last_moment on_base more ≡ last_moment start (more ++ older)
        moment [] = refl
        moment (x ∷ more) = refl
