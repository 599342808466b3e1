-- Over cells that are alike an entry makes the same, and leaves cells that are alike.
use Rattle.std.proofs.Common.{◌≡◌, ◌≤◌, ◌<◌, ◌==◌, ℕ, suc, ◌&&◌, ◌⊎◌, inl, inr, not, false, cond, Option, Some, None, List, [], ◌∷◌, ◌++◌, length, map, filter, reverse, get_or, slice_get, refl, sym, ◌∙◌, ap, ap₂, subst, le_trans, append_assoc, append-nil, ne_eqb, arith, ℤ, option_and_then}
use mathlib.Core.Path.{fun_ext}
use Rattle.std.specs.List.{find}
use Rattle.zbx_types.specs.Entries.{moment_of}
use Rattle.zbx_types.specs.Ids.{at_id}
use Rattle.zbx_types.specs.Masters.{depth_of}
use Rattle.zbx_types.specs.Records.{same_event}
use Rattle.zbx_types.specs.declared.calls.Call.{Call}
use Rattle.zbx_types.specs.declared.calls.Range.TheVariants.{Count}
use Rattle.zbx_types.specs.declared.conf.Conf.{Conf}
use Rattle.zbx_types.specs.declared.entries.Entry.{Entry}
use Rattle.zbx_types.specs.declared.entries.EventId.{EventId}
use Rattle.zbx_types.specs.declared.entries.Held.{Held}
use Rattle.zbx_types.specs.declared.entries.Numbered.{Numbered}
use Rattle.zbx_types.specs.declared.entries.Rec.{Rec}
use Rattle.zbx_types.specs.declared.entries.Stored.{Stored}
use Rattle.zbx_types.specs.declared.triggers.Trigger.{Trigger}
use Rattle.prep_steps.specs.declared.memory.StepMemory.{StepMemory}
use Rattle.preprocess.specs.Ways.{memory_at}
use Rattle.preprocess.specs.Draft.{visit_at, marks_after}
use Rattle.history_functions.specs.Functions.{value_of}
use Rattle.value_cache.specs.Cells.{trim}
use Rattle.value_cache.specs.Histories.{IsOrdered}
use Rattle.value_cache.specs.Keeps.{keep_of}
use Rattle.value_cache.specs.Windows.{window_of}
use Rattle.value_cache.specs.declared.keeping.Keep.{Keep}
use Rattle.value_cache.proofs.KeepLemmas.{asks_within}
use Rattle.value_cache.proofs.Orders.{ordered_placed}
use Rattle.value_cache.proofs.Pruning.{same_seen, stands_placed}
use Rattle.trigger_state.specs.Stages.{Stage, OwnsEvents, origin_of, rank_by, rank_of}
use Rattle.trigger_state.specs.Problems.{event_in, grown}
use Rattle.trigger_state.specs.declared.problems.Open.{Open}
use Rattle.trigger_state.specs.declared.stage.Origin.{Origin}
use Rattle.entry_step.specs.Behind.{behind}
use Rattle.entry_step.specs.Cells.{ItemKey, TickKey, Cells, opens_in, memory_in, item_after, histories_after, judged_at, records_at, records, after, look}
use Rattle.entry_step.specs.Due.{due_at}
use Rattle.entry_step.specs.Each.{Each}
use Rattle.entry_step.specs.Evaluation.{call_value}
use Rattle.entry_step.specs.History.{visits_at, stored_of, marks_of, with_stored}
use Rattle.entry_step.specs.Log.{tick_with, last_number, last_moment, IsRising, Suits}
use Rattle.entry_step.specs.Occasions.{occasion_of}
use Rattle.entry_step.specs.Records.{records_by, judged_by, evaluated, phase, triggers_at, failures_at, out_of, replay}
use Rattle.entry_step.specs.Seen.{first_held, latest_in, shown_values, Seen, seen_in}
use Rattle.entry_step.specs.Start.{Start}
use Rattle.entry_step.proofs.Members.{each_append, each_at, each_from, each_kept, each_map, each_sub, in_map, map_cong}
use Rattle.entry_step.proofs.Owning.{own_home}
use Rattle.entry_step.proofs.Represented.{records_are, after_is}
use Rattle.entry_step.proofs.Showing.{items_in, within_at}
use Rattle.entry_laws.proofs.Runs.{failures_plain}
use Rattle.base_laws.specs.Alike.{HasShortPeriods, AreUpTo, IsMadeBefore, IsOpen, AlikeOpens, AlikeItem, AlikeCells, AreAlike, AlikeEntry, AlikeLogs}
use Rattle.base_laws.proofs.Numbers.{OfEntry, plain_of, due_of}
use Rattle.base_laws.proofs.Opens.{Like, grown_like, due_like, phase_like, phase_of_entry}

-- What a trigger sees of histories of which the same is kept
each_place : (xs : List ℕ) (P : ℕ → Type 0) → ((k : ℕ) → k < length xs → P (get_or xs k 0)) → Each P xs
each_place [] P h = tt
each_place (x ∷ xs) P h = (h 0 (omega arith), each_place xs P (λ k l. h (suc k) (omega arith)))

module _ (conf : Conf) (short : HasShortPeriods conf) (tick : Option ℕ) (number : ℕ) (entry : Entry) (a b : ℕ → List Stored)
    (orders : (i : ℕ) → IsOrdered (a i)) (too : (i : ℕ) → IsOrdered (b i)) (kept : (i : ℕ) → trim (keep_of conf i) (moment_of entry) (a i) ≡ trim (keep_of conf i) (moment_of entry) (b i))
    (id : ℕ) (trigger : Trigger) (there : at_id conf.triggers id ≡ Some trigger) where
  same_calls : (place : ℕ) → call_value a (occasion_of tick number entry) conf.utc_offset trigger place ≡ call_value b (occasion_of tick number entry) conf.utc_offset trigger place
  unfolding call_value
  same_calls place = go (slice_get trigger.calls place) (slice_get trigger.call_items place) refl refl
    where
      value : Call → List Stored → Option ℤ
      value call history = value_of call (window_of call.range call.shift (moment_of entry) history) (moment_of entry) (tick_with tick entry) conf.utc_offset

      go : (c : Option Call) (i : Option ℕ) → slice_get trigger.calls place ≡ c → slice_get trigger.call_items place ≡ i → option_and_then (λ c. option_and_then (λ item. value c (a item)) i) c ≡ option_and_then (λ c. option_and_then (λ item. value c (b item)) i) c
      go None i p q = refl
      go (Some call) None p q = refl
      go (Some call) (Some item) p q =
          let within = (asks_within conf id place item trigger call there p q).1 (short id place trigger call there p) in
          ap (λ w. value_of call (reverse w) (moment_of entry) (tick_with tick entry) conf.utc_offset) (same_seen (keep_of conf item) (moment_of entry) call.range call.shift (a item) (b item) (orders item) (too item) within (kept item))

  same_shown : shown_values a (moment_of entry) trigger ≡ shown_values b (moment_of entry) trigger
  unfolding shown_values
  same_shown =
      map_cong (λ item. latest_in (moment_of entry) (a item)) (λ item. latest_in (moment_of entry) (b item)) (filter (λ item. not (item == 0)) (items_in trigger))
      (λ item i. each_at Same (filter (λ item. not (item == 0)) (items_in trigger)) (each_kept Same (λ item. not (item == 0)) (items_in trigger) (each_place (items_in trigger) Same one)) item i)
    where
      Same : ℕ → Type 0
      Same item = latest_in (moment_of entry) (a item) ≡ latest_in (moment_of entry) (b item)

      one : (k : ℕ) → k < length (items_in trigger) → Same (get_or (items_in trigger) k 0)
      one k l =
          let item : ℕ = get_or (items_in trigger) k 0 in
          ap (λ w. first_held (reverse w)) (same_seen (keep_of conf item) (moment_of entry) (Count 1) 0 (a item) (b item) (orders item) (too item) (within_at conf id k item trigger asks_within there l refl) (kept item))

  pub same_sight : seen_in a (occasion_of tick number entry) conf.utc_offset trigger ≡ seen_in b (occasion_of tick number entry) conf.utc_offset trigger
  same_sight =
      let make : (ℕ → Option ℤ) → List (Option Held) → Seen = λ calls values. record { calls = calls; values = values } in
      ap (λ calls. make calls (shown_values a (moment_of entry) trigger)) (fun_ext same_calls) ∙ ap (make (call_value b (occasion_of tick number entry) conf.utc_offset trigger)) same_shown

-- Histories with one more value
pub ordered_with : (s : Option Stored) (h : List Stored) → IsOrdered h → IsOrdered (with_stored s h)
ordered_with None h o = o
ordered_with (Some s) h o = ordered_placed s h o

kept_with : (keep : Keep) (s : Option Stored) (now later : ℕ) (v h : List Stored) → IsOrdered v → IsOrdered h → now ≤ later → ((t : ℕ) → now ≤ t → trim keep t v ≡ trim keep t h)
    → (t : ℕ) → later ≤ t → trim keep t (with_stored s v) ≡ trim keep t (with_stored s h)
kept_with keep None now later v h o p l k t m = k t (le_trans l m)
kept_with keep (Some s) now later v h o p l k t m = stands_placed keep v s now later h o l p k t m

-- Events of an entry have no origin elsewhere
no_origin : (m : ℕ) (origins : List Origin) (v : EventId) → m < v.number → Each (λ (o : Origin). o.event.number ≤ m) origins → origin_of origins v ≡ None
no_origin m [] v l e = refl
no_origin m (o ∷ origins) v l e =
    let up = e.0 in let apart : (o.event.number == v.number) ≡ false = ne_eqb o.event.number v.number (λ q. absurd (omega arith)) in
    ap (λ b. cond (b && (o.event.trigger == v.trigger)) (Some o) (find (λ (x : Origin). same_event x.event v) origins)) apart ∙ no_origin m origins v l e.1

own_rank : (stage : Stage) (m : ℕ) (v : EventId) → m < v.number → AreUpTo m stage → rank_of stage v ≡ depth_of stage.conf v.trigger
own_rank stage m v l e = ap (rank_by stage.conf v) (no_origin m stage.origins v l e)

pub open_is : (P : EventId → Type 0) (all : ℕ → List Open) → ((id : ℕ) → Each (λ o. P (event_in o)) (all id)) → (v : EventId) → IsOpen all v → P v
open_is P all h v i = each_at P (map event_in (all i.0)) (each_map P event_in (all i.0) (h i.0)) v i.1

-- One entry, where one configuration is in force
module _ (conf : Conf) (origins others : List Origin) (e : Numbered) (number now : ℕ) (c d : Cells) (short : HasShortPeriods conf) (later : number < e.number) (late : now ≤ moment_of e.entry)
    (alike : AlikeCells (record { conf = conf; origins = origins }) (record { conf = conf; origins = others }) number now c d) where
  abbrev one : Stage
  one = record { conf = conf; origins = origins }

  abbrev two : Stage
  two = record { conf = conf; origins = others }

  same_memory : memory_in c ≡ memory_in d
  same_memory = fun_ext (λ i. ap (λ marks k. memory_at marks k) (alike.items i).marks)

  items_alike : (i : ℕ) → AlikeItem (keep_of conf i) (moment_of e.entry) (item_after conf (memory_in c) e.number e.entry i (c (ItemKey i))) (item_after conf (memory_in d) e.number e.entry i (d (ItemKey i)))
  unfolding item_after
  items_alike i = record {
    marks = ap (λ memory. marks_after (visit_at (visits_at conf memory e.number e.entry) i) (c (ItemKey i)).marks) same_memory
        ∙ ap (marks_after (visit_at (visits_at conf (memory_in d) e.number e.entry) i)) (alike.items i).marks;
    ordered = ordered_with (stored_of conf (memory_in c) e.number e.entry i) (c (ItemKey i)).history (alike.items i).ordered;
    ordered_too = ordered_with (stored_of conf (memory_in d) e.number e.entry i) (d (ItemKey i)).history (alike.items i).ordered_too;
    kept = λ later l. ap (λ memory. trim (keep_of conf i) later (with_stored (stored_of conf memory e.number e.entry i) (c (ItemKey i)).history)) same_memory
        ∙ kept_with (keep_of conf i) (stored_of conf (memory_in d) e.number e.entry i) now (moment_of e.entry) (c (ItemKey i)).history (d (ItemKey i)).history (alike.items i).ordered (alike.items i).ordered_too late (alike.items i).kept later l;
  }

  -- the events that are open before it, and its own
  abbrev Known : EventId → Type 0
  Known v = IsOpen (opens_in c) v ⊎ (v.number ≡ e.number)

  own : OwnsEvents one e.number
  own = own_home one number e.number later alike.origins

  own_too : OwnsEvents two e.number
  own_too = own_home two number e.number later alike.origins_too

  new_order : (v w : EventId) → v.number ≡ e.number → w.number ≡ e.number → IsMadeBefore one v w → IsMadeBefore two v w
  new_order v w n m h =
      let above_v : number < v.number = omega arith in
      let above_w : number < w.number = omega arith in
      subst (λ (a : ℕ). By a (rank_of two w)) (own_rank one number v above_v alike.origins ∙ sym (own_rank two number v above_v alike.origins_too))
      (subst (λ (b : ℕ). By (rank_of one v) b) (own_rank one number w above_w alike.origins ∙ sym (own_rank two number w above_w alike.origins_too)) h)
    where
      By : ℕ → ℕ → Type 0
      By a b = (v.number < w.number) ⊎ ((v.number ≡ w.number) × ((a < b) ⊎ ((a ≡ b) × (v.trigger ≤ w.trigger))))

  agree : (v w : EventId) → Known v → Known w → IsMadeBefore one v w → IsMadeBefore two v w
  agree v w (inl i) (inl j) h = alike.opens.order v w i j h
  agree v w (inl i) (inr m) h = let l = alike.opens.upto v i in inl (omega arith)
  agree v w (inr n) (inl j) (inl l) = let k = alike.opens.upto w j in absurd (omega arith)
  agree v w (inr n) (inl j) (inr h) = let q = h.0 in let k = alike.opens.upto w j in absurd (omega arith)
  agree v w (inr n) (inr m) h = new_order v w n m h

  opens_like : Like conf origins others Known (opens_in c) (opens_in d)
  opens_like = record {
    same = alike.opens.same;
    homes = alike.opens.homes;
    homes_too = alike.opens.homes_too;
    within = λ id. each_from (λ o. Known (event_in o)) (opens_in c id) (λ o i. inl (id, in_map event_in (opens_in c id) o i));
  }

  -- what triggers see
  same_sights : (tick : Option ℕ) → evaluated two (occasion_of tick e.number e.entry) (histories_after conf c e.number e.entry) ≡ evaluated two (occasion_of tick e.number e.entry) (histories_after conf d e.number e.entry)
  unfolding evaluated
  same_sights tick = fun_ext (λ all. fun_ext (λ id. go all id (at_id conf.triggers id) refl))
    where
      a : ℕ → List Stored
      a = histories_after conf c e.number e.entry

      b : ℕ → List Stored
      b = histories_after conf d e.number e.entry

      kept : (i : ℕ) → trim (keep_of conf i) (moment_of e.entry) (a i) ≡ trim (keep_of conf i) (moment_of e.entry) (b i)
      kept i = (items_alike i).kept (moment_of e.entry) (omega arith)

      go : (all : ℕ → List Open) (id : ℕ) (t : Option Trigger) → at_id conf.triggers id ≡ t → records_by two (occasion_of tick e.number e.entry) a all id t ≡ records_by two (occasion_of tick e.number e.entry) b all id t
      go all id None q = refl
      go all id (Some trigger) there =
          ap (λ sight. judged_by two (occasion_of tick e.number e.entry) sight all id trigger)
          (same_sight conf short tick e.number e.entry a b (λ i. (items_alike i).ordered) (λ i. (items_alike i).ordered_too) kept id trigger there)

  same_judged : judged_at one c e.number e.entry ≡ judged_at two d e.number e.entry
  unfolding judged_at
  same_judged =
      ap (λ rs. failures_at conf (memory_in c) e.number e.entry ++ rs)
      (phase_like conf origins others Known agree (c TickKey) e.number e.entry (histories_after conf c e.number e.entry) own own_too (λ v n. inr n) (triggers_at conf (memory_in c) e.number e.entry) (opens_in c) (opens_in d) opens_like)
      ∙ ap (λ tick. judged (memory_in c) (evaluated two (occasion_of tick e.number e.entry) (histories_after conf c e.number e.entry))) alike.tick
      ∙ ap (judged (memory_in c)) (same_sights (d TickKey))
      ∙ ap (λ memory. judged memory (evaluated two (occasion_of (d TickKey) e.number e.entry) (histories_after conf d e.number e.entry))) same_memory
    where
      judged : (ℕ → ℕ → StepMemory) → ((ℕ → List Open) → ℕ → List Rec) → List Rec
      judged memory one_by_one = failures_at conf memory e.number e.entry ++ phase two one_by_one (opens_in d) (triggers_at conf memory e.number e.entry)

  judged_of_entry : Each (OfEntry e.number) (judged_at one c e.number e.entry)
  unfolding judged_at
  judged_of_entry =
      each_append (OfEntry e.number) (failures_at conf (memory_in c) e.number e.entry) _
      (plain_of e.number (failures_at conf (memory_in c) e.number e.entry) (failures_plain conf (memory_in c) e.number e.entry))
      (phase_of_entry conf origins others Known (c TickKey) e.number e.entry (histories_after conf c e.number e.entry) (triggers_at conf (memory_in c) e.number e.entry) (opens_in c))

  behind_judged : Like conf origins others Known (grown one (opens_in c) (judged_at one c e.number e.entry)) (grown two (opens_in d) (judged_at one c e.number e.entry))
  behind_judged = grown_like conf origins others Known e.number own own_too (λ v n. inr n) (opens_in c) (opens_in d) (judged_at one c e.number e.entry) judged_of_entry opens_like

  pub same_records : records one c e ≡ records two d e
  unfolding records_at
  same_records =
      ap (λ rs. judged_at one c e.number e.entry ++ rs) (due_like conf origins others Known agree (grown one (opens_in c) (judged_at one c e.number e.entry)) (grown two (opens_in d) (judged_at one c e.number e.entry)) behind_judged e.entry)
      ∙ ap (λ rs. rs ++ due_at two e.entry (grown two (opens_in d) rs)) same_judged

  records_of_entry : Each (OfEntry e.number) (records one c e)
  unfolding records_at
  records_of_entry =
      each_append (OfEntry e.number) (judged_at one c e.number e.entry) _ judged_of_entry (due_of one e.number e.entry (grown one (opens_in c) (judged_at one c e.number e.entry)))

  behind_records : Like conf origins others Known (grown one (opens_in c) (records one c e)) (grown two (opens_in d) (records two d e))
  behind_records =
      subst (λ rs. Like conf origins others Known (grown one (opens_in c) (records one c e)) (grown two (opens_in d) rs)) same_records
      (grown_like conf origins others Known e.number own own_too (λ v n. inr n) (opens_in c) (opens_in d) (records one c e) records_of_entry opens_like)

  opens_alike : AlikeOpens one two e.number (grown one (opens_in c) (records one c e)) (grown two (opens_in d) (records two d e))
  opens_alike = record {
    same = behind_records.same;
    homes = behind_records.homes;
    homes_too = behind_records.homes_too;
    upto = λ v i. upto v (open_is Known all behind_records.within v i);
    order = λ v w i j h. agree v w (open_is Known all behind_records.within v i) (open_is Known all behind_records.within w j) h;
  }
    where
      all : ℕ → List Open
      all = grown one (opens_in c) (records one c e)

      upto : (v : EventId) → Known v → v.number ≤ e.number
      upto v (inl i) = let l = alike.opens.upto v i in omega arith
      upto v (inr n) = omega arith

  pub after_alike : AlikeCells one two e.number (moment_of e.entry) (after one c e) (after two d e)
  unfolding after
  after_alike = record {
    origins = each_sub (λ (o : Origin). o.event.number ≤ number) (λ (o : Origin). o.event.number ≤ e.number) origins (λ o u. omega arith) alike.origins;
    origins_too = each_sub (λ (o : Origin). o.event.number ≤ number) (λ (o : Origin). o.event.number ≤ e.number) others (λ o u. omega arith) alike.origins_too;
    items = items_alike;
    opens = opens_alike;
    tick = ap (λ t. tick_with t e.entry) alike.tick;
  }

pub alike_entry : AlikeEntry
alike_entry stage other e number now c d short same later late alike =
    subst Same same (λ kept. (same_records stage.conf stage.origins other.origins e number now c d short later late kept, after_alike stage.conf stage.origins other.origins e number now c d short later late kept)) alike
  where
    with_conf : Conf → Stage
    with_conf conf = record { conf = conf; origins = other.origins }

    Same : Conf → Type 0
    Same conf = AlikeCells stage (with_conf conf) number now c d → (records stage c e ≡ records (with_conf conf) d e) × AlikeCells stage (with_conf conf) e.number (moment_of e.entry) (after stage c e) (after (with_conf conf) d e)

-- Logs
abbrev cells_at : Start → List Numbered → Cells
cells_at start log = look start log (start.records ++ replay start log)

after_at : (start : Start) (log : List Numbered) (e : Numbered) → after start.stage (cells_at start log) e ≡ cells_at start (e ∷ log)
after_at start log e = after_is start log (start.records ++ replay start log) e ∙ ap (look start (e ∷ log)) (append_assoc start.records (replay start log) (out_of start log e e.entry (start.records ++ replay start log)))

behind_alike : (start other : Start) (log : List Numbered) (number now : ℕ) → AlikeCells start.stage other.stage number now (cells_at start log) (cells_at other log)
    → AlikeCells start.stage other.stage number now (look (behind start log) [] (start.records ++ replay start log)) (look (behind other log) [] (other.records ++ replay other log))
unfolding look marks_of
behind_alike start other log number now alike = record {
  origins = alike.origins;
  origins_too = alike.origins_too;
  items = λ id. record { marks = (alike.items id).marks; ordered = (alike.items id).ordered; ordered_too = (alike.items id).ordered_too; kept = (alike.items id).kept };
  opens = record { same = alike.opens.same; homes = alike.opens.homes; homes_too = alike.opens.homes_too; upto = alike.opens.upto; order = alike.opens.order };
  tick = alike.tick;
}

module _ (one other : Start) (short : HasShortPeriods one.stage.conf) (same : AreAlike one other) where
  cells_alike : (log : List Numbered) → IsRising one log → Suits one log → AlikeCells one.stage other.stage (last_number one log) (last_moment one log) (cells_at one log) (cells_at other log)
  cells_alike [] rising suits =
      subst (λ rs. AlikeCells one.stage other.stage one.number one.moment (look one [] rs) (look other [] (other.records ++ []))) (sym (append-nil one.records))
      (subst (λ rs. AlikeCells one.stage other.stage one.number one.moment (look one [] one.records) (look other [] rs)) (sym (append-nil other.records)) same.cells)
  cells_alike (e ∷ log) rising suits =
      let step = (alike_entry one.stage other.stage e (last_number one log) (last_moment one log) (cells_at one log) (cells_at other log) short same.conf rising.0 suits.1 (cells_alike log rising.1 suits.0)).1 in
      subst (λ c. AlikeCells one.stage other.stage e.number (moment_of e.entry) c (cells_at other (e ∷ log))) (after_at one log e)
      (subst (λ c. AlikeCells one.stage other.stage e.number (moment_of e.entry) (after one.stage (cells_at one log) e) c) (after_at other log e) step)

  same_out : (log : List Numbered) (e : Numbered) → IsRising one (e ∷ log) → Suits one (e ∷ log) → out_of one log e e.entry (one.records ++ replay one log) ≡ out_of other log e e.entry (other.records ++ replay other log)
  same_out log e rising suits =
      sym (records_are one log (one.records ++ replay one log) e)
      ∙ (alike_entry one.stage other.stage e (last_number one log) (last_moment one log) (cells_at one log) (cells_at other log) short same.conf rising.0 suits.1 (cells_alike log rising.1 suits.0)).0
      ∙ records_are other log (other.records ++ replay other log) e

  same_replay : (log : List Numbered) → IsRising one log → Suits one log → replay one log ≡ replay other log
  same_replay [] rising suits = refl
  same_replay (e ∷ log) rising suits = ap₂ (λ xs ys. xs ++ ys) (same_replay log rising.1 suits.0) (same_out log e rising suits)

  same_number : (log : List Numbered) → last_number one log ≡ last_number other log
  same_number [] = same.number
  same_number (e ∷ log) = refl

  same_moment : (log : List Numbered) → last_moment one log ≡ last_moment other log
  same_moment [] = same.moment
  same_moment (e ∷ log) = refl

  starts_alike : (log : List Numbered) → IsRising one log → Suits one log → AreAlike (behind one log) (behind other log)
  starts_alike log rising suits = record {
    conf = same.conf;
    number = same_number log;
    moment = same_moment log;
    cells = behind_alike one other log (last_number one log) (last_moment one log) (cells_alike log rising suits);
  }

pub alike_logs : AlikeLogs
alike_logs one other log short same rising suits = (same_replay one other short same log rising suits, starts_alike one other short same log rising suits)
