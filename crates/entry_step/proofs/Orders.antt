-- The laws of order.
use Rattle.std.proofs.Common.{◌≡◌, ◌≤◌, ◌<◌, ℕ, suc, slice_get, Bool, true, false, cond, ◌&&◌, ◌⊎◌, inl, inr, Option, Some, None, List, [], ◌∷◌, ◌++◌, filter, is_some, refl, sym, ◌∙◌, ap, ap₂, subst, append-nil, append_assoc}
use mathlib.Core.Path.{fun_ext}
use Rattle.std.specs.List.{list_any}
use Rattle.zbx_types.specs.Ids.{at_id, ids_from}
use Rattle.zbx_types.specs.Masters.{has_id, is_master}
use Rattle.zbx_types.specs.declared.conf.Conf.{Conf}
use Rattle.trigger_state.specs.Stages.{Stage, OwnsEvents, first_stage}
use Rattle.trigger_state.specs.declared.stage.Origin.{Origin}
use Rattle.zbx_types.specs.declared.entries.Entry.{Entry}
use Rattle.zbx_types.specs.declared.entries.Entry.TheVariants.{Config, Value, Tick}
use Rattle.zbx_types.specs.declared.entries.Numbered.{Numbered}
use Rattle.zbx_types.specs.declared.entries.Rec.{Rec}
use Rattle.footprint.specs.Rows.{is_one}
use Rattle.zbx_types.specs.Reach.{in_reach}
use Rattle.zbx_types.specs.declared.rules.Rule.{Rule}
use Rattle.footprint.specs.Feet.{under_of, is_of, over_of, reach_by, is_reached, feet_of}
use Rattle.entry_step.specs.Each.{Each, In, EachPair}
use Rattle.zbx_types.specs.Entries.{moment_of}
use Rattle.prep_steps.specs.declared.memory.StepMemory.{StepMemory}
use Rattle.preprocess.specs.Ways.{memory_at}
use Rattle.preprocess.specs.Draft.{visit_at, stored_at, stored_of as stored_by, marks_after, failures_of}
use Rattle.preprocess.specs.declared.visit.Visit.{Visit}
use Rattle.entry_step.proofs.Visited.{Memory, untouched, visits_local, each_triggered}
use Rattle.entry_step.specs.History.{visits_at, stored_of, with_stored}
use Rattle.conf_index.specs.Order.{order}
use Rattle.entry_step.specs.Due.{due_at}
use Rattle.trigger_state.specs.Problems.{absorbed_all}
use Rattle.entry_step.specs.Records.{evaluated, phase, has_call, triggers_at, failures_at, out_of, replay}
use Rattle.entry_step.specs.Cells.{Key, ItemKey, TriggerKey, TickKey, CellOf, ItemCell, Cells, opens_in, memory_in, touches, item_after, histories_after, judged_at, records_at, records, after, look, AreCellsOf}
use Rattle.entry_step.specs.Represents.{IsTidy}
use Rattle.entry_step.specs.Laws.{Agree, IsLocal, IsConfined, Apart, AreTidyCells, Locality, SameOut, Insertion, cells_done, records_done, any_touches, BatchOnACopy, PassedApart, AppliedPart, IsGood, AreBehind, FreshIsGood}
use Rattle.entry_step.proofs.Members.{or_left, or_right, and_left, and_right, any_elim, each_filter, each_kept, or_false_left, or_false_right, each_at, any_intro, true_or_false}
use Rattle.entry_step.proofs.Feet.{there, one_of, gone, in_ids, over_in_foot, master_in_foot, reach_in_foot}
use Rattle.entry_step.proofs.Landing.{LandIn, land_append, land_sub, land_off}
use Rattle.entry_step.proofs.Histories.{SameTo}
use Rattle.entry_step.proofs.Closing.{AllTidy, Covers}
use Rattle.entry_step.proofs.Covered.{phase_lands, phase_same}
use Rattle.zbx_types.proofs.RowLemmas.{at_suc}
use Rattle.entry_step.proofs.Owning.{entries_own}
use Rattle.entry_step.proofs.Represented.{calls_touched, own_touched, absent_after, stays_tidy, failures_land, records_are, after_is}
use Rattle.entry_step.specs.Occasions.{occasion_of}
use Rattle.entry_step.specs.Start.{Start, first_start}

trigger_touched : (conf : Conf) (now item time : ℕ) (value : List ℕ) (id : ℕ) → has_id ((feet_of conf).triggers item) id ≡ true → touches conf (Value now item time value) (TriggerKey id) ≡ true
unfolding touches
trigger_touched conf now item time value id o = or_left (has_id ((feet_of conf).triggers item) id) (list_any (λ rule. is_reached conf rule id) ((feet_of conf).marks item)) o

-- a trigger over an item, and its masters
over_touched : (conf : Conf) (now item time : ℕ) (value : List ℕ) (id : ℕ) → has_id (over_of conf item) id ≡ true → touches conf (Value now item time value) (TriggerKey id) ≡ true
over_touched conf now item time value id o = trigger_touched conf now item time value id (over_in_foot conf item id o (one_of conf.triggers (λ t. list_any (λ i. is_of conf t i) (under_of conf item)) id o))

-- what a rule reaches that reaches one of the foot's triggers
pub reach_touched : (conf : Conf) (now item time : ℕ) (value : List ℕ) (rule t u : ℕ) → is_one conf.correlations rule ≡ true → has_id ((feet_of conf).triggers item) t ≡ true → is_reached conf rule t ≡ true → is_reached conf rule u ≡ true
    → touches conf (Value now item time value) (TriggerKey u) ≡ true
unfolding touches
reach_touched conf now item time value rule t u one f reached other =
    or_right (has_id ((feet_of conf).triggers item) u) (list_any (λ r. is_reached conf r u) ((feet_of conf).marks item)) (reach_in_foot conf item rule t u one f reached other)

-- and all that the evaluation of a trigger over the item may read or change
rule_at : (rules : List Rule) (rule : Rule) → In rule rules → (r : ℕ) × (at_id rules r ≡ Some rule)
rule_at rules rule i = let r = go rules i in (suc r.0, at_suc rules r.0 ∙ r.1)
  where
    go : (xs : List Rule) → In rule xs → (k : ℕ) × (slice_get xs k ≡ Some rule)
    go [] j = absurd j
    go (x ∷ xs) (inl q) = (0, ap Some (sym q))
    go (x ∷ xs) (inr j) = let r = go xs j in (suc r.0, r.1)

covers_over : (conf : Conf) (now item time : ℕ) (value : List ℕ) (id : ℕ) → has_id (over_of conf item) id ≡ true → Covers conf (λ j. touches conf (Value now item time value) (TriggerKey j)) id
covers_over conf now item time value id o = record {
  self = over_touched conf now item time value id o;
  masters = each_filter (λ m. touches conf (Value now item time value) (TriggerKey m) ≡ true) (is_master conf id) (ids_from 1 conf.triggers)
      (λ m i e. trigger_touched conf now item time value m (master_in_foot conf item id m o (in_ids conf.triggers m i) e));
  reach = λ one other j its also s.
      let found = any_elim (λ rule. in_reach rule one && in_reach rule other) conf.correlations s in
      let at = rule_at conf.correlations found.0 found.1 in
      let both = found.2 in
      reach_touched conf now item time value at.0 id j (there conf.correlations at.0 found.0 at.1)
      (over_in_foot conf item id o (one_of conf.triggers (λ t. list_any (λ i. is_of conf t i) (under_of conf item)) id o))
      (ap (λ r. reach_by r (at_id conf.triggers id)) at.1 ∙ ap (reach_by (Some found.0)) its ∙ and_left (in_reach found.0 one) (in_reach found.0 other) both)
      (ap (λ r. reach_by r (at_id conf.triggers j)) at.1 ∙ ap (reach_by (Some found.0)) also ∙ and_right (in_reach found.0 one) (in_reach found.0 other) both);
}

-- what is open in tidy cells
all_tidy : (stage : Stage) (c : Cells) → IsTidy stage c → AllTidy stage (opens_in c)
all_tidy stage c tidy = record { homes = tidy.homes; tagged = tidy.tagged }

-- an entry has the same visits over cells that agree on its foot
pub visits_agree : (conf : Conf) (e : Numbered) (c d : Cells) → Agree conf e c d → visits_at conf (memory_in c) e.number e.entry ≡ visits_at conf (memory_in d) e.number e.entry
visits_agree conf e c d agree =
    let remembered : ItemCell → ℕ → StepMemory = λ cell k. memory_at cell.marks k in
    visits_local conf (memory_in c) (memory_in d) e.number e.entry (λ i t. ap remembered (agree.at (ItemKey i) t))

-- what becomes of an item's cell by some visits
abbrev item_by : ℕ → Bool → ℕ → List Visit → ItemCell → ItemCell
item_by i touched now visits cell = record { history = with_stored (stored_at visits i) cell.history; marks = marks_after (visit_at visits i) cell.marks; seen = cond touched now cell.seen }

item_is : (conf : Conf) (memory : Memory) (number : ℕ) (entry : Entry) (i : ℕ) (cell : ItemCell) → item_after conf memory number entry i cell ≡ item_by i (touches conf entry (ItemKey i)) (moment_of entry) (visits_at conf memory number entry) cell
unfolding item_after stored_of
item_is conf memory number entry i cell = refl

pub triggers_by : (conf : Conf) (a b : Memory) (number : ℕ) (entry : Entry) → visits_at conf a number entry ≡ visits_at conf b number entry → triggers_at conf a number entry ≡ triggers_at conf b number entry
unfolding triggers_at stored_of
triggers_by conf a b number (Config now text) e = refl
triggers_by conf a b number (Tick now) e = refl
triggers_by conf a b number (Value now item time value) e = ap (λ vs. filter (λ id. has_call (λ i. is_some (stored_at vs i)) (at_id conf.triggers id)) (order conf)) e

-- no step is due at a value
value_records : (stage : Stage) (c : Cells) (number now item time : ℕ) (value : List ℕ) → records_at stage c number (Value now item time value) ≡ judged_at stage c number (Value now item time value)
unfolding records_at due_at
value_records stage c number now item time value = append-nil (judged_at stage c number (Value now item time value))

-- The records of an entry land in its foot
land_anywhere : (stage : Stage) (K : ℕ → Bool) (rs : List Rec) → ((id : ℕ) → K id ≡ true) → LandIn stage K rs
land_anywhere stage K [] all = tt
land_anywhere stage K (r ∷ rs) all = (λ id e. (let t = all id in cc), land_anywhere stage K rs all)

records_land : (stage : Stage) (c : Cells) (number : ℕ) (entry : Entry) → OwnsEvents stage number → IsTidy stage c → LandIn stage (λ id. touches stage.conf entry (TriggerKey id)) (records_at stage c number entry)
records_land stage c number (Config now text) own tidy = land_anywhere stage (λ id. touches stage.conf (Config now text) (TriggerKey id)) (records_at stage c number (Config now text)) (λ id. unfold touches in refl)
records_land stage c number (Tick now) own tidy = land_anywhere stage (λ id. touches stage.conf (Tick now) (TriggerKey id)) (records_at stage c number (Tick now)) (λ id. unfold touches in refl)
records_land stage c number (Value now item time value) own tidy = subst (LandIn stage (λ id. touches stage.conf entry (TriggerKey id))) (sym (value_records stage c number now item time value)) (unfold judged_at in
    land_append stage (λ id. touches stage.conf entry (TriggerKey id)) (failures_at stage.conf (memory_in c) number entry) (phase stage (evaluated stage (occasion_of (c TickKey) number entry) (histories_after stage.conf c number entry)) (opens_in c) (triggers_at stage.conf (memory_in c) number entry))
    (land_sub stage (λ id. false) (λ id. touches stage.conf entry (TriggerKey id)) (failures_at stage.conf (memory_in c) number entry) (λ id e. refl) (failures_land stage (memory_in c) number entry))
    (phase_lands stage (occasion_of (c TickKey) number entry) own (histories_after stage.conf c number entry) (λ id. touches stage.conf entry (TriggerKey id)) (opens_in c) (all_tidy stage c tidy) (triggers_at stage.conf (memory_in c) number entry)
    (each_triggered stage.conf (memory_in c) number now item time value (Covers stage.conf (λ id. touches stage.conf entry (TriggerKey id))) (λ id j o. covers_over stage.conf now item time value id o))))
  where
    entry : Entry
    entry = Value now item time value

pub confined : (stage : Stage) (e : Numbered) (c : Cells) → OwnsEvents stage e.number → IsTidy stage c → IsConfined stage e c
confined stage e c own tidy (ItemKey i) f = unfold after in
    item_is stage.conf (memory_in c) e.number e.entry i (c (ItemKey i))
    ∙ ap₂ (λ v b. (let cell : ItemCell = record { history = with_stored (stored_by v) (c (ItemKey i)).history; marks = marks_after v (c (ItemKey i)).marks; seen = cond b (moment_of e.entry) (c (ItemKey i)).seen } in cell))
    (untouched stage.conf (memory_in c) e.number e.entry i f) f
confined stage e c own tidy (TriggerKey id) f = unfold after in land_off stage (λ u. touches stage.conf e.entry (TriggerKey u)) id (c (TriggerKey id)) (records stage c e) (records_land stage c e.number e.entry own tidy) f
confined stage e c own tidy TickKey f = unfold after in go e.entry f
  where
    none : (o : Option ℕ) → Rattle.std.specs.Option.option_or o None ≡ o
    none None = refl
    none (Some t) = refl

    go : (entry : Entry) → touches stage.conf entry TickKey ≡ false → Rattle.entry_step.specs.Log.tick_with (c TickKey) entry ≡ c TickKey
    go (Config now text) f = none (c TickKey)
    go (Value now item time value) f = none (c TickKey)
    go (Tick now) f = unfold touches in cc

-- everything is in the foot of an entry that is no value
agree_all : (stage : Stage) (e : Numbered) (c d : Cells) → ((k : Key) → touches stage.conf e.entry k ≡ true) → Agree stage.conf e c d → IsLocal stage e c d
agree_all stage e c d all agree =
    let same : c ≡ d = fun_ext (λ k. agree.at k (all k)) in
    record { same_records = ap (λ x. records stage x e) same; same_changes = λ k t. ap (λ x. after stage x e k) same }

value_judged : (stage : Stage) (number now item time : ℕ) (value : List ℕ) (c d : Cells) → OwnsEvents stage number → IsTidy stage c → IsTidy stage d → Agree stage.conf (record { number = number; entry = Value now item time value }) c d
    → judged_at stage c number (Value now item time value) ≡ judged_at stage d number (Value now item time value)
unfolding judged_at failures_at
value_judged stage number now item time value c d own tidy_c tidy_d agree =
    ap (λ xs. xs ++ made c (triggers_at stage.conf (memory_in c) number entry)) failures
    ∙ ap (λ xs. failures_at stage.conf (memory_in d) number entry ++ xs)
    (ap (λ t. phase stage (evaluated stage (occasion_of t number entry) (histories_after stage.conf c number entry)) (opens_in c) (triggers_at stage.conf (memory_in c) number entry)) agree.tick
    ∙ phase_same stage (occasion_of (d TickKey) number entry) own (λ id. touches stage.conf entry (TriggerKey id)) (histories_after stage.conf c number entry) (histories_after stage.conf d number entry) (opens_in c) (opens_in d) (triggers_at stage.conf (memory_in c) number entry) (all_tidy stage c tidy_c) (all_tidy stage d tidy_d) (λ id t. agree.at (TriggerKey id) t)
    (each_triggered stage.conf (memory_in c) number now item time value (λ id. Covers stage.conf (λ j. touches stage.conf entry (TriggerKey j)) id × SameTo stage.conf (histories_after stage.conf c number entry) (histories_after stage.conf d number entry) id)
    (λ id j o. (covers_over stage.conf now item time value id o, λ i calls. same_history i (calls_touched stage.conf now item time value id i o calls))))
    ∙ ap (made d) (triggers_by stage.conf (memory_in c) (memory_in d) number entry visits))
  where
    entry : Entry
    entry = Value now item time value

    made : Cells → List ℕ → List Rec
    made x ids = phase stage (evaluated stage (occasion_of (x TickKey) number entry) (histories_after stage.conf x number entry)) (opens_in x) ids

    visits : visits_at stage.conf (memory_in c) number entry ≡ visits_at stage.conf (memory_in d) number entry
    visits = visits_agree stage.conf (record { number = number; entry = entry }) c d agree

    failures : failures_at stage.conf (memory_in c) number entry ≡ failures_at stage.conf (memory_in d) number entry
    failures = ap (failures_of stage.conf number) visits

    same_history : (i : ℕ) → (is_one stage.conf.items i ≡ true → touches stage.conf entry (ItemKey i) ≡ true) → histories_after stage.conf c number entry i ≡ histories_after stage.conf d number entry i
    same_history i touched = go (true_or_false (is_one stage.conf.items i))
      where
        by : List Visit → ItemCell → ItemCell
        by = item_by i (touches stage.conf entry (ItemKey i)) (moment_of entry)

        go : (is_one stage.conf.items i ≡ true) ⊎ (is_one stage.conf.items i ≡ false) → histories_after stage.conf c number entry i ≡ histories_after stage.conf d number entry i
        go (inl t) =
            ap (λ (cell : ItemCell). cell.history)
            (item_is stage.conf (memory_in c) number entry i (c (ItemKey i)) ∙ ap (λ vs. by vs (c (ItemKey i))) visits ∙ ap (by (visits_at stage.conf (memory_in d) number entry)) (agree.at (ItemKey i) (touched t))
            ∙ sym (item_is stage.conf (memory_in d) number entry i (d (ItemKey i))))
        go (inr f) = absent_after stage (memory_in c) c number entry i tidy_c (gone stage.conf.items i f) ∙ sym (absent_after stage (memory_in d) d number entry i tidy_d (gone stage.conf.items i f))

value_local : (stage : Stage) (number now item time : ℕ) (value : List ℕ) (c d : Cells) → OwnsEvents stage number → IsTidy stage c → IsTidy stage d → Agree stage.conf (record { number = number; entry = Value now item time value }) c d
    → records_at stage c number (Value now item time value) ≡ records_at stage d number (Value now item time value)
value_local stage number now item time value c d own tidy_c tidy_d agree =
    value_records stage c number now item time value ∙ value_judged stage number now item time value c d own tidy_c tidy_d agree ∙ sym (value_records stage d number now item time value)

pub local : (stage : Stage) (e : Numbered) (c d : Cells) → OwnsEvents stage e.number → IsTidy stage c → IsTidy stage d → Agree stage.conf e c d → IsLocal stage e c d
local stage e c d own tidy_c tidy_d agree = subst (λ x. Agree stage.conf (at x) c d → IsLocal stage (at x) c d) refl (go e.entry) agree
  where
    at : Entry → Numbered
    at x = record { number = e.number; entry = x }

    changes : (x : Entry) → records stage c (at x) ≡ records stage d (at x) → Agree stage.conf (at x) c d → touches stage.conf x TickKey ≡ false → (k : Key) → touches stage.conf x k ≡ true → after stage c (at x) k ≡ after stage d (at x) k
    changes x rs a f (ItemKey i) t = unfold after in
        item_is stage.conf (memory_in c) e.number x i (c (ItemKey i)) ∙ ap (λ vs. item_by i (touches stage.conf x (ItemKey i)) (moment_of x) vs (c (ItemKey i))) (visits_agree stage.conf (at x) c d a)
        ∙ ap (item_by i (touches stage.conf x (ItemKey i)) (moment_of x) (visits_at stage.conf (memory_in d) e.number x)) (a.at (ItemKey i) t) ∙ sym (item_is stage.conf (memory_in d) e.number x i (d (ItemKey i)))
    changes x rs a f (TriggerKey id) t = unfold after in ap₂ (absorbed_all stage id) (a.at (TriggerKey id) t) rs
    changes x rs a f TickKey t = let z : true ≡ false = sym t ∙ f in cc

    go : (x : Entry) → Agree stage.conf (at x) c d → IsLocal stage (at x) c d
    go (Config now text) a = agree_all stage (at (Config now text)) c d (λ k. unfold touches in refl) a
    go (Tick now) a = agree_all stage (at (Tick now)) c d (λ k. unfold touches in refl) a
    go (Value now item time value) a =
        let rs = value_local stage e.number now item time value c d own tidy_c tidy_d a in
        record { same_records = rs; same_changes = changes (Value now item time value) rs a (unfold touches in refl) }

pub locality : Locality
locality stage e c d own tidy_c tidy_d agree = (local stage e c d own tidy_c tidy_d agree, confined stage e c own tidy_c)

-- Insertion, from locality alone
abbrev pub cells_of : Start → List Numbered → Cells
cells_of start [] = look start [] start.records
cells_of start (e ∷ log) = after start.stage (cells_of start log) e

pub cells_are : (start : Start) (log : List Numbered) → cells_of start log ≡ look start log (start.records ++ replay start log)
cells_are start [] = ap (look start []) (sym (append-nil start.records))
cells_are start (e ∷ log) =
    let rs = start.records ++ replay start log in
    ap (λ c. after start.stage c e) (cells_are start log) ∙ after_is start log rs e
    ∙ ap (look start (e ∷ log)) (append_assoc start.records (replay start log) (out_of start log e e.entry rs))

pub tidy_cells : (start : Start) → IsGood start → (log : List Numbered) → AreBehind start log → IsTidy start.stage (cells_of start log)
tidy_cells start good [] after = good.tidy
tidy_cells start good (e ∷ log) after = stays_tidy start.stage (cells_of start log) e (entries_own start e good after.0) (tidy_cells start good log after.1)

-- nothing stood before a fresh start
pub fresh_is_good : FreshIsGood
unfolding look
fresh_is_good stage none = record {
  tidy = record { homes = λ id. tt; tagged = λ id. tt; absent = λ id q. refl };
  origins = subst (Each (λ (o : Origin). o.event.number ≤ 0)) (sym none) tt;
}

pub first_good : (conf : Conf) → IsGood (first_start conf)
first_good conf = fresh_is_good (first_stage conf) refl

pub records_of : (start : Start) (log : List Numbered) (e : Numbered) → records start.stage (cells_of start log) e ≡ out_of start log e e.entry (start.records ++ replay start log)
records_of start log e = ap (λ c. records start.stage c e) (cells_are start log) ∙ records_are start log (start.records ++ replay start log) e

-- each entry touches something
pub touches_some : (conf : Conf) (entry : Entry) → (k : Key) × (touches conf entry k ≡ true)
touches_some conf (Config now text) = (TickKey, unfold touches in refl)
touches_some conf (Tick now) = (TickKey, unfold touches in refl)
touches_some conf (Value now item time value) = (ItemKey item, own_touched conf now item time value)

apart_sym : (conf : Conf) (a b : Numbered) → Apart conf a b → Apart conf b a
apart_sym conf a b h k p q = h k q p

quiet_tick : (conf : Conf) (a b : Numbered) → Apart conf a b → touches conf a.entry TickKey ≡ false
quiet_tick conf a b h = go a.entry h
  where
    go : (x : Entry) → ((k : Key) → touches conf x k ≡ true → touches conf b.entry k ≡ true → ⊥) → touches conf x TickKey ≡ false
    go (Value now item time value) h = unfold touches in refl
    go (Config now text) h = let s = touches_some conf b.entry in absurd (h s.0 (unfold touches in refl) s.1)
    go (Tick now) h = let s = touches_some conf b.entry in absurd (h s.0 (unfold touches in refl) s.1)

module _ (stage : Stage) (a b : Numbered) (own_a : OwnsEvents stage a.number) (own_b : OwnsEvents stage b.number) (apart : Apart stage.conf a b) (c : Cells) (tidy : IsTidy stage c) where
  off_other : (k : Key) → touches stage.conf b.entry k ≡ true → touches stage.conf a.entry k ≡ false
  off_other k e = go (true_or_false (touches stage.conf a.entry k))
    where
      go : (touches stage.conf a.entry k ≡ true) ⊎ (touches stage.conf a.entry k ≡ false) → touches stage.conf a.entry k ≡ false
      go (inl t) = absurd (apart k t e)
      go (inr f) = f

  agree_after : Agree stage.conf b (after stage c a) c
  agree_after = record { at = λ k e. confined stage a c own_a tidy k (off_other k e); tick = confined stage a c own_a tidy TickKey (quiet_tick stage.conf a b apart) }

  records_apart : records stage (after stage c a) b ≡ records stage c b
  records_apart = (local stage b (after stage c a) c own_b (stays_tidy stage c a own_a tidy) tidy agree_after).same_records

  changes_apart : (k : Key) → touches stage.conf b.entry k ≡ true → after stage (after stage c a) b k ≡ after stage c b k
  changes_apart = (local stage b (after stage c a) c own_b (stays_tidy stage c a own_a tidy) tidy agree_after).same_changes

diamond : (stage : Stage) (a b : Numbered) → OwnsEvents stage a.number → OwnsEvents stage b.number → Apart stage.conf a b → (c : Cells) → IsTidy stage c → after stage (after stage c a) b ≡ after stage (after stage c b) a
diamond stage a b own_a own_b apart c tidy = fun_ext (λ k. go k (true_or_false (touches stage.conf a.entry k)) (true_or_false (touches stage.conf b.entry k)))
  where
    go : (k : Key) → (touches stage.conf a.entry k ≡ true) ⊎ (touches stage.conf a.entry k ≡ false) → (touches stage.conf b.entry k ≡ true) ⊎ (touches stage.conf b.entry k ≡ false) → after stage (after stage c a) b k ≡ after stage (after stage c b) a k
    go k (inl p) (inl q) = absurd (apart k p q)
    go k (inl p) (inr q) = confined stage b (after stage c a) own_b (stays_tidy stage c a own_a tidy) k q ∙ sym (changes_apart stage b a own_b own_a (apart_sym stage.conf a b apart) c tidy k p)
    go k (inr p) (inl q) = changes_apart stage a b own_a own_b apart c tidy k q ∙ sym (confined stage a (after stage c b) own_a (stays_tidy stage c b own_b tidy) k p)
    go k (inr p) (inr q) = confined stage b (after stage c a) own_b (stays_tidy stage c a own_a tidy) k q ∙ confined stage a c own_a tidy k p ∙ sym (confined stage a (after stage c b) own_a (stays_tidy stage c b own_b tidy) k p ∙ confined stage b c own_b tidy k q)

-- each of the newer entries has the same records with e in its place and without
abbrev SameRecords : Start → Numbered → List Numbered → List Numbered → Type 0
SameRecords start e [] older = Unit {0}
SameRecords start e (a ∷ newer) older = (records start.stage (cells_of start (newer ++ older)) a ≡ records start.stage (cells_of start (newer ++ e ∷ older)) a) × SameRecords start e newer older

record Inserts (start : Start) (newer : List Numbered) (e : Numbered) (older : List Numbered) : Type 0 where
  others : SameRecords start e newer older
  own : records start.stage (cells_of start (newer ++ older)) e ≡ records start.stage (cells_of start older) e
  cells : after start.stage (cells_of start (newer ++ older)) e ≡ cells_of start (newer ++ e ∷ older)

-- the entries that a log has with one in its place
behind_at : (start : Start) (newer : List Numbered) (e : Numbered) (older : List Numbered) → AreBehind start (newer ++ e ∷ older) → start.number < e.number
behind_at start [] e older after = after.0
behind_at start (a ∷ newer) e older after = behind_at start newer e older after.1

behind_others : (start : Start) (newer : List Numbered) (e : Numbered) (older : List Numbered) → AreBehind start (newer ++ e ∷ older) → AreBehind start (newer ++ older)
behind_others start [] e older after = after.1
behind_others start (a ∷ newer) e older after = (after.0, behind_others start newer e older after.1)

inserts : (start : Start) → IsGood start → (newer : List Numbered) (e : Numbered) (older : List Numbered) → AreBehind start (newer ++ e ∷ older) → Each (λ a. Apart start.stage.conf e a) newer → Inserts start newer e older
inserts start good [] e older after apart = record { others = tt; own = refl; cells = refl }
inserts start good (a ∷ newer) e older behind apart =
    let ih = inserts start good newer e older behind.1 apart.1 in
    let c = cells_of start (newer ++ older) in
    let tidy = tidy_cells start good (newer ++ older) (behind_others start newer e older behind.1) in
    let own_a = entries_own start a good behind.0 in
    let own_e = entries_own start e good (behind_at start newer e older behind.1) in
    let ae = apart_sym start.stage.conf e a apart.0 in
    record {
      others = (sym (records_apart start.stage e a own_e own_a apart.0 c tidy) ∙ ap (λ x. records start.stage x a) ih.cells, ih.others);
      own = records_apart start.stage a e own_a own_e ae c tidy ∙ ih.own;
      cells = diamond start.stage a e own_a own_e ae c tidy ∙ ap (λ x. after start.stage x a) ih.cells;
    }

stand_is : (start : Start) (c : Cells) (log : List Numbered) → AreCellsOf start c log → c ≡ cells_of start log
unfolding AreCellsOf
stand_is start c log h = h ∙ sym (cells_are start log)

is_stand : (start : Start) (c : Cells) (log : List Numbered) → c ≡ cells_of start log → AreCellsOf start c log
unfolding AreCellsOf
is_stand start c log h = h ∙ cells_are start log

pub are_tidy : AreTidyCells
are_tidy start c log good after h = let P : Cells → Type 0 = IsTidy start.stage in subst P (sym (stand_is start c log h)) (tidy_cells start good log after)

same_out : (start : Start) (e : Numbered) (newer older : List Numbered) → SameRecords start e newer older → SameOut start e newer older
same_out start e [] older h = tt
same_out start e (a ∷ newer) older h = (sym (records_of start (newer ++ older) a) ∙ h.0 ∙ records_of start (newer ++ e ∷ older) a, same_out start e newer older h.1)

-- the changes of e behind the newer entries are those in its place
changes_in_place : (start : Start) → IsGood start → (newer : List Numbered) (e : Numbered) (older : List Numbered) → AreBehind start (newer ++ e ∷ older) → Each (λ a. Apart start.stage.conf e a) newer → (k : Key) → touches start.stage.conf e.entry k ≡ true
    → after start.stage (cells_of start (newer ++ older)) e k ≡ after start.stage (cells_of start older) e k
changes_in_place start good [] e older behind apart k t = refl
changes_in_place start good (a ∷ newer) e older behind apart k t =
    changes_apart start.stage a e (entries_own start a good behind.0) (entries_own start e good (behind_at start newer e older behind.1)) (apart_sym start.stage.conf e a apart.0) (cells_of start (newer ++ older)) (tidy_cells start good (newer ++ older) (behind_others start newer e older behind.1)) k t
    ∙ changes_in_place start good newer e older behind.1 apart.1 k t

pub insertion : Insertion
insertion start newer e older good behind apart =
    let r = inserts start good newer e older behind apart in (
      same_out start e newer older r.others,
      λ c h.
          let s = stand_is start c (newer ++ older) h in
          record {
            its_records = ap (λ x. records start.stage x e) s ∙ r.own ∙ records_of start older e;
            its_changes = λ d g k t. ap (λ x. after start.stage x e k) s ∙ changes_in_place start good newer e older behind apart k t ∙ ap (λ x. after start.stage x e k) (sym (stand_is start d older g));
            stand = is_stand start (after start.stage c e) (newer ++ e ∷ older) (ap (λ x. after start.stage x e) s ∙ r.cells);
          },
    )

-- A batch on a copy
module _ (stage : Stage) (K : Key → Type 0) (ticks : K TickKey) where
  pub step_agrees : (e : Numbered) (c d : Cells) → OwnsEvents stage e.number → IsTidy stage c → IsTidy stage d → ((k : Key) → touches stage.conf e.entry k ≡ true → K k) → ((k : Key) → K k → c k ≡ d k) → (k : Key) → K k → after stage c e k ≡ after stage d e k
  step_agrees e c d own tidy_c tidy_d inside same k m = go (true_or_false (touches stage.conf e.entry k))
    where
      law : IsLocal stage e c d
      law = local stage e c d own tidy_c tidy_d (record { at = λ j t. same j (inside j t); tick = same TickKey ticks })

      go : (touches stage.conf e.entry k ≡ true) ⊎ (touches stage.conf e.entry k ≡ false) → after stage c e k ≡ after stage d e k
      go (inl t) = law.same_changes k t
      go (inr f) = confined stage e c own tidy_c k f ∙ same k m ∙ sym (confined stage e d own tidy_d k f)

  batch_agrees : (es : List Numbered) (c d : Cells) → Each (λ (e : Numbered). OwnsEvents stage e.number) es → IsTidy stage c → IsTidy stage d → ((e : Numbered) → In e es → (k : Key) → touches stage.conf e.entry k ≡ true → K k) → ((k : Key) → K k → c k ≡ d k)
      → (records_done stage d es ≡ records_done stage c es) × ((k : Key) → K k → cells_done stage c es k ≡ cells_done stage d es k)
  batch_agrees [] c d own tidy_c tidy_d inside same = (refl, same)
  batch_agrees (e ∷ es) c d own tidy_c tidy_d inside same =
      let law : IsLocal stage e c d = local stage e c d own.0 tidy_c tidy_d (record { at = λ j t. same j (inside e (inl refl) j t); tick = same TickKey ticks }) in
      let r = batch_agrees es (after stage c e) (after stage d e) own.1 (stays_tidy stage c e own.0 tidy_c) (stays_tidy stage d e own.0 tidy_d) (λ x i. inside x (inr i)) (step_agrees e c d own.0 tidy_c tidy_d (inside e (inl refl)) same) in
      (ap₂ (λ rs rss. rs ∷ rss) (sym law.same_records) r.0, r.1)

pub batch_off : (stage : Stage) (es : List Numbered) (c : Cells) → Each (λ (e : Numbered). OwnsEvents stage e.number) es → IsTidy stage c → (k : Key) → any_touches stage.conf es k ≡ false → cells_done stage c es k ≡ c k
batch_off stage [] c own tidy k f = refl
batch_off stage (e ∷ es) c own tidy k f =
    batch_off stage es (after stage c e) own.1 (stays_tidy stage c e own.0 tidy) k (or_false_right (touches stage.conf e.entry k) (any_touches stage.conf es k) f) ∙ confined stage e c own.0 tidy k (or_false_left (touches stage.conf e.entry k) (any_touches stage.conf es k) f)

pub batch_on_a_copy : BatchOnACopy
batch_on_a_copy stage es c d own tidy_c tidy_d copies = (r.0, fun_ext (λ k. go k (any_touches stage.conf es k) refl))
  where
    K : Key → Type 0
    K k = (any_touches stage.conf es k ≡ true) ⊎ (k ≡ TickKey)

    same : (k : Key) → K k → c k ≡ d k
    same k (inl t) = copies.at k t
    same k (inr q) = subst (λ j. c j ≡ d j) (sym q) copies.tick

    r : (records_done stage d es ≡ records_done stage c es) × ((k : Key) → K k → cells_done stage c es k ≡ cells_done stage d es k)
    r = batch_agrees stage K (inr refl) es c d own tidy_c tidy_d (λ e i k t. inl (any_intro (λ x. touches stage.conf x.entry k) e es i t)) same

    go : (k : Key) (b : Bool) → any_touches stage.conf es k ≡ b → cond {A = CellOf k} b (cells_done stage d es k) (c k) ≡ cells_done stage c es k
    go k true e = sym (r.1 k (inl e))
    go k false e = sym (batch_off stage es c own tidy_c k e)

-- The applied part of a log
abbrev Reads : Conf → Numbered → Key → Type 0
Reads conf e k = (touches conf e.entry k ≡ true) ⊎ (k ≡ TickKey)

apart_reads : (conf : Conf) (y x : Numbered) → Apart conf y x → (k : Key) → Reads conf x k → touches conf y.entry k ≡ true → ⊥
apart_reads conf y x h k (inl t) e = h k e t
apart_reads conf y x h k (inr q) e = let f = quiet_tick conf y x h in let g : touches conf y.entry TickKey ≡ true = subst (λ z. touches conf y.entry z ≡ true) q e in cc

-- without the entries that aren't applied, and touch nothing in K, the cells in K are the same
part_agree : (start : Start) → IsGood start → (applied : Numbered → Bool) (log : List Numbered) (K : Key → Type 0) → AreBehind start log → EachPair (PassedApart start.stage.conf applied) log
    → ((y : Numbered) → In y log → applied y ≡ false → (k : Key) → K k → touches start.stage.conf y.entry k ≡ true → ⊥)
    → (k : Key) → K k → cells_of start (filter applied log) k ≡ cells_of start log k
part_agree start good applied [] K after order h k m = refl
part_agree start good applied (x ∷ older) K behind order h k m = go (applied x) refl (λ L. part_agree start good applied older L behind.1)
  where
    wider : Key → Type 0
    wider j = K j ⊎ Reads start.stage.conf x j

    own : OwnsEvents start.stage x.number
    own = entries_own start x good behind.0

    tidy_all : IsTidy start.stage (cells_of start older)
    tidy_all = tidy_cells start good older behind.1

    tidy_part : IsTidy start.stage (cells_of start (filter applied older))
    tidy_part = tidy_cells start good (filter applied older) (each_kept (λ (y : Numbered). start.number < y.number) applied older behind.1)

    untouched : applied x ≡ false → touches start.stage.conf x.entry k ≡ false
    untouched e = at (true_or_false (touches start.stage.conf x.entry k))
      where
        at : (touches start.stage.conf x.entry k ≡ true) ⊎ (touches start.stage.conf x.entry k ≡ false) → touches start.stage.conf x.entry k ≡ false
        at (inl t) = absurd (h x (inl refl) e k m t)
        at (inr f) = f

    still : applied x ≡ true → (y : Numbered) → In y older → applied y ≡ false → (j : Key) → wider j → touches start.stage.conf y.entry j ≡ true → ⊥
    still a y i f j (inl n) t = h y (inr i) f j n t
    still a y i f j (inr r) t = apart_reads start.stage.conf y x (each_at (PassedApart start.stage.conf applied x) older order.0 y i a f) j r t

    go : (b : Bool) → applied x ≡ b
        → ((L : Key → Type 0) → EachPair (PassedApart start.stage.conf applied) older → ((y : Numbered) → In y older → applied y ≡ false → (j : Key) → L j → touches start.stage.conf y.entry j ≡ true → ⊥) → (j : Key) → L j → cells_of start (filter applied older) j ≡ cells_of start older j)
        → cells_of start (cond b (x ∷ filter applied older) (filter applied older)) k ≡ after start.stage (cells_of start older) x k
    go false e ih = ih K order.1 (λ y i. h y (inr i)) k m ∙ sym (confined start.stage x (cells_of start older) own tidy_all k (untouched e))
    go true e ih = at (true_or_false (touches start.stage.conf x.entry k))
      where
        agree : (j : Key) → wider j → cells_of start (filter applied older) j ≡ cells_of start older j
        agree = ih wider order.1 (still e)

        same : Agree start.stage.conf x (cells_of start (filter applied older)) (cells_of start older)
        same = record { at = λ j t. agree j (inr (inl t)); tick = agree TickKey (inr (inr refl)) }

        at : (touches start.stage.conf x.entry k ≡ true) ⊎ (touches start.stage.conf x.entry k ≡ false) → after start.stage (cells_of start (filter applied older)) x k ≡ after start.stage (cells_of start older) x k
        at (inl t) = (local start.stage x (cells_of start (filter applied older)) (cells_of start older) own tidy_part tidy_all same).same_changes k t
        at (inr f) = confined start.stage x (cells_of start (filter applied older)) own tidy_part k f ∙ agree k (inl m) ∙ sym (confined start.stage x (cells_of start older) own tidy_all k f)

pub applied_part : AppliedPart
applied_part start applied older e good behind order free c h =
    ap (λ x. records start.stage x e) (stand_is start c (filter applied older) h)
    ∙ (local start.stage e (cells_of start (filter applied older)) (cells_of start older) (entries_own start e good behind.0) (tidy_cells start good (filter applied older) (each_kept (λ (y : Numbered). start.number < y.number) applied older behind.1)) (tidy_cells start good older behind.1) (record { at = λ k t. agree k (inl t); tick = agree TickKey (inr refl) })).same_records
    ∙ records_of start older e
  where
    agree : (k : Key) → Reads start.stage.conf e k → cells_of start (filter applied older) k ≡ cells_of start older k
    agree = part_agree start good applied older (Reads start.stage.conf e) behind.1 order (λ y i f k r t. apart_reads start.stage.conf y e (each_at (λ y. applied y ≡ false → Apart start.stage.conf y e) older free y i f) k r t)
