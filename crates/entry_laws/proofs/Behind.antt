-- What stands behind a log is the start of what follows it.
use Rattle.std.proofs.Common.{◌≡◌, ◌≤◌, ℕ, Bool, true, false, cond, Option, Some, None, List, [], ◌∷◌, ◌++◌, refl, sym, ◌∙◌, ap, ap₂, subst, append_assoc, append-nil, arith}
use mathlib.Core.Path.{fun_ext}
use Rattle.zbx_types.specs.Entries.{moment_of}
use Rattle.zbx_types.specs.declared.conf.Conf.{Conf}
use Rattle.zbx_types.specs.declared.entries.Entry.{Entry}
use Rattle.zbx_types.specs.declared.entries.Numbered.{Numbered}
use Rattle.zbx_types.specs.declared.entries.Rec.{Rec}
use Rattle.zbx_types.specs.declared.entries.Stored.{Stored}
use Rattle.prep_steps.specs.declared.memory.StepMemory.{StepMemory}
use Rattle.value_cache.specs.Cells.{CellView}
use Rattle.preprocess.specs.Ways.{memory_at}
use Rattle.preprocess.specs.Draft.{visit_at, marks_after}
use Rattle.trigger_state.specs.Stages.{Stage}
use Rattle.trigger_state.specs.declared.stage.Origin.{Origin}
use Rattle.trigger_state.specs.Problems.{open_of}
use Rattle.entry_step.specs.Start.{Start}
use Rattle.entry_step.specs.Log.{tick_with, first_tick, last_number, last_moment, Suits}
use Rattle.entry_step.specs.Occasions.{occasion_of}
use Rattle.entry_step.specs.History.{visits_at, stored_of, marks_of, memory_of, with_stored, history_of}
use Rattle.entry_step.specs.Kept.{Keeps}
use Rattle.entry_step.specs.Due.{due_at}
use Rattle.entry_step.specs.Records.{evaluated, phase_over, triggers_at, failures_at, judged_of, out_of, replay}
use Rattle.entry_step.specs.Cells.{Cells, ItemKey, touches, seen_of, look, AreCellsOf}
use Rattle.entry_step.specs.Represents.{CellsView, IsTidy, Represents}
use Rattle.entry_step.specs.Laws.{AreBehind}
use Rattle.entry_step.specs.Behind.{behind, ReplayBehind, BehindIsGood, HoldsBehind, SuitsBehind}
use Rattle.entry_step.proofs.Members.{each_sub}
use Rattle.entry_step.proofs.Orders.{cells_are, tidy_cells}

-- The searches
tick_behind : (start : Start) (newer older : List Numbered) → first_tick (behind start older) newer ≡ first_tick start (newer ++ older)
tick_behind start [] older = refl
tick_behind start (e ∷ newer) older = ap (λ t. tick_with t e.entry) (tick_behind start newer older)

pub moment_behind : (start : Start) (newer older : List Numbered) → last_moment (behind start older) newer ≡ last_moment start (newer ++ older)
moment_behind start [] older = refl
moment_behind start (e ∷ newer) older = refl

abbrev marks_with : Conf → Numbered → (ℕ → List StepMemory) → ℕ → List StepMemory
marks_with conf e marks id = marks_after (visit_at (visits_at conf (λ i k. memory_at (marks i) k) e.number e.entry) id) (marks id)

marks_behind : (start : Start) (newer older : List Numbered) → marks_of (behind start older) newer ≡ marks_of start (newer ++ older)
unfolding marks_of
marks_behind start [] older = fun_ext (λ id. refl)
marks_behind start (e ∷ newer) older = fun_ext (λ id. ap (λ (m : ℕ → List StepMemory). marks_with start.stage.conf e m id) (marks_behind start newer older))

memory_behind : (start : Start) (newer older : List Numbered) → memory_of (behind start older) newer ≡ memory_of start (newer ++ older)
memory_behind start newer older =
    let read : (ℕ → List StepMemory) → ℕ → ℕ → StepMemory = (λ m i k. memory_at (m i) k) in
    ap read (marks_behind start newer older)

abbrev history_with : Conf → Numbered → (ℕ → ℕ → StepMemory) → (ℕ → List Stored) → ℕ → List Stored
history_with conf e memory history id = with_stored (stored_of conf memory e.number e.entry id) (history id)

pub history_behind : (start : Start) (newer older : List Numbered) → history_of (behind start older) newer ≡ history_of start (newer ++ older)
history_behind start [] older = fun_ext (λ id. refl)
history_behind start (e ∷ newer) older = fun_ext (λ id.
    ap (λ (m : ℕ → ℕ → StepMemory). history_with start.stage.conf e m (history_of (behind start older) newer) id) (memory_behind start newer older)
    ∙ ap (λ (h : ℕ → List Stored). history_with start.stage.conf e (memory_of start (newer ++ older)) h id) (history_behind start newer older))

-- The records
abbrev judged_with : Stage → Numbered → Entry → (ℕ → ℕ → StepMemory) → Option ℕ → (ℕ → List Stored) → List Rec → List Rec
judged_with stage e entry memory first items rs =
    failures_at stage.conf memory e.number entry
    ++ phase_over stage (evaluated stage (occasion_of first e.number entry) items) (rs ++ failures_at stage.conf memory e.number entry) (triggers_at stage.conf memory e.number entry)

abbrev out_with : Stage → Numbered → Entry → (ℕ → ℕ → StepMemory) → Option ℕ → (ℕ → List Stored) → List Rec → List Rec
out_with stage e entry memory first items rs =
    judged_with stage e entry memory first items rs ++ due_at stage entry (open_of stage (rs ++ judged_with stage e entry memory first items rs))

out_is : (start : Start) (log : List Numbered) (e : Numbered) (entry : Entry) (rs : List Rec) → out_of start log e entry rs ≡ out_with start.stage e entry (memory_of start log) (first_tick start log) (history_of start (e ∷ log)) rs
unfolding out_of judged_of
out_is start log e entry rs = refl

pub out_behind : (start : Start) (newer older : List Numbered) (e : Numbered) (rs : List Rec) → out_of (behind start older) newer e e.entry rs ≡ out_of start (newer ++ older) e e.entry rs
out_behind start newer older e rs =
    out_is (behind start older) newer e e.entry rs
    ∙ ap (λ (m : ℕ → ℕ → StepMemory). out_with start.stage e e.entry m (first_tick (behind start older) newer) (history_of (behind start older) (e ∷ newer)) rs) (memory_behind start newer older)
    ∙ ap (λ (t : Option ℕ). out_with start.stage e e.entry (memory_of start (newer ++ older)) t (history_of (behind start older) (e ∷ newer)) rs) (tick_behind start newer older)
    ∙ ap (λ (h : ℕ → List Stored). out_with start.stage e e.entry (memory_of start (newer ++ older)) (first_tick start (newer ++ older)) h rs) (history_behind start (e ∷ newer) older)
    ∙ sym (out_is start (newer ++ older) e e.entry rs)

pub replay_behind : ReplayBehind
replay_behind start [] older = sym (append-nil (replay start older))
replay_behind start (e ∷ newer) older =
    let before = replay start older in
    let more = replay (behind start older) newer in
    let so_far : start.records ++ replay start (newer ++ older) ≡ (start.records ++ before) ++ more = ap (λ rs. start.records ++ rs) (replay_behind start newer older) ∙ sym (append_assoc start.records before more) in
    ap₂ (λ rs out. rs ++ out) (replay_behind start newer older) (ap (out_of start (newer ++ older) e e.entry) so_far ∙ sym (out_behind start newer older e ((start.records ++ before) ++ more)))
    ∙ append_assoc before more (out_of (behind start older) newer e e.entry ((start.records ++ before) ++ more))

-- The cells
number_upto : (start : Start) (log : List Numbered) → AreBehind start log → start.number ≤ last_number start log
number_upto start [] after = omega arith
number_upto start (e ∷ log) after = let l = after.0 in omega arith

pub behind_is_good : BehindIsGood
unfolding look
behind_is_good start older good after =
    let tidy : IsTidy start.stage (look start older (start.records ++ replay start older)) = subst (λ (c : Cells). IsTidy start.stage c) (cells_are start older) (tidy_cells start good older after) in record {
      tidy = record { homes = tidy.homes; tagged = tidy.tagged; absent = tidy.absent };
      origins = each_sub (λ (o : Origin). o.event.number ≤ start.number) (λ (o : Origin). o.event.number ≤ last_number start older) start.stage.origins (λ o u. (let m = number_upto start older after in omega arith)) good.origins;
    }

pub seen_upto : (start : Start) (log : List Numbered) (i : ℕ) → Suits start log → seen_of start log i ≤ last_moment start log
seen_upto start [] i suits = omega arith
seen_upto start (e ∷ log) i suits = go (touches start.stage.conf e.entry (ItemKey i)) (seen_upto start log i suits.0) suits.1
  where
    go : (b : Bool) → seen_of start log i ≤ last_moment start log → last_moment start log ≤ moment_of e.entry → cond b (moment_of e.entry) (seen_of start log i) ≤ moment_of e.entry
    go true l m = omega arith
    go false l m = omega arith

keeps_later : (conf : Conf) (id seen later : ℕ) (history : List Stored) (cell : Option CellView) → seen ≤ later → Keeps conf id seen history cell → Keeps conf id later history cell
keeps_later conf id seen later history None l keeps = keeps
keeps_later conf id seen later history (Some cell) l keeps = (keeps.0, record { ordered = keeps.1.ordered; kept = λ now m. keeps.1.kept now (omega arith) })

represents_later : (start : Start) (held : CellsView) (older : List Numbered) → Suits start older → Represents start.stage held (look start older (start.records ++ replay start older))
    → Represents start.stage held (look (behind start older) [] (start.records ++ replay start older))
unfolding look marks_of
represents_later start held older suits r = record {
  items = r.items;
  ordered = r.ordered;
  memories = r.memories;
  triggers = r.triggers;
  histories = λ id. keeps_later start.stage.conf id (seen_of start older id) (last_moment start older) (history_of start older id) _ (seen_upto start older id suits) (r.histories id);
  marks = r.marks;
  problems = r.problems;
  tick = r.tick;
  tidy = record { homes = r.tidy.homes; tagged = r.tidy.tagged; absent = r.tidy.absent };
}

pub holds_behind : HoldsBehind
unfolding AreCellsOf
holds_behind start held older suits holds =
    let found : Represents start.stage held (look start older (start.records ++ replay start older)) = subst (λ (c : Cells). Represents start.stage held c) holds.stand holds.represented in
    record {
      cells = look (behind start older) [] (start.records ++ replay start older);
      stand = ap (look (behind start older) []) (sym (append-nil (start.records ++ replay start older)));
      represented = represents_later start held older suits found;
    }

pub suits_behind : SuitsBehind
suits_behind start [] older suits = tt
suits_behind start (e ∷ newer) older suits = (suits_behind start newer older suits.0, subst (λ m. m ≤ moment_of e.entry) (sym (moment_behind start newer older)) suits.1, suits.2)
