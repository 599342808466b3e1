-- Entries that are taken one after another.
use Rattle.std.proofs.Common.{◌≡◌, ℕ, ◌+◌, ◌<◌, ◌≤◌, List, [], ◌∷◌, ◌++◌, length, get_or, take, drop, refl, sym, ◌∙◌, ap, subst, append-nil, arith}
use Rattle.std.proofs.lemmas.List.{take_more, drop_more, take_all, drop_all, take-append-drop}
use Rattle.trigger_state.specs.Stages.{Stage}
use Rattle.zbx_types.specs.declared.entries.Numbered.{Numbered}
use Rattle.zbx_types.specs.declared.entries.Rec.{Rec}
use Rattle.preprocess.specs.Visits.{memory_in as memory_kept}
use Rattle.entry_step.specs.Cells.{Cells, memory_in, records, after}
use Rattle.entry_step.specs.Laws.{cells_done, records_done}
use Rattle.entry_step.specs.Records.{triggers_at}
use Rattle.entry_step.specs.Represents.{CellsView, Represents, StepsTo}
use Rattle.entry_step.specs.Parts.{AllCome, evaluations}
use Rattle.entry_step.specs.Stepping.{AllMade, AllCounted, AreSteppedTo}
use Rattle.entry_step.proofs.Represented.{memory_is}

-- so many of the entries are taken
pub record Halfway (stage : Stage) (c : Cells) (es : List Numbered) (k : ℕ) (held : CellsView) (made : List (List Rec)) (before now : ℕ) : Type 0 where
  pub represented : Represents stage held (cells_done stage c (take k es))
  pub come : AllCome stage (cells_done stage c (take k es)) (drop k es)
  pub told : made ++ records_done stage (cells_done stage c (take k es)) (drop k es) ≡ records_done stage c es
  pub count : now + evaluations stage (cells_done stage c (take k es)) (drop k es) ≡ before + evaluations stage c es

-- so they are, whatever cells it is that were represented
abbrev pub AllHalfway : Stage → CellsView → List Numbered → ℕ → CellsView → List (List Rec) → ℕ → ℕ → Type 0
AllHalfway stage held es k next made before now = (c : Cells) → Represents stage held c → AllCome stage c es → Halfway stage c es k next made before now

pub none_yet : (stage : Stage) (held : CellsView) (es : List Numbered) (steps : ℕ) → AllHalfway stage held es 0 held [] steps steps
none_yet stage held es steps c r come = record { represented = r; come = come; told = refl; count = refl }

done_append : (stage : Stage) (c : Cells) (es : List Numbered) (e : Numbered) → cells_done stage c (es ++ e ∷ []) ≡ after stage (cells_done stage c es) e
done_append stage c [] e = refl
done_append stage c (x ∷ es) e = done_append stage (after stage c x) es e

done_more : (stage : Stage) (c : Cells) (es : List Numbered) (k : ℕ) (e : Numbered) → k < length es → e ≡ get_or es k e → cells_done stage c (take (k + 1) es) ≡ after stage (cells_done stage c (take k es)) e
done_more stage c es k e l at = ap (cells_done stage c) (take_more es k e l ∙ ap (λ x. take k es ++ x ∷ []) (sym at)) ∙ done_append stage c (take k es) e

rest_is : (es : List Numbered) (k : ℕ) (e : Numbered) → k < length es → e ≡ get_or es k e → drop k es ≡ e ∷ drop (k + 1) es
rest_is es k e l at = drop_more es k e l ∙ ap (λ x. x ∷ drop (k + 1) es) (sym at)

append_one : {A : Type 0} (xs : List A) (x : A) (ys : List A) → (xs ++ x ∷ []) ++ ys ≡ xs ++ x ∷ ys
append_one [] x ys = refl
append_one (z ∷ xs) x ys = ap (λ zs. z ∷ zs) (append_one xs x ys)

module _ (stage : Stage) (held : CellsView) (es : List Numbered) (k : ℕ) (now next : CellsView) (made : List (List Rec)) (before steps : ℕ) (e : Numbered) (rs : List Rec) (l : k < length es) (at : e ≡ get_or es k e) (steps_to : StepsTo stage now e rs next)
    (so_far : AllHalfway stage held es k now made before steps) where
  module _ (c : Cells) (r : Represents stage held c) (come : AllCome stage c es) where
    abbrev d : Cells
    d = cells_done stage c (take k es)

    h : Halfway stage c es k now made before steps
    h = so_far c r come

    comes : AllCome stage d (e ∷ drop (k + 1) es)
    comes = subst (AllCome stage d) (rest_is es k e l at) h.come

    both : (rs ≡ records stage d e) × Represents stage next (after stage d e)
    both = steps_to d comes.0 h.represented comes.1 comes.2

    stands : Represents stage next (cells_done stage c (take (k + 1) es))
    stands = subst (Represents stage next) (sym (done_more stage c es k e l at)) both.1

    one_more : (more : List (List Rec)) (after_it : ℕ) → more ≡ made ++ rs ∷ [] → after_it ≡ steps + length (triggers_at stage.conf (memory_kept now.memories) e.number e.entry) → Halfway stage c es (k + 1) next more before after_it
    one_more more after_it q n = record {
      represented = stands;
      come = subst (λ (x : Cells). AllCome stage x (drop (k + 1) es)) (sym (done_more stage c es k e l at)) comes.3;
      told =
          ap (λ xs. xs ++ records_done stage (cells_done stage c (take (k + 1) es)) (drop (k + 1) es)) q
          ∙ append_one made rs (records_done stage (cells_done stage c (take (k + 1) es)) (drop (k + 1) es))
          ∙ ap (λ x. made ++ x ∷ records_done stage (cells_done stage c (take (k + 1) es)) (drop (k + 1) es)) both.0
          ∙ ap (λ (x : Cells). made ++ records stage d e ∷ records_done stage x (drop (k + 1) es)) (done_more stage c es k e l at)
          ∙ ap (λ xs. made ++ records_done stage d xs) (sym (rest_is es k e l at)) ∙ h.told;
      count = counted;
    }
      where
        counted : after_it + evaluations stage (cells_done stage c (take (k + 1) es)) (drop (k + 1) es) ≡ before + evaluations stage c es
        counted =
            let a : evaluations stage (cells_done stage c (take (k + 1) es)) (drop (k + 1) es) ≡ evaluations stage (after stage d e) (drop (k + 1) es) = ap (λ (x : Cells). evaluations stage x (drop (k + 1) es)) (done_more stage c es k e l at) in
            let b : evaluations stage d (drop k es) ≡ length (triggers_at stage.conf (memory_in d) e.number e.entry) + evaluations stage (after stage d e) (drop (k + 1) es) = ap (evaluations stage d) (rest_is es k e l at) in
            let m : length (triggers_at stage.conf (memory_kept now.memories) e.number e.entry) ≡ length (triggers_at stage.conf (memory_in d) e.number e.entry) = ap (λ memory. length (triggers_at stage.conf memory e.number e.entry)) (memory_is stage now d h.represented) in
            let g : steps + evaluations stage d (drop k es) ≡ before + evaluations stage c es = h.count in
            omega arith

  pub more_halfway : (more : List (List Rec)) (after_it : ℕ) → more ≡ made ++ rs ∷ [] → after_it ≡ steps + length (triggers_at stage.conf (memory_kept now.memories) e.number e.entry) → AllHalfway stage held es (k + 1) next more before after_it
  more_halfway more after_it q n c r come = one_more c r come more after_it q n

  -- also where there is no room for the records
  pub more_taken : AreSteppedTo stage held es next
  more_taken c r come = record { taken = take (k + 1) es; rest = drop (k + 1) es; all = take-append-drop (k + 1) es; represented = stands c r come }

module _ (stage : Stage) (held : CellsView) (es : List Numbered) (k : ℕ) (now : CellsView) (made : List (List Rec)) (before steps : ℕ) (so_far : AllHalfway stage held es k now made before steps) where
  pub some_taken : AreSteppedTo stage held es now
  some_taken c r come = record { taken = take k es; rest = drop k es; all = take-append-drop k es; represented = (so_far c r come).represented }

  module _ (past : length es ≤ k) where
    pub all_made : AllMade stage held es made now
    all_made c r come =
        let h = so_far c r come in (
          sym (append-nil made) ∙ ap (λ xs. made ++ records_done stage (cells_done stage c (take k es)) xs) (sym (drop_all k es past)) ∙ h.told,
          subst (λ xs. Represents stage now (cells_done stage c xs)) (take_all k es past) h.represented,
        )

    pub all_counted : AllCounted stage held es before steps
    all_counted c r come =
        let h = so_far c r come in
        let n : evaluations stage (cells_done stage c (take k es)) (drop k es) ≡ 0 = ap (evaluations stage (cells_done stage c (take k es))) (drop_all k es past) in
        let g : steps + evaluations stage (cells_done stage c (take k es)) (drop k es) ≡ before + evaluations stage c es = h.count in
        omega arith
