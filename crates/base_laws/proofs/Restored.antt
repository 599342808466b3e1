-- What is restored from a base holds the start that the base is.
use Rattle.std.proofs.Common.{◌≡◌, ℕ, zero, suc, slice_get, true, Option, Some, None, List, [], ◌∷◌, length, replicate, is_some, IfSome, refl, sym, ◌∙◌, ap, subst, append-nil}
use Rattle.std.specs.Option.{unwrap_or}
use Rattle.zbx_types.specs.Ids.{at_id}
use Rattle.zbx_types.specs.Records.{event_of}
use Rattle.zbx_types.specs.declared.base.Base.{Base}
use Rattle.zbx_types.specs.declared.base.BaseProblem.{BaseProblem}
use Rattle.zbx_types.specs.declared.conf.Conf.{Conf}
use Rattle.zbx_types.specs.declared.entries.Stored.{Stored}
use Rattle.zbx_types.specs.declared.items.Item.{Item}
use Rattle.zbx_types.proofs.RowLemmas.{at_zero, at_suc}
use Rattle.value_cache.specs.Cells.{CellView, trim}
use Rattle.value_cache.specs.Histories.{IsOrdered}
use Rattle.value_cache.specs.Keeps.{keep_of}
use Rattle.trigger_state.specs.Stages.{Stage, home}
use Rattle.trigger_state.specs.Problems.{open_of, absorbed_all}
use Rattle.trigger_state.specs.declared.problems.Open.{Open}
use Rattle.base_laws.specs.Bases.{read_history, start_records, base_stage, told_start}
use Rattle.entry_step.specs.Cells.{look, AreCellsOf}
use Rattle.base_laws.specs.Sound.{IsSound}
use Rattle.entry_step.specs.Each.{Each}
use Rattle.base_laws.specs.FitsBase.{trigger_by_names, FitsProblem, ComesBehind}
use Rattle.entry_step.specs.History.{marks_of}
use Rattle.entry_step.specs.Kept.{Keeps}
use Rattle.entry_step.specs.Represents.{CellsView, problems_at}
use Rattle.base_laws.specs.Restoring.{AreHoused, IsRestored, RestoredHolds}
use Rattle.base_laws.proofs.Fitting.{fits_is_sound}
use Rattle.entry_step.proofs.Phases.{none_same}
use Rattle.entry_step.proofs.Problems.{open_append}
use Rattle.entry_step.proofs.Represented.{length_replicated}
use Rattle.base_laws.proofs.Making.{pairs_sub}
use Rattle.base_laws.proofs.Places.{AreApart, homes_by_names}

-- each problem has a row
all_housed : (stage : Stage) (base : Base) (ps : List BaseProblem) → Each (FitsProblem stage.conf base.number base.now) ps → Each (λ p. home stage (event_of p.problem) ≡ trigger_by_names stage.conf p.problem) ps
    → AreHoused stage (replicate (length stage.conf.triggers) []) ps
all_housed stage base [] fits at = tt
all_housed stage base (p ∷ ps) fits at = (go (at_id rows (home stage (event_of p.problem))) refl, all_housed stage base ps fits.1 at.1)
  where
    rows : List (List Open)
    rows = replicate (length stage.conf.triggers) []

    go : (o : Option (List Open)) → at_id rows (home stage (event_of p.problem)) ≡ o → is_some (at_id rows (home stage (event_of p.problem))) ≡ true
    go None q =
        let none : at_id stage.conf.triggers (home stage (event_of p.problem)) ≡ None = none_same rows stage.conf.triggers (home stage (event_of p.problem)) (length_replicated (length stage.conf.triggers) []) q in
        let tagged = fits.0.trigger in
        let there : at_id stage.conf.triggers (home stage (event_of p.problem)) ≡ Some tagged.0 = ap (at_id stage.conf.triggers) at.0 ∙ tagged.1 in
        let clash : None ≡ Some tagged.0 = sym none ∙ there in cc
    go (Some row) q = ap is_some q

replicated_rows : (n id : ℕ) → problems_at (replicate n []) id ≡ []
unfolding problems_at
replicated_rows n zero = ap (λ o. unwrap_or o []) (at_zero (replicate n []))
replicated_rows n (suc k) = ap (λ o. unwrap_or o []) (at_suc (replicate n []) k) ∙ go n k
  where
    at : ℕ → ℕ → Option (List Open)
    at n k = slice_get (replicate n []) k

    go : (n k : ℕ) → unwrap_or (at n k) [] ≡ []
    go zero k = refl
    go (suc n) zero = refl
    go (suc n) (suc k) = go n k

module _ (conf : Conf) (base : Base) (sound : IsSound (told_start conf base)) (held : CellsView) (r : IsRestored (base_stage conf base) base held) where
  abbrev stage : Stage
  stage = base_stage conf base

  abbrev history : ℕ → List Stored
  history id = read_history (at_id stage.conf.items id) (at_id base.items id)

  in_order : (id : ℕ) (o : Option CellView) → IfSome o (λ cell. (cell.keep ≡ keep_of stage.conf id) × (cell.values ≡ history id)) → IfSome o (λ cell. IsOrdered cell.values)
  in_order id None h = tt
  in_order id (Some cell) h = subst IsOrdered (sym h.1) (sound.ordered id)

  kept : (id seen : ℕ) (o : Option CellView) → at_id held.items id ≡ o → IfSome o (λ cell. (cell.keep ≡ keep_of stage.conf id) × (cell.values ≡ history id)) → Keeps stage.conf id seen (history id) o
  kept id seen None q h = ap (λ (i : Option Item). read_history i (at_id base.items id)) (none_same held.items stage.conf.items id r.items q)
  kept id seen (Some cell) q h = (h.0, record { ordered = sound.ordered id; kept = λ now l. ap (trim cell.keep now) h.1 })

  opened : (id : ℕ) → problems_at held.problems id ≡ open_of stage (start_records base) id
  opened id =
      r.problems.each id ∙ ap (λ os. absorbed_all stage id os (start_records base)) (replicated_rows (length stage.conf.triggers) id) ∙ sym (open_append stage id [] (start_records base))

pub restored_holds : RestoredHolds
unfolding AreCellsOf look marks_of
restored_holds conf base fits = (
  all_housed (base_stage conf base) base base.problems fits.problems (homes_by_names conf base (pairs_sub ComesBehind AreApart base.problems (λ p q k. k.1) fits.order)),
  λ held r. (let sound = fits_is_sound conf base fits in record {
    cells = look (told_start conf base) [] (start_records base);
    stand = ap (look (told_start conf base) []) (sym (append-nil (start_records base)));
    represented = record {
      items = r.items;
      ordered = λ id. in_order conf base sound held r id (at_id held.items id) (r.cells id);
      memories = r.memories;
      triggers = r.problems.size ∙ length_replicated (length conf.triggers) [];
      histories = λ id. kept conf base sound held r id base.now (at_id held.items id) refl (r.cells id);
      marks = r.marks;
      problems = λ id. opened conf base sound held r id;
      tick = r.tick;
      tidy = sound.good.tidy;
    };
  }),
)
