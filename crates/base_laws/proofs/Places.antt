-- Where the problems of a base come from, as it tells itself.
use Rattle.std.proofs.Common.{◌≡◌, ◌≤◌, ◌<◌, ℕ, ◌+◌, false, cond, inl, inr, Some, List, [], ◌∷◌, refl, ◌∙◌, ap, le_refl, arith}
use Rattle.zbx_types.specs.Records.{same_event, event_of}
use Rattle.zbx_types.specs.declared.base.Base.{Base}
use Rattle.zbx_types.specs.declared.base.BaseProblem.{BaseProblem}
use Rattle.zbx_types.specs.declared.conf.Conf.{Conf}
use Rattle.trigger_state.specs.Stages.{Stage, origin_of, trigger_named, home_by, home, rank_by, rank_of}
use Rattle.trigger_state.specs.declared.stage.Origin.{Origin}
use Rattle.entry_step.specs.Each.{Each, In, EachPair}
use Rattle.entry_step.proofs.Members.{each_at, each_sub}
use Rattle.entry_laws.proofs.Runs.{same_self}
use Rattle.base_laws.specs.Bases.{told_origin, told_origins, base_stage}
use Rattle.base_laws.specs.FitsBase.{trigger_by_names}

-- two problems are different ones
abbrev pub AreApart : BaseProblem → BaseProblem → Type 0
AreApart p q = same_event (event_of p.problem) (event_of q.problem) ≡ false

-- a problem's origin is the one of its place, which isn't before this one
abbrev Stands : List Origin → ℕ → BaseProblem → Type 0
Stands all k q = (n : ℕ) × (k ≤ n) × (origin_of all (event_of q.problem) ≡ Some (told_origin n q))

skipped : (k : ℕ) (p q : BaseProblem) (ps : List BaseProblem) → AreApart p q → origin_of (told_origins k (p ∷ ps)) (event_of q.problem) ≡ origin_of (told_origins (k + 1) ps) (event_of q.problem)
skipped k p q ps d = ap (λ b. cond b (Some (told_origin k p)) (origin_of (told_origins (k + 1) ps) (event_of q.problem))) d

own_place : (k : ℕ) (p : BaseProblem) (ps : List BaseProblem) → origin_of (told_origins k (p ∷ ps)) (event_of p.problem) ≡ Some (told_origin k p)
own_place k p ps = ap (λ b. cond b (Some (told_origin k p)) (origin_of (told_origins (k + 1) ps) (event_of p.problem))) (same_self (event_of p.problem))

module _ (conf : Conf) (all : List Origin) where
  abbrev stage : Stage
  stage = record { conf = conf; origins = all }

  abbrev As : ℕ → List BaseProblem → Type 0
  As k ps = (q : BaseProblem) → In q ps → origin_of all (event_of q.problem) ≡ origin_of (told_origins k ps) (event_of q.problem)

  next_as : (k : ℕ) (p : BaseProblem) (ps : List BaseProblem) → Each (AreApart p) ps → As k (p ∷ ps) → As (k + 1) ps
  next_as k p ps d found q i = found q (inr i) ∙ skipped k p q ps (each_at (AreApart p) ps d q i)

  stand_at : (k : ℕ) (ps : List BaseProblem) → EachPair AreApart ps → As k ps → Each (Stands all k) ps
  stand_at k [] d found = tt
  stand_at k (p ∷ ps) d found = (
    (k, le_refl k, found p (inl refl) ∙ own_place k p ps),
    each_sub (Stands all (k + 1)) (Stands all k) ps (λ q s. (s.0, (let l = s.1 in omega arith), s.2)) (stand_at (k + 1) ps d.1 (next_as k p ps d.0 found)),
  )

  abbrev rank : BaseProblem → ℕ
  rank p = rank_of stage (event_of p.problem)

  rank_is : (n : ℕ) (q : BaseProblem) → origin_of all (event_of q.problem) ≡ Some (told_origin n q) → rank q ≡ n
  rank_is n q e = ap (rank_by conf (event_of q.problem)) e

  home_is : (n : ℕ) (q : BaseProblem) → origin_of all (event_of q.problem) ≡ Some (told_origin n q) → home stage (event_of q.problem) ≡ trigger_by_names conf q.problem
  unfolding trigger_named
  home_is n q e = ap (home_by conf (event_of q.problem)) e

  ranks_rise : (k : ℕ) (ps : List BaseProblem) → EachPair AreApart ps → As k ps → EachPair (λ p q. rank p < rank q) ps
  ranks_rise k [] d found = tt
  ranks_rise k (p ∷ ps) d found = (
    each_sub (Stands all (k + 1)) (λ q. rank p < rank q) ps
        (λ q s. (let a : rank p ≡ k = rank_is k p (found p (inl refl) ∙ own_place k p ps) in let b : rank q ≡ s.0 = rank_is s.0 q s.2 in let l = s.1 in omega (arith, a, b))) (stand_at (k + 1) ps d.1 (next_as k p ps d.0 found)),
    ranks_rise (k + 1) ps d.1 (next_as k p ps d.0 found),
  )

module _ (conf : Conf) (base : Base) (apart : EachPair AreApart base.problems) where
  -- each problem is at home at the trigger that has its names
  pub homes_by_names : Each (λ p. home (base_stage conf base) (event_of p.problem) ≡ trigger_by_names conf p.problem) base.problems
  homes_by_names =
      each_sub (Stands (told_origins 0 base.problems) 0) (λ p. home (base_stage conf base) (event_of p.problem) ≡ trigger_by_names conf p.problem) base.problems
      (λ q s. home_is conf (told_origins 0 base.problems) s.0 q s.2) (stand_at conf (told_origins 0 base.problems) 0 base.problems apart (λ q i. refl))

  pub rise_by_place : EachPair (λ p q. rank_of (base_stage conf base) (event_of p.problem) < rank_of (base_stage conf base) (event_of q.problem)) base.problems
  rise_by_place = ranks_rise conf (told_origins 0 base.problems) 0 base.problems apart (λ q i. refl)

-- the origins are of no later entry
pub origins_upto : (n k : ℕ) (ps : List BaseProblem) → Each (λ p. (event_of p.problem).number ≤ n) ps → Each (λ (o : Origin). o.event.number ≤ n) (told_origins k ps)
origins_upto n k [] h = tt
origins_upto n k (p ∷ ps) h = (h.0, origins_upto n (k + 1) ps h.1)
