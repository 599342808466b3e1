use Rattle.std.proofs.Common.{rules, tests, IfOk, subst, ◌≡◌, ◌∙◌, ◌≢◌, ◌&&◌, Bool, true, false, eqb, eqb-true, eq-eqb, ap, sym, refl, map, ℕ}
use Rattle.std.specs.Bool.{Decides}
use Rattle.std.specs.Cmp.{decided}
use Rattle.std.specs.HashSet as bag
use Rattle.std.specs.HashSet.{hash_set_len}
use Rattle.std.proofs.lemmas.Iterator.{YieldsList-from_map, YieldsList-from_slice}
use Rattle.std.proofs.lemmas.Iterator.Adapters.{fact_from_collect}
use Rattle.std.proofs.lemmas.Iterator.Consumers.{YieldsList-at}
use Rattle.std.proofs.lemmas.Map.Made.{hash_set_len-Decides}
use Rattle.zbx_types.specs.Records.{same_event, event_of}
use Rattle.zbx_types.specs.declared.base.BaseProblem.{BaseProblem}
use Rattle.entry_step.specs.Each.{EachPair}
use Rattle.entry_step.proofs.Members.{and_left, and_right, and_both}
use Rattle.base_state.specs.Fitting.{event_key, Differ}
use Rattle.base_state.proofs.Pairs.{as_well, pairs_sub, sizes}
use Rattle.base_state.proofs.fitting_problems.differ.Goals as goal

abbrev same_key : ℕ × ℕ → ℕ × ℕ → Bool
same_key x y = eqb x.0 y.0 && eqb x.1 y.1

decides : (x y : ℕ × ℕ) → Decides (same_key x y) (x ≡ y)
decides x y = (
  λ t. (λ i. (eqb-true x.0 y.0 (and_left (eqb x.0 y.0) (eqb x.1 y.1) t) i, eqb-true x.1 y.1 (and_right (eqb x.0 y.0) (eqb x.1 y.1) t) i)),
  λ e. and_both (eqb x.0 y.0) (eqb x.1 y.1) (eq-eqb x.0 y.0 (ap (λ (k : ℕ × ℕ). k.0) e)) (eq-eqb x.1 y.1 (ap (λ (k : ℕ × ℕ). k.1) e)),
)

others : (p q : BaseProblem) → event_key p ≢ event_key q → Differ p q
others p q ne = go (same_event (event_of p.problem) (event_of q.problem)) refl
  where
    go : (b : Bool) → same_event (event_of p.problem) (event_of q.problem) ≡ b → b ≡ false
    go true t = absurd (ne ((decides (event_key p) (event_key q)).0 t))
    go false t = refl

keys : (p q : BaseProblem) → Differ p q → event_key p ≢ event_key q
keys p q d e = let t : same_event (event_of p.problem) (event_of q.problem) ≡ true = (decides (event_key p) (event_key q)).1 e in let clash : true ≡ false = sym t ∙ d in absurd (cc)

pub returns : goal.returns
returns c =
    let made : IfOk c.collect.result (bag.IsFromIterResult same_key (map event_key c.args.problems.now)) =
    fact_from_collect (bag.IsFromIterResult same_key) c.collect.result c.collect.ensures.ran
    (YieldsList-from_map _ event_key (YieldsList-at c.map.ensures.source (YieldsList-from_slice {s = c.iter.result} c.args.problems.now (search rules))) c.map.ensures.closure (λ x r q k. search (rules, tests))) in
    let h : bag.IsFromIterResult same_key (map event_key c.args.problems.now) c.in_ok-events.events = subst (λ r. IfOk r (bag.IsFromIterResult same_key (map event_key c.args.problems.now))) c.in_ok-events.was made in
    as_well _ (EachPair (λ p q. event_key p ≢ event_key q) c.args.problems.now) (EachPair Differ c.args.problems.now)
    (pairs_sub (λ p q. event_key p ≢ event_key q) Differ c.args.problems.now others) (pairs_sub Differ (λ p q. event_key p ≢ event_key q) c.args.problems.now keys)
    (sizes event_key c.args.problems.now c.len.result (hash_set_len c.in_ok-events.events) c.len.ensures.len (hash_set_len-Decides decides (decided same_key decides) (map event_key c.args.problems.now) c.in_ok-events.events h))
