-- What a base keeps fits where a loop over it has found that each part does.
use Rattle.std.proofs.Common.{◌≡◌, ◌≢◌, ◌≤◌, ◌<◌, ◌+◌, ◌==◌, ℕ, zero, suc, Bool, true, false, Some, List, [], ◌∷◌, length, slice_get, get_or, refl, sym, ◌∙◌, ap, subst, eqb-true, eq-eqb, arith}
use Rattle.zbx_types.specs.Ids.{at_id}
use Rattle.zbx_types.specs.declared.base.Base.{Base}
use Rattle.zbx_types.specs.declared.base.BaseItem.{BaseItem}
use Rattle.zbx_types.specs.declared.base.BaseProblem.{BaseProblem}
use Rattle.zbx_types.specs.declared.base.BaseStep.{BaseStep}
use Rattle.zbx_types.specs.declared.conf.Conf.{Conf}
use Rattle.zbx_types.specs.declared.items.Item.{Item}
use Rattle.zbx_types.specs.declared.steps.StepSpec.{StepSpec}
use Rattle.value_cache.specs.Keeps.{keep_of, keeps_of}
use Rattle.value_cache.specs.declared.keeping.Keep.{Keep}
use Rattle.preprocess.proofs.Rows.{row_within}
use Rattle.base_laws.specs.FitsBase.{FitTicks, FitsStep, FitsItem, FitsProblem, ComesBehind, most_counted, FitsBase}
use Rattle.entry_step.specs.Each.{EachPair}
use Rattle.entry_step.proofs.Members.{each_both, each_sub}
use Rattle.base_state.specs.Fitting.{FitSteps, FitsAt, FitItems, FitsAlone, IsOfEarlier, Differ, HasTrigger, FitProblems}
use Rattle.base_state.proofs.Histories.{put_there}
use Rattle.base_state.proofs.Pairs.{pairs_sub}

-- ---- places of lists

at_place : {A : Type 0} (xs : List A) (k : ℕ) (x : A) → k < length xs → x ≡ get_or xs k x → slice_get xs k ≡ Some x
at_place [] k x l is = absurd (omega arith)
at_place (y ∷ ys) zero x l is = ap Some (sym is)
at_place (y ∷ ys) (suc k) x l is = at_place ys k x (omega arith) is

within : {A : Type 0} (xs : List A) (k : ℕ) (x : A) → slice_get xs k ≡ Some x → k < length xs
within [] k x e = absurd (cc)
within (y ∷ ys) zero x e = omega arith
within (y ∷ ys) (suc k) x e = let b = within ys k x e in omega (arith, b)

-- ---- steps

module _ (now : ℕ) (steps : List StepSpec) (kept : List BaseStep) where
  abbrev StepsUpTo : ℕ → Type 0
  StepsUpTo k = (place : ℕ) (step : StepSpec) (memory : BaseStep) → place < k → slice_get steps place ≡ Some step → slice_get kept place ≡ Some memory → FitsStep now step memory

  pub steps_more : (k : ℕ) (step : StepSpec) (memory : BaseStep) → length kept ≡ length steps → k < length kept → step ≡ get_or steps k step → memory ≡ get_or kept k memory → FitsStep now step memory → StepsUpTo k → StepsUpTo (k + 1)
  steps_more k step memory same l s m fits before place t n below sp kp = go (place == k) refl
    where
      go : (b : Bool) → (place == k) ≡ b → FitsStep now t n
      go true q =
          let here : place ≡ k = eqb-true place k q in
          let own : Some t ≡ Some step = sym sp ∙ ap (slice_get steps) here ∙ at_place steps k step (omega (arith, same, l)) s in
          let its : Some n ≡ Some memory = sym kp ∙ ap (slice_get kept) here ∙ at_place kept k memory l m in
          let e : t ≡ step = cc in
          let f : n ≡ memory = cc in
          subst (λ x. FitsStep now x n) (sym e) (subst (FitsStep now step) (sym f) fits)
      go false q =
          let ne : place ≢ k = λ e. (let w : (place == k) ≡ true = eq-eqb place k e in cc) in
          before place t n (omega (arith, below, ne)) sp kp

  pub steps_whole : (k : ℕ) → length kept ≡ length steps → length kept ≤ k → StepsUpTo k → FitSteps now steps kept
  steps_whole k same l all = (same, (λ place step memory sp kp. all place step memory (let w = within kept place memory kp in omega (arith, w, l)) sp kp))

  pub step_of : (k : ℕ) (step : StepSpec) (memory : BaseStep) → k < length kept → step ≡ get_or steps k step → memory ≡ get_or kept k memory → FitSteps now steps kept → FitsStep now step memory
  step_of k step memory l s m fit = let same = fit.0 in fit.1 k step memory (at_place steps k step (omega (arith, same, l)) s) (at_place kept k memory l m)

-- ---- items

module _ (conf : Conf) (base : Base) where
  abbrev ItemsUpTo : ℕ → Type 0
  ItemsUpTo k = (id : ℕ) → id ≤ k → FitsAt conf base id

  pub items_none : ItemsUpTo 0
  items_none id l item kept there at = let w = row_within conf.items id item there in absurd (omega (arith, w.0, l))

  pub items_more : (k : ℕ) → FitsAt conf base (k + 1) → ItemsUpTo k → ItemsUpTo (k + 1)
  items_more k own before id l = go (id == k + 1) refl
    where
      go : (b : Bool) → (id == k + 1) ≡ b → FitsAt conf base id
      go true q = subst (FitsAt conf base) (sym (eqb-true id (k + 1) q)) own
      go false q =
          let ne : id ≢ k + 1 = λ e. (let w : (id == k + 1) ≡ true = eq-eqb id (k + 1) e in cc) in
          before id (omega (arith, l, ne))

  pub items_whole : (k : ℕ) → length base.items ≡ length conf.items → length base.items ≤ k → ItemsUpTo k → FitItems conf base
  items_whole k same l all = (same, (λ id item kept there at. all id (let w = row_within base.items id kept at in omega (arith, w.1, l)) item kept there at))

  module _ (keeps : List Keep) (id : ℕ) (item : Item) (kept : BaseItem) (keep : Keep) (same : keeps ≡ keeps_of conf) (there : at_id conf.items id ≡ Some item) (at : at_id base.items id ≡ Some kept) (its : at_id keeps id ≡ Some keep) where
    rule : keep ≡ keep_of conf id
    rule = put_there conf keeps id item keep same there its

    pub item_at : FitsItem keep base.number base.now item kept → FitsAt conf base id
    item_at fits i k p q =
        let own : Some i ≡ Some item = sym p ∙ there in
        let held : Some k ≡ Some kept = sym q ∙ at in
        let e : i ≡ item = cc in
        let f : k ≡ kept = cc in
        subst (λ (x : Item). FitsItem (keep_of conf id) base.number base.now x k) (sym e)
        (subst (λ (x : BaseItem). FitsItem (keep_of conf id) base.number base.now item x) (sym f) (subst (λ (r : Keep). FitsItem r base.number base.now item kept) rule fits))

    pub at_item : FitsAt conf base id → FitsItem keep base.number base.now item kept
    at_item fits = subst (λ (r : Keep). FitsItem r base.number base.now item kept) (sym rule) (fits item kept there at)

-- ---- all

module _ (conf : Conf) (base : Base) where
  behind : (p q : BaseProblem) → ComesBehind p q → IsOfEarlier p q
  behind p q h = h.0

  apart : (p q : BaseProblem) → ComesBehind p q → Differ p q
  apart p q h = h.1

  both : (ps : List BaseProblem) → EachPair IsOfEarlier ps → EachPair Differ ps → EachPair ComesBehind ps
  both [] a b = tt
  both (p ∷ ps) a b = (each_both (IsOfEarlier p) (Differ p) ps a.0 b.0, both ps a.1 b.1)

  pub fits_all : base.number ≤ most_counted → base.lines ≤ most_counted → FitTicks base.now base.first_tick base.last_tick → FitItems conf base → FitProblems conf base.number base.now base.problems → FitsBase conf base
  fits_all number lines ticks items problems = record {
    number = number;
    lines = lines;
    ticks = ticks;
    rows = items.0;
    items = items.1;
    problems = each_sub (λ p. FitsAlone base.number base.now p × HasTrigger conf p) (FitsProblem conf base.number base.now) base.problems
        (λ p h. record { problem = h.0.0; upto = h.0.1.0; actions = h.0.1.1.0; steps = h.0.1.1.1; trigger = h.1 }) (each_both (FitsAlone base.number base.now) (HasTrigger conf) base.problems problems.alone problems.triggers);
    order = both base.problems problems.rise problems.differ;
  }

  pub fit_items : FitsBase conf base → FitItems conf base
  fit_items f = (f.rows, f.items)

  pub fit_problems : FitsBase conf base → FitProblems conf base.number base.now base.problems
  fit_problems f = record {
    alone = each_sub (FitsProblem conf base.number base.now) (FitsAlone base.number base.now) base.problems (λ p h. (h.problem, (h.upto, (h.actions, h.steps)))) f.problems;
    rise = pairs_sub ComesBehind IsOfEarlier base.problems behind f.order;
    differ = pairs_sub ComesBehind Differ base.problems apart f.order;
    triggers = each_sub (FitsProblem conf base.number base.now) (HasTrigger conf) base.problems (λ p h. h.trigger) f.problems;
  }
