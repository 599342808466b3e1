-- The records that stand for open problems have steps that rise, and their numbers don't fall.
use Rattle.std.proofs.Common.{◌≡◌, ◌≤◌, ℕ, Bool, true, false, cond, ◌&&◌, Some, None, List, [], ◌∷◌, ◌++◌, map, flat_map, bytes_eq, refl, sym, ◌∙◌, ap, ap₂, subst, append-nil, eq-eqb, nat_cmp, is_lt}
use Rattle.std.specs.Cmp.Lexicographic.{slice_cmp}
use Rattle.std.specs.List.{cons_option}
use Rattle.zbx_types.specs.Records.{same_event, event_of}
use Rattle.zbx_types.specs.declared.base.BaseProblem.{BaseProblem}
use Rattle.zbx_types.specs.declared.base.Ran.{Ran}
use Rattle.zbx_types.specs.declared.entries.EventId.{EventId}
use Rattle.zbx_types.specs.declared.entries.Rec.{Rec}
use Rattle.zbx_types.specs.declared.entries.Rec.TheVariants.{Failure, Problem, Recovery, Step, Message}
use Rattle.base_laws.specs.Bases.{read_ran, read_problem}
use Rattle.base_laws.specs.Sound.{ComesFirst}
use Rattle.entry_step.specs.Each.{Each, EachPair}
use Rattle.entry_step.specs.Making.{is_problem}
use Rattle.entry_laws.specs.Rising.{step_of, steps_run, RiseByOne, is_of, StandsBehind, IsUpTo, HaveSteps}
use Rattle.entry_step.proofs.Members.{each_append, each_sub}
use Rattle.entry_laws.proofs.Runs.{same_is, other_flip, runs_append, runs_none, is_none}
use Rattle.base_laws.proofs.Making.{pairs_sub, pairs_both}
use Rattle.base_laws.proofs.Steps.{name_is, before_other}

-- an action comes before another one in the order of their names
abbrev pub RunsBefore : Ran → Ran → Type 0
RunsBefore a b = is_lt (slice_cmp nat_cmp a.action b.action) ≡ true

-- a problem of an entry up to this number, with one step of each action
pub record Stands (n : ℕ) (p : BaseProblem) : Type 0 where
  pub problem : is_problem p.problem ≡ true
  pub number : (event_of p.problem).number ≤ n
  pub ran : EachPair RunsBefore p.ran

-- another problem, of no earlier entry
abbrev pub Follows : BaseProblem → BaseProblem → Type 0
Follows p q = ((event_of p.problem).number ≤ (event_of q.problem).number) × (same_event (event_of p.problem) (event_of q.problem) ≡ false)

-- The records of an event
abbrev IsFor : EventId → Rec → Type 0
IsFor e (Problem event now severity suppressed host trigger name tags) = event ≡ e
IsFor e (Step event action step now) = event ≡ e
IsFor e (Failure number host key why) = ⊥
IsFor e (Recovery event by now cause) = ⊥
IsFor e (Message event action step recipient subject body) = ⊥

ran_for : (e : EventId) (ran : List Ran) → Each (IsFor e) (map (read_ran e) ran)
ran_for e [] = tt
ran_for e (r ∷ rs) = (refl, ran_for e rs)

own_for : (r : Rec) → is_problem r ≡ true → IsFor (event_of r) r
own_for (Problem event now severity suppressed host trigger name tags) q = refl
own_for (Failure number host key why) q = cc
own_for (Recovery event by now cause) q = cc
own_for (Step event action step now) q = cc
own_for (Message event action step recipient subject body) q = cc

all_for : (p : BaseProblem) → is_problem p.problem ≡ true → Each (IsFor (event_of p.problem)) (read_problem p)
all_for p q = (own_for p.problem q, ran_for (event_of p.problem) p.ran)

-- up to a number
for_upto : (n : ℕ) (e : EventId) (r : Rec) → e.number ≤ n → IsFor e r → IsUpTo n r
for_upto n e (Problem event now severity suppressed host trigger name tags) l q = subst (λ (v : EventId). v.number ≤ n) (sym q) l
for_upto n e (Step event action step now) l q = subst (λ (v : EventId). v.number ≤ n) (sym q) l
for_upto n e (Failure number host key why) l q = tt
for_upto n e (Recovery event by now cause) l q = tt
for_upto n e (Message event action step recipient subject body) l q = tt

upto : (n : ℕ) (ps : List BaseProblem) → Each (Stands n) ps → Each (IsUpTo n) (flat_map read_problem ps)
upto n [] h = tt
upto n (p ∷ ps) h = each_append (IsUpTo n) (read_problem p) (flat_map read_problem ps) (each_sub (IsFor (event_of p.problem)) (IsUpTo n) (read_problem p) (λ r q. for_upto n (event_of p.problem) r h.0.number q) (all_for p h.0.problem)) (upto n ps h.1)

-- each two
abbrev Comes : Rec → Rec → Type 0
Comes r s = StandsBehind r s × ComesFirst r s

of_other : (w v : EventId) (r : Rec) → same_event w v ≡ false → IsFor v r → is_of w r ≡ false
of_other w v (Problem event now severity suppressed host trigger name tags) d q = ap (same_event w) q ∙ d
of_other w v (Step event action step now) d q = ap (same_event w) q ∙ d
of_other w v (Failure number host key why) d q = refl
of_other w v (Recovery event by now cause) d q = refl
of_other w v (Message event action step recipient subject body) d q = refl

crosses : (v w : EventId) (r s : Rec) → v.number ≤ w.number → same_event v w ≡ false → IsFor v r → IsFor w s → Comes r s
crosses v w r (Problem event now severity suppressed host trigger name tags) l d p q = (
  of_other event v r (ap (λ u. same_event u v) q ∙ other_flip v w d) p,
  for_upto event.number v r (subst (λ (u : EventId). v.number ≤ u.number) (sym q) l) p,
)
crosses v w r (Step event action step now) l d p q = (tt, tt)
crosses v w r (Failure number host key why) l d p q = absurd q
crosses v w r (Recovery event by now cause) l d p q = absurd q
crosses v w r (Message event action step recipient subject body) l d p q = absurd q

behind_steps : (r : Rec) (e : EventId) (ran : List Ran) → Each (Comes r) (map (read_ran e) ran)
behind_steps r e [] = tt
behind_steps r e (x ∷ xs) = ((tt, tt), behind_steps r e xs)

step_pairs : (e : EventId) (ran : List Ran) → EachPair Comes (map (read_ran e) ran)
step_pairs e [] = tt
step_pairs e (x ∷ xs) = (behind_steps (read_ran e x) e xs, step_pairs e xs)

behind_all : (n : ℕ) (p : BaseProblem) (r : Rec) → IsFor (event_of p.problem) r → (ps : List BaseProblem) → Each (Stands n) ps → Each (Follows p) ps → Each (Comes r) (flat_map read_problem ps)
behind_all n p r is [] h f = tt
behind_all n p r is (q ∷ qs) h f =
    each_append (Comes r) (read_problem q) (flat_map read_problem qs)
    (each_sub (IsFor (event_of q.problem)) (Comes r) (read_problem q) (λ s k. crosses (event_of p.problem) (event_of q.problem) r s (f.0).0 (f.0).1 is k) (all_for q h.0.problem))
    (behind_all n p r is qs h.1 f.1)

all_pairs : (n : ℕ) (ps : List BaseProblem) → Each (Stands n) ps → EachPair Follows ps → EachPair Comes (flat_map read_problem ps)
all_pairs n [] h f = tt
all_pairs n (p ∷ ps) h f =
    pairs_both Comes (read_problem p) (flat_map read_problem ps) (behind_steps p.problem (event_of p.problem) p.ran, step_pairs (event_of p.problem) p.ran) (all_pairs n ps h.1 f.1)
    (each_sub (IsFor (event_of p.problem)) (λ r. Each (Comes r) (flat_map read_problem ps)) (read_problem p) (λ r is. behind_all n p r is ps h.1 f.0) (all_for p h.0.problem))

-- At most one step of an event and action
abbrev IsSingle : List ℕ → Type 0
IsSingle [] = Unit {0}
IsSingle (n ∷ []) = Unit {0}
IsSingle (n ∷ m ∷ ns) = ⊥

single_rises : (ns : List ℕ) → IsSingle ns → RiseByOne ns
single_rises [] s = tt
single_rises (n ∷ []) s = tt
single_rises (n ∷ m ∷ ns) s = absurd s

bytes_same : (x y : List ℕ) → x ≡ y → bytes_eq x y ≡ true
bytes_same x y q = subst (λ z. bytes_eq x z ≡ true) q (same_self x)
  where
    same_self : (xs : List ℕ) → bytes_eq xs xs ≡ true
    same_self [] = refl
    same_self (z ∷ zs) = ap₂ (λ b c. b && c) (eq-eqb z z refl) (same_self zs)

module _ (e : EventId) (a : List ℕ) where
  none_others : (n : ℕ) (ps : List BaseProblem) → Each (Stands n) ps → Each (λ (q : BaseProblem). same_event e (event_of q.problem) ≡ false) ps → steps_run e a (flat_map read_problem ps) ≡ []
  none_others n [] h d = refl
  none_others n (p ∷ ps) h d =
      runs_append e a (read_problem p) (flat_map read_problem ps)
      ∙ ap₂ (λ xs ys. xs ++ ys)
      (runs_none e a (read_problem p) (each_sub (IsFor (event_of p.problem)) (λ r. step_of e a r ≡ None) (read_problem p) (λ r is. is_none e a r (of_other e (event_of p.problem) r d.0 is)) (all_for p h.0.problem)))
      (none_others n ps h.1 d.1)

  off : (b c : Bool) → c ≡ false → (b && c) ≡ false
  off true c q = q
  off false c q = refl

  -- two names of which one is that of the action, and the other another one
  flip_off : (x y : List ℕ) → x ≡ a → bytes_eq x y ≡ false → bytes_eq y a ≡ false
  flip_off x y is d = go (bytes_eq y a) refl
    where
      go : (b : Bool) → bytes_eq y a ≡ b → b ≡ false
      go true q = let same : bytes_eq x y ≡ true = bytes_same x y (is ∙ sym (name_is y a q)) in cc
      go false q = refl

  none_behind : (v : EventId) (x : Ran) (xs : List Ran) → bytes_eq x.action a ≡ true → Each (RunsBefore x) xs → steps_run e a (map (read_ran v) xs) ≡ []
  none_behind v x xs q h = runs_none e a (map (read_ran v) xs) (each_ran xs h)
    where
      one : (y : Ran) → RunsBefore x y → step_of e a (read_ran v y) ≡ None
      one y l =
          let other : bytes_eq y.action a ≡ false = flip_off x.action y.action (name_is x.action a q) (before_other (read_ran v x) (read_ran v y) l) in
          ap (λ b. cond b (Some y.step) None) (off (same_event e v) (bytes_eq y.action a) other)

      each_ran : (ys : List Ran) → Each (RunsBefore x) ys → Each (λ r. step_of e a r ≡ None) (map (read_ran v) ys)
      each_ran [] k = tt
      each_ran (y ∷ ys) k = (one y k.0, each_ran ys k.1)

  own_single : (v : EventId) (xs : List Ran) → EachPair RunsBefore xs → IsSingle (steps_run e a (map (read_ran v) xs))
  own_single v [] o = tt
  own_single v (x ∷ xs) o = go (same_event e v) (bytes_eq x.action a) refl (own_single v xs o.1)
    where
      rest : List ℕ
      rest = steps_run e a (map (read_ran v) xs)

      go : (b c : Bool) → bytes_eq x.action a ≡ c → IsSingle rest → IsSingle (cons_option (cond (b && c) (Some x.step) None) rest)
      go true true q ih = subst (λ ns. IsSingle (x.step ∷ ns)) (sym (none_behind v x xs q o.0)) tt
      go true false q ih = ih
      go false c q ih = ih

  single : (n : ℕ) (ps : List BaseProblem) → Each (Stands n) ps → EachPair Follows ps → IsSingle (steps_run e a (flat_map read_problem ps))
  single n [] h f = tt
  single n (p ∷ ps) h f = go (same_event e (event_of p.problem)) refl (single n ps h.1 f.1)
    where
      v : EventId
      v = event_of p.problem

      no_step : (r : Rec) → is_problem r ≡ true → (xs : List Rec) → steps_run e a (r ∷ xs) ≡ steps_run e a xs
      no_step (Problem event now severity suppressed host trigger name tags) q xs = refl
      no_step (Failure number host key why) q xs = refl
      no_step (Recovery event by now cause) q xs = refl
      no_step (Step event action step now) q xs = cc
      no_step (Message event action step recipient subject body) q xs = refl

      parts : steps_run e a (flat_map read_problem (p ∷ ps)) ≡ steps_run e a (map (read_ran v) p.ran) ++ steps_run e a (flat_map read_problem ps)
      parts = runs_append e a (read_problem p) (flat_map read_problem ps) ∙ ap (λ xs. xs ++ steps_run e a (flat_map read_problem ps)) (no_step p.problem h.0.problem (map (read_ran v) p.ran))

      go : (b : Bool) → same_event e v ≡ b → IsSingle (steps_run e a (flat_map read_problem ps)) → IsSingle (steps_run e a (flat_map read_problem (p ∷ ps)))
      go true q ih =
          let none = none_others n ps h.1 (each_sub (Follows p) (λ (x : BaseProblem). same_event e (event_of x.problem) ≡ false) ps (λ x k. ap (λ u. same_event u (event_of x.problem)) (same_is e v q) ∙ k.1) f.0) in
          subst IsSingle (sym (parts ∙ ap (λ xs. steps_run e a (map (read_ran v) p.ran) ++ xs) none ∙ append-nil (steps_run e a (map (read_ran v) p.ran)))) (own_single v p.ran h.0.ran)
      go false q ih =
          let none : steps_run e a (map (read_ran v) p.ran) ≡ [] = runs_none e a (map (read_ran v) p.ran) (each_sub (IsFor v) (λ r. step_of e a r ≡ None) (map (read_ran v) p.ran) (λ r is. is_none e a r (of_other e v r q is)) (ran_for v p.ran)) in
          subst IsSingle (sym (parts ∙ ap (λ xs. xs ++ steps_run e a (flat_map read_problem ps)) none)) ih

-- So they have steps that rise.
pub stand : (n : ℕ) (ps : List BaseProblem) → Each (Stands n) ps → EachPair Follows ps → HaveSteps n (flat_map read_problem ps) × EachPair ComesFirst (flat_map read_problem ps)
stand n ps h f =
    let pairs = all_pairs n ps h f in (
      record {
        upto = upto n ps h;
        behind = pairs_sub Comes StandsBehind (flat_map read_problem ps) (λ x y k. k.0) pairs;
        rise = λ event action. single_rises (steps_run event action (flat_map read_problem ps)) (single event action n ps h f);
      },
      pairs_sub Comes ComesFirst (flat_map read_problem ps) (λ x y k. k.1) pairs,
    )
