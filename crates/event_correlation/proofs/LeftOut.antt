-- Old problems that no rule matches may be left out.
use Rattle.std.proofs.Common.{◌≡◌, Bool, true, false, ◌||◌, cond, List, [], ◌∷◌, ◌++◌, refl, sym, ap}
use Rattle.std.specs.Prelude.{filter, All}
use Rattle.std.specs.List.{list_any}
use Rattle.std.proofs.lemmas.Bool.{and_right}
use Rattle.std.proofs.lemmas.List.Elements.{All-head, All-tail, All-weaker}
use Rattle.zbx_types.specs.declared.entries.Rec.{Rec}
use Rattle.zbx_types.specs.declared.rules.Rule.{Rule}
use Rattle.event_correlation.specs.Conditions.{matches}
use Rattle.event_correlation.specs.Closings.{closes_first, closed_from, closes_new}
use Rattle.event_correlation.specs.Laws.{HasTagsOf, share_reach, WithinReach}
use Rattle.event_correlation.proofs.ReachLemmas.{none_matches}

filter_head : {X : Type 0} (b : Bool) (q : X → Bool) (x : X) (xs ys : List X) → (b ≡ false → q x ≡ false) → filter q ys ≡ filter q xs → filter q (cond b (x ∷ ys) ys) ≡ filter q (x ∷ xs)
filter_head true q x xs ys out e = rw e refl
filter_head false q x xs ys out e = let no = out refl in rw no e

same_filter : {X : Type 0} (p q : X → Bool) (xs : List X) → All (λ x. p x ≡ false → q x ≡ false) xs → filter q (filter p xs) ≡ filter q xs
same_filter p q [] h = refl
same_filter p q (x ∷ xs) h =
    filter_head (p x) q x xs (filter p xs) (All-head (λ x. p x ≡ false → q x ≡ false) x xs h) (same_filter p q xs (All-tail (λ x. p x ≡ false → q x ≡ false) x xs h))

any_head : {X : Type 0} (b : Bool) (q : X → Bool) (x : X) (xs ys : List X) → (b ≡ false → q x ≡ false) → list_any q ys ≡ list_any q xs → list_any q (cond b (x ∷ ys) ys) ≡ list_any q (x ∷ xs)
any_head true q x xs ys out e = ap (λ rest. q x || rest) e
any_head false q x xs ys out e = let no = out refl in rw no e

same_any : {X : Type 0} (p q : X → Bool) (xs : List X) → All (λ x. p x ≡ false → q x ≡ false) xs → list_any q (filter p xs) ≡ list_any q xs
same_any p q [] h = refl
same_any p q (x ∷ xs) h =
    any_head (p x) q x xs (filter p xs) (All-head (λ x. p x ≡ false → q x ≡ false) x xs h) (same_any p q xs (All-tail (λ x. p x ≡ false → q x ≡ false) x xs h))

-- no rule matches a problem that is left out
abbrev Idle : (Rule → Rec → Bool) → (Rec → Bool) → List Rule → Rec → Type 0
Idle m p rules old = p old ≡ false → All (λ rule. m rule old ≡ false) rules

later : (m : Rule → Rec → Bool) (p : Rec → Bool) (rule : Rule) (rules : List Rule) (old : List Rec) → All (Idle m p (rule ∷ rules)) old → All (Idle m p rules) old
later m p rule rules old h = All-weaker (Idle m p (rule ∷ rules)) (Idle m p rules) (λ o idle out. All-tail (λ r. m r o ≡ false) rule rules (idle out)) old h

first : (m : Rule → Rec → Bool) (p : Rec → Bool) (rule : Rule) (rules : List Rule) (old : List Rec) → All (Idle m p (rule ∷ rules)) old → All (λ o. p o ≡ false → m rule o ≡ false) old
first m p rule rules old h = All-weaker (Idle m p (rule ∷ rules)) (λ o. p o ≡ false → m rule o ≡ false) (λ o idle out. All-head (λ r. m r o ≡ false) rule rules (idle out)) old h

same_closed : (m : Rule → Rec → Bool) (p : Rec → Bool) (old : List Rec) (earlier rules : List Rule) → All (Idle m p rules) old → closed_from m (filter p old) earlier rules ≡ closed_from m old earlier rules
same_closed m p old earlier [] h = refl
same_closed m p old earlier (rule ∷ rules) h =
    let here = same_filter p (closes_first m earlier rule) old (All-weaker (λ o. p o ≡ false → m rule o ≡ false) (λ o. p o ≡ false → closes_first m earlier rule o ≡ false)
    (λ o idle out. and_right _ _ (and_right _ _ (idle out))) old (first m p rule rules old h)) in
    let rest = same_closed m p old (earlier ++ rule ∷ []) rules (later m p rule rules old h) in
    rw (here, rest) refl

same_new : (m : Rule → Rec → Bool) (p : Rec → Bool) (old : List Rec) (rules : List Rule) → All (Idle m p rules) old → closes_new m (filter p old) rules ≡ closes_new m old rules
same_new m p old [] h = refl
same_new m p old (rule ∷ rules) h =
    let here = same_any p (m rule) old (first m p rule rules old h) in
    let rest = same_new m p old rules (later m p rule rules old h) in
    rw (here, rest) refl

pub within_reach : WithinReach
within_reach conf new one old trigger_of e f =
    let kept = λ (o : Rec). share_reach conf.correlations one (trigger_of o) in
    let idle = All-weaker (λ o. HasTagsOf (trigger_of o) o) (Idle (matches conf new) kept conf.correlations)
    (λ o tags out. none_matches conf new o one (trigger_of o) e tags conf.correlations out) old f in
    let closed = same_closed (matches conf new) kept old [] conf.correlations idle in
    let itself = same_new (matches conf new) kept old conf.correlations idle in
    sym (rw (closed, itself) refl)
