-- The lists of triggers over items, with one id more.
use Rattle.std.proofs.Common.{◌≡◌, ℕ, ◌+◌, ◌<◌, ◌==◌, Bool, true, false, cond, not, ◌||◌, List, [], ◌∷◌, ◌++◌, length, take, filter, get_or, refl, sym, ◌∙◌, ap, append-nil, eqb-true, arith}
use Rattle.std.proofs.lemmas.List.{take_more, length-take-le}
use Rattle.std.proofs.lemmas.List.Folds.{list_any-append}
use Rattle.std.proofs.lemmas.List.Elements.{filter-append}
use Rattle.zbx_types.specs.declared.triggers.Trigger.{Trigger}
use Rattle.conf_index.specs.Index.{has_id}
use Rattle.conf_index.specs.Order.{level}

-- an item's list, where the calls so far are these: the id is there once if one of them is over the item
pub entered_more : (base before after : List ℕ) (id q : ℕ) (calls : List ℕ) (k item : ℕ) → k < length calls → item ≡ get_or calls k 0
    → before ≡ base ++ cond (has_id q (take k calls)) (id ∷ []) []
    → after ≡ cond (not (has_id item (take k calls))) (cond (item == q) (before ++ id ∷ []) before) before
    → after ≡ base ++ cond (has_id q (take (k + 1) calls)) (id ∷ []) []
entered_more base before after id q calls k item l is b a =
    let more : take (k + 1) calls ≡ take k calls ++ item ∷ [] = take_more calls k 0 l ∙ ap (λ y. take k calls ++ y ∷ []) (sym is) in
    let any : has_id q (take (k + 1) calls) ≡ has_id q (take k calls) || ((item == q) || false) = ap (has_id q) more ∙ list_any-append (λ i. i == q) (take k calls) (item ∷ []) in
    a ∙ go (item == q) refl (has_id item (take k calls)) refl (has_id q (take k calls)) refl ∙ ap (λ t. base ++ cond t (id ∷ []) []) (sym any)
  where
    same : (item == q) ≡ true → has_id item (take k calls) ≡ has_id q (take k calls)
    same e = ap (λ i. has_id i (take k calls)) (eqb-true item q e)

    go : (x : Bool) → (item == q) ≡ x → (h : Bool) → has_id item (take k calls) ≡ h → (s : Bool) → has_id q (take k calls) ≡ s
        → cond (not h) (cond x (before ++ id ∷ []) before) before ≡ base ++ cond (s || (x || false)) (id ∷ []) []
    go true x true h true s = b ∙ ap (λ t. base ++ cond t (id ∷ []) []) s
    go true x true h false s = let d = sym h ∙ same x ∙ s in cc
    go true x false h true s = let d = sym h ∙ same x ∙ s in cc
    go true x false h false s = ap (λ xs. xs ++ id ∷ []) (b ∙ ap (λ t. base ++ cond t (id ∷ []) []) s ∙ append-nil base)
    go false x true h true s = b ∙ ap (λ t. base ++ cond t (id ∷ []) []) s
    go false x true h false s = b ∙ ap (λ t. base ++ cond t (id ∷ []) []) s
    go false x false h true s = b ∙ ap (λ t. base ++ cond t (id ∷ []) []) s
    go false x false h false s = b ∙ ap (λ t. base ++ cond t (id ∷ []) []) s

-- the ids so far that pass a test, with one more
pub over_more : (p : ℕ → Bool) (ids before after : List ℕ) (k id : ℕ) → k < length ids → id ≡ get_or ids k 0
    → before ≡ filter p (take k ids) → after ≡ before ++ cond (p id) (id ∷ []) [] → after ≡ filter p (take (k + 1) ids)
over_more p ids before after k id l is b a =
    a ∙ ap (λ xs. xs ++ filter p (id ∷ [])) b ∙ sym (filter-append p (take k ids) (id ∷ []))
    ∙ ap (filter p) (sym (take_more ids k 0 l ∙ ap (λ i. take k ids ++ i ∷ []) (sym is)))

-- the ids of a depth, with one trigger more
level_push : (depth first : ℕ) (ts : List Trigger) (t : Trigger) → level depth first (ts ++ t ∷ []) ≡ level depth first ts ++ cond (t.depth == depth) ((first + length ts) ∷ []) []
level_push depth first [] t =
    let n : first + 0 ≡ first = omega arith in
    ap (λ id. cond (t.depth == depth) (id ∷ []) []) (sym n)
level_push depth first (x ∷ ts) t = go (x.depth == depth) (level_push depth (first + 1) ts t)
  where
    next : (first + 1) + length ts ≡ first + length (x ∷ ts)
    next = omega arith

    go : (b : Bool) → level depth (first + 1) (ts ++ t ∷ []) ≡ level depth (first + 1) ts ++ cond (t.depth == depth) (((first + 1) + length ts) ∷ []) []
        → cond b (first ∷ level depth (first + 1) (ts ++ t ∷ [])) (level depth (first + 1) (ts ++ t ∷ []))
        ≡ cond b (first ∷ level depth (first + 1) ts) (level depth (first + 1) ts) ++ cond (t.depth == depth) ((first + length (x ∷ ts)) ∷ []) []
    go true ih = ap (λ ids. first ∷ ids) (ih ∙ ap (λ id. level depth (first + 1) ts ++ cond (t.depth == depth) (id ∷ []) []) next)
    go false ih = ih ∙ ap (λ id. level depth (first + 1) ts ++ cond (t.depth == depth) (id ∷ []) []) next

pub level_more : (depth : ℕ) (ts : List Trigger) (k id : ℕ) (t : Trigger) (before after : List ℕ) → k < length ts → t ≡ get_or ts k t → id ≡ k + 1
    → before ≡ level depth 1 (take k ts) → after ≡ cond (t.depth == depth) (before ++ id ∷ []) before → after ≡ level depth 1 (take (k + 1) ts)
level_more depth ts k id t before after l is n b a =
    let more : take (k + 1) ts ≡ take k ts ++ t ∷ [] = take_more ts k t l ∙ ap (λ y. take k ts ++ y ∷ []) (sym is) in
    let place : id ≡ 1 + length (take k ts) = let size : length (take k ts) ≡ k = length-take-le k ts (omega arith) in omega arith in
    a ∙ go (t.depth == depth) ∙ ap (λ i. before ++ cond (t.depth == depth) (i ∷ []) []) place
    ∙ ap (λ ids. ids ++ cond (t.depth == depth) ((1 + length (take k ts)) ∷ []) []) b ∙ sym (level_push depth 1 (take k ts) t) ∙ ap (level depth 1) (sym more)
  where
    go : (x : Bool) → cond x (before ++ id ∷ []) before ≡ before ++ cond x (id ∷ []) []
    go true = refl
    go false = sym (append-nil before)
