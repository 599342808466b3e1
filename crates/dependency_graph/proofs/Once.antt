-- Lists that have each number once.
use Rattle.std.proofs.Common.{◌≡◌, ℕ, Bool, true, false, cond, ◌||◌, List, [], ◌∷◌, ◌++◌, All, refl, ap, sym, ◌∙◌, append-nil, append_assoc}
use Rattle.std.specs.Prelude.{nat_eq}
use Rattle.std.specs.List.{list_any}
use Rattle.std.proofs.Math.Bool.{or_assoc}
use Rattle.std.proofs.lemmas.Bool.{eqb-true, eq-eqb}
use Rattle.std.proofs.lemmas.List.Folds.{list_any-append}
use Rattle.std.proofs.lemmas.List.Elements.{All-cons, All-head, All-tail}
use Rattle.dependency_graph.specs.Walks.{once_behind, once}

-- whether a number is in a list
abbrev pub has : ℕ → List ℕ → Bool
has k ns = list_any (nat_eq k) ns

-- each number of a list is in another
abbrev pub IsAmong : List ℕ → List ℕ → Type 0
IsAmong xs ys = (k : ℕ) → has k xs ≡ true → has k ys ≡ true

pub has_itself : (n : ℕ) → nat_eq n n ≡ true
has_itself n = eq-eqb n n refl

or_swap : (a b c : Bool) → (a || (b || c)) ≡ (b || (a || c))
or_swap true true c = refl
or_swap true false c = refl
or_swap false b c = refl

or_right : (a b : Bool) → b ≡ true → (a || b) ≡ true
or_right true b e = refl
or_right false b e = e

-- two choices of a list whose sides are equal
choices : (b : Bool) {x x' y y' : List ℕ} → x ≡ x' → y ≡ y' → cond b x y ≡ cond b x' y'
choices true e f = e
choices false e f = f

-- only what is in the list before counts
pub once_behind-same : (before other : List ℕ) → ((k : ℕ) → has k before ≡ has k other) → (ns : List ℕ) → once_behind before ns ≡ once_behind other ns
once_behind-same before other same [] = refl
once_behind-same before other same (n ∷ ns) =
    ap (λ b. cond b (once_behind before ns) (n ∷ once_behind (n ∷ before) ns)) (same n)
    ∙ choices (has n other) (once_behind-same before other same ns)
    (ap (λ r. n ∷ r) (once_behind-same (n ∷ before) (n ∷ other) (λ k. ap (λ b. nat_eq k n || b) (same k)) ns))

-- a number in front of a list, or behind it
pub has-behind : (k n : ℕ) (before rest : List ℕ) → has k ((n ∷ before) ++ rest) ≡ has k (before ++ n ∷ rest)
has-behind k n before rest =
    ap (λ b. nat_eq k n || b) (list_any-append (nat_eq k) before rest)
    ∙ sym (or_swap (has k before) (nat_eq k n) (has k rest))
    ∙ sym (list_any-append (nat_eq k) before (n ∷ rest))

-- what is in a list need not be sought again
absorbed : (k n : ℕ) (before : List ℕ) (rest : Bool) → has n before ≡ true → (has k before || rest) ≡ (has k before || (nat_eq k n || rest))
absorbed k n before rest there = go (nat_eq k n) refl
  where
    is_there : (b : Bool) → b ≡ true → (b || rest) ≡ (b || true)
    is_there b e = ap (λ b. b || rest) e ∙ ap (λ b. b || true) (sym e)

    go : (b : Bool) → nat_eq k n ≡ b → (has k before || rest) ≡ (has k before || (b || rest))
    go true e = is_there (has k before) (ap (λ m. has m before) (eqb-true k n e) ∙ there)
    go false e = refl

-- what two lists add, one after the other
pub once_behind-append : (before xs ys : List ℕ) → once_behind before (xs ++ ys) ≡ once_behind before xs ++ once_behind (before ++ once_behind before xs) ys
once_behind-append before [] ys = ap (λ b. once_behind b ys) (sym (append-nil before))
once_behind-append before (x ∷ xs) ys = go (has x before) (once_behind-append before xs ys) (once_behind-append (x ∷ before) xs ys)
  where
    go : (b : Bool)
        → once_behind before (xs ++ ys) ≡ once_behind before xs ++ once_behind (before ++ once_behind before xs) ys
        → once_behind (x ∷ before) (xs ++ ys) ≡ once_behind (x ∷ before) xs ++ once_behind ((x ∷ before) ++ once_behind (x ∷ before) xs) ys
        → cond b (once_behind before (xs ++ ys)) (x ∷ once_behind (x ∷ before) (xs ++ ys))
        ≡ cond b (once_behind before xs) (x ∷ once_behind (x ∷ before) xs) ++ once_behind (before ++ cond b (once_behind before xs) (x ∷ once_behind (x ∷ before) xs)) ys
    go true e f = e
    go false e f =
        ap (λ r. x ∷ r) (f ∙ ap (λ r. once_behind (x ∷ before) xs ++ r)
        (once_behind-same ((x ∷ before) ++ once_behind (x ∷ before) xs) (before ++ x ∷ once_behind (x ∷ before) xs)
        (λ k. has-behind k x before (once_behind (x ∷ before) xs)) ys))

-- what is in the list before is in the list with the rest, and so is what was added
pub has-once_behind : (k : ℕ) (before xs : List ℕ) → has k (before ++ once_behind before xs) ≡ (has k before || has k xs)
has-once_behind k before [] = list_any-append (nat_eq k) before []
has-once_behind k before (x ∷ xs) = go (has x before) refl (has-once_behind k before xs) (has-once_behind k (x ∷ before) xs)
  where
    go : (b : Bool) → has x before ≡ b
        → has k (before ++ once_behind before xs) ≡ (has k before || has k xs)
        → has k ((x ∷ before) ++ once_behind (x ∷ before) xs) ≡ ((nat_eq k x || has k before) || has k xs)
        → has k (before ++ cond b (once_behind before xs) (x ∷ once_behind (x ∷ before) xs)) ≡ (has k before || (nat_eq k x || has k xs))
    go true there e f = e ∙ absorbed k x before (has k xs) there
    go false there e f =
        sym (has-behind k x before (once_behind (x ∷ before) xs)) ∙ f
        ∙ or_assoc (nat_eq k x) (has k before) (has k xs) ∙ or_swap (nat_eq k x) (has k before) (has k xs)

pub among-before : (before xs : List ℕ) → IsAmong before (before ++ once_behind before xs)
among-before before xs k e = has-once_behind k before xs ∙ ap (λ b. b || has k xs) e

pub among-added : (before xs : List ℕ) → IsAmong xs (before ++ once_behind before xs)
among-added before xs k e = has-once_behind k before xs ∙ or_right (has k before) (has k xs) e

pub among-append : (xs ys zs : List ℕ) → IsAmong xs zs → IsAmong ys zs → IsAmong (xs ++ ys) zs
among-append xs ys zs f g k e = go (has k xs) refl
  where
    go : (b : Bool) → has k xs ≡ b → has k zs ≡ true
    go true h = f k h
    go false h = g k (sym (ap (λ b. b || has k ys) h) ∙ sym (list_any-append (nat_eq k) xs ys) ∙ e)

-- nothing is added where all is there
pub once_behind-among : (before xs : List ℕ) → IsAmong xs before → once_behind before xs ≡ []
once_behind-among before [] among = refl
once_behind-among before (x ∷ xs) among =
    ap (λ b. cond b (once_behind before xs) (x ∷ once_behind (x ∷ before) xs)) (among x (ap (λ b. b || has x xs) (has_itself x)))
    ∙ once_behind-among before xs (λ k e. among k (or_right (nat_eq k x) (has k xs) e))

-- what was added is added once
pub once_behind-again : (before xs : List ℕ) → once_behind before (once_behind before xs) ≡ once_behind before xs
once_behind-again before [] = refl
once_behind-again before (x ∷ xs) = go (has x before) refl (once_behind-again before xs) (once_behind-again (x ∷ before) xs)
  where
    go : (b : Bool) → has x before ≡ b
        → once_behind before (once_behind before xs) ≡ once_behind before xs
        → once_behind (x ∷ before) (once_behind (x ∷ before) xs) ≡ once_behind (x ∷ before) xs
        → once_behind before (cond b (once_behind before xs) (x ∷ once_behind (x ∷ before) xs)) ≡ cond b (once_behind before xs) (x ∷ once_behind (x ∷ before) xs)
    go true there e f = e
    go false there e f =
        ap (λ b. cond b (once_behind before (once_behind (x ∷ before) xs)) (x ∷ once_behind (x ∷ before) (once_behind (x ∷ before) xs))) there
        ∙ ap (λ r. x ∷ r) f

-- what is added was given
pub All-once_behind : (P : ℕ → Type 0) (before xs : List ℕ) → All P xs → All P (once_behind before xs)
All-once_behind P before [] all = all
All-once_behind P before (x ∷ xs) all = go (has x before) (All-once_behind P before xs (All-tail P x xs all)) (All-once_behind P (x ∷ before) xs (All-tail P x xs all))
  where
    go : (b : Bool) → All P (once_behind before xs) → All P (once_behind (x ∷ before) xs) → All P (cond b (once_behind before xs) (x ∷ once_behind (x ∷ before) xs))
    go true f g = f
    go false f g = All-cons P x (once_behind (x ∷ before) xs) (All-head P x xs all) g

-- a list that has each number once, with what others add
pub once-append : (xs ys : List ℕ) → once xs ≡ xs → once (xs ++ ys) ≡ xs ++ once_behind xs ys
once-append xs ys e = once_behind-append [] xs ys ∙ ap (λ q. q ++ once_behind q ys) e

pub once-added : (xs ys : List ℕ) → once xs ≡ xs → once (xs ++ once_behind xs ys) ≡ xs ++ once_behind xs ys
once-added xs ys e = once-append xs (once_behind xs ys) e ∙ ap (λ r. xs ++ r) (once_behind-again xs ys)

-- one list more was added
pub once_behind-more : (queue after xs rest : List ℕ) → after ≡ queue ++ once_behind queue xs → after ++ once_behind after rest ≡ queue ++ once_behind queue (xs ++ rest)
once_behind-more queue after xs rest e =
    ap (λ q. q ++ once_behind q rest) e
    ∙ append_assoc queue (once_behind queue xs) (once_behind (queue ++ once_behind queue xs) rest)
    ∙ ap (λ r. queue ++ r) (sym (once_behind-append queue xs rest))
