-- The places of entries in a log whose numbers rise, the newest first.
use Rattle.std.proofs.Common.{◌≡◌, ◌<◌, ◌⊎◌, inl, inr, Bool, true, false, cond, List, [], ◌∷◌, ◌++◌, reverse, filter, refl, sym, ◌∙◌, ap, subst, arith}
use mathlib.Core.List.{reverse-cons}
use Rattle.zbx_types.specs.declared.entries.Numbered.{Numbered}
use Rattle.entry_step.specs.Each.{Each, In, EachPair}
use Rattle.syncer_gate.specs.Core.{In as IsIn}
use Rattle.entry_step.proofs.Members.{each_from, each_at, each_append, each_filter}

-- each number is above those of older entries
abbrev pub Rises : List Numbered → Type 0
Rises log = EachPair (λ e older. older.number < e.number) log

-- the two crates' words for an entry in a list
pub is_in : (log : List Numbered) (e : Numbered) → In e log → IsIn e log
is_in [] e i = absurd i
is_in (x ∷ log) e (inl q) = inl q
is_in (x ∷ log) e (inr i) = inr (is_in log e i)

pub in_of : (log : List Numbered) (e : Numbered) → IsIn e log → In e log
in_of [] e i = absurd i
in_of (x ∷ log) e (inl q) = inl q
in_of (x ∷ log) e (inr i) = inr (in_of log e i)

-- what is in two lists
pub in_left : {A : Type 0} (xs ys : List A) (x : A) → In x xs → In x (xs ++ ys)
in_left [] ys x i = absurd i
in_left (z ∷ xs) ys x (inl q) = inl q
in_left (z ∷ xs) ys x (inr i) = inr (in_left xs ys x i)

pub in_right : {A : Type 0} (xs ys : List A) (x : A) → In x ys → In x (xs ++ ys)
in_right [] ys x i = i
in_right (z ∷ xs) ys x i = inr (in_right xs ys x i)

in_either : {A : Type 0} (xs ys : List A) (x : A) → In x (xs ++ ys) → In x xs ⊎ In x ys
in_either [] ys x i = inr i
in_either (z ∷ xs) ys x (inl q) = inl (inl q)
in_either {A} (z ∷ xs) ys x (inr i) = go (in_either xs ys x i)
  where
    go : In x xs ⊎ In x ys → In x (z ∷ xs) ⊎ In x ys
    go (inl j) = inl (inr j)
    go (inr j) = inr j

-- what is in a reversed list
pub in_reverse : {A : Type 0} (xs : List A) (x : A) → In x xs → In x (reverse xs)
in_reverse [] x i = absurd i
in_reverse (z ∷ xs) x (inl q) = subst (In x) (sym (reverse-cons z xs)) (in_right (reverse xs) (z ∷ []) x (inl q))
in_reverse (z ∷ xs) x (inr i) = subst (In x) (sym (reverse-cons z xs)) (in_left (reverse xs) (z ∷ []) x (in_reverse xs x i))

pub of_reverse : {A : Type 0} (xs : List A) (x : A) → In x (reverse xs) → In x xs
of_reverse [] x i = i
of_reverse {A} (z ∷ xs) x i = go (in_either (reverse xs) (z ∷ []) x (subst (In x) (reverse-cons z xs) i)) (of_reverse xs x)
  where
    go : In x (reverse xs) ⊎ In x (z ∷ []) → (In x (reverse xs) → In x xs) → In x (z ∷ xs)
    go (inl j) ih = inr (ih j)
    go (inr (inl q)) ih = inl q
    go (inr (inr j)) ih = absurd j

-- what is in a filtered list
pub in_filter : {A : Type 0} (p : A → Bool) (xs : List A) (x : A) → In x xs → p x ≡ true → In x (filter p xs)
in_filter p [] x i e = absurd i
in_filter {A} p (z ∷ xs) x i e = go (p z) refl i (in_filter p xs x)
  where
    go : (b : Bool) → p z ≡ b → In x (z ∷ xs) → (In x xs → p x ≡ true → In x (filter p xs)) → In x (cond b (z ∷ filter p xs) (filter p xs))
    go true q (inl s) ih = inl s
    go true q (inr j) ih = inr (ih j e)
    go false q (inl s) ih = let t = ap p s in absurd (cc)
    go false q (inr j) ih = ih j e

pub of_filter : {A : Type 0} (p : A → Bool) (xs : List A) (x : A) → In x (filter p xs) → In x xs × (p x ≡ true)
of_filter {A} p xs x i = each_at (λ y. In y xs × (p y ≡ true)) (filter p xs) (each_filter (λ y. In y xs × (p y ≡ true)) p xs (λ y j e. (j, e))) x i

pub filter_cong : {A : Type 0} (p q : A → Bool) (xs : List A) → ((x : A) → In x xs → p x ≡ q x) → filter p xs ≡ filter q xs
filter_cong p q [] h = refl
filter_cong p q (x ∷ xs) h = let a = h x (inl refl) in let b = filter_cong p q xs (λ y i. h y (inr i)) in cc

-- pairs of a filtered and of a reversed list
pub pairs_filter : {A : Type 0} (R : A → A → Type 0) (p : A → Bool) (xs : List A) → EachPair R xs → EachPair R (filter p xs)
pairs_filter R p [] h = tt
pairs_filter {A} R p (x ∷ xs) h = go (p x) (pairs_filter R p xs h.1)
  where
    go : (b : Bool) → EachPair R (filter p xs) → EachPair R (cond b (x ∷ filter p xs) (filter p xs))
    go true ih = (each_filter (R x) p xs (λ y i e. each_at (R x) xs h.0 y i), ih)
    go false ih = ih

pairs_behind : {A : Type 0} (R : A → A → Type 0) (xs : List A) (x : A) → EachPair R xs → Each (λ y. R y x) xs → EachPair R (xs ++ x ∷ [])
pairs_behind R [] x h e = (tt, tt)
pairs_behind R (z ∷ xs) x h e = (each_append (R z) xs (x ∷ []) h.0 (e.0, tt), pairs_behind R xs x h.1 e.1)

pub pairs_reverse : {A : Type 0} (R : A → A → Type 0) (xs : List A) → EachPair (λ x y. R y x) xs → EachPair R (reverse xs)
pairs_reverse R [] h = tt
pairs_reverse R (x ∷ xs) h =
    subst (EachPair R) (sym (reverse-cons x xs))
    (pairs_behind R (reverse xs) x (pairs_reverse R xs h.1) (each_from (λ y. R y x) (reverse xs) (λ y i. each_at (λ y. R y x) xs h.0 y (of_reverse xs y i))))

-- a split of a log at an entry
pub split_at : (log : List Numbered) (x : Numbered) → In x log → (newer : List Numbered) × (older : List Numbered) × (log ≡ newer ++ x ∷ older)
split_at [] x i = absurd i
split_at (z ∷ log) x (inl q) = ([], log, ap (λ y. y ∷ log) (sym q))
split_at (z ∷ log) x (inr i) = let r = split_at log x i in (z ∷ r.0, r.1, ap (λ l. z ∷ l) r.2)

-- the entries behind it have smaller numbers, those before it larger ones
pub older_below : (newer : List Numbered) (x : Numbered) (older : List Numbered) → Rises (newer ++ x ∷ older) → (y : Numbered) → In y older → y.number < x.number
older_below [] x older r y i = each_at (λ z. z.number < x.number) older r.0 y i
older_below (z ∷ newer) x older r y i = older_below newer x older r.1 y i

pub newer_above : (newer : List Numbered) (x : Numbered) (older : List Numbered) → Rises (newer ++ x ∷ older) → (y : Numbered) → In y newer → x.number < y.number
newer_above [] x older r y i = absurd i
newer_above (z ∷ newer) x older r y (inl q) =
    let b = each_at (λ w. w.number < z.number) (newer ++ x ∷ older) r.0 x (in_right newer (x ∷ older) x (inl refl)) in
    subst (λ w. x.number < w.number) (sym q) b
newer_above (z ∷ newer) x older r y (inr i) = newer_above newer x older r.1 y i

-- two entries with one number are one
pub same_entry : (log : List Numbered) → Rises log → (x y : Numbered) → In x log → In y log → x.number ≡ y.number → x ≡ y
same_entry [] r x y i j q = absurd i
same_entry (z ∷ log) r x y (inl a) (inl b) q = a ∙ sym b
same_entry (z ∷ log) r x y (inl a) (inr j) q = let s = ap (λ w. w.number) a in let l = each_at (λ w. w.number < z.number) log r.0 y j in absurd (omega arith)
same_entry (z ∷ log) r x y (inr i) (inl b) q = let s = ap (λ w. w.number) b in let l = each_at (λ w. w.number < z.number) log r.0 x i in absurd (omega arith)
same_entry (z ∷ log) r x y (inr i) (inr j) q = same_entry log r.1 x y i j q
