-- Lists whose items all have a property, and each two of whose items do, as loops tell them.
use Rattle.std.proofs.Common.{◌≡◌, ◌≢◌, eqb, ap₂, ◌≤◌, ◌<◌, ◌+◌, ◌-◌, ℕ, zero, suc, Bool, true, false, ◌↔◌, IsTrue, List, [], ◌∷◌, ◌++◌, length, take, drop, get_or, Result, Ok, Err, IfOk, refl, sym, ◌∙◌, ap, subst, take-append-drop, arith}
use Rattle.std.specs.Prelude.{map, AllPairs}
use Rattle.std.specs.Bool.{Decides}
use Rattle.std.proofs.lemmas.List.{take_more, take_all, length-map}
use Rattle.entry_step.specs.Each.{Each, EachPair}
use Rattle.entry_step.proofs.Members.{each_append, each_sub}

-- what a test tells
pub yes : (P : Type 0) → P → IsTrue true ↔ P
yes P p = ((λ t. p), (λ q. refl))

pub no : (P : Type 0) → (P → ⊥) → IsTrue false ↔ P
no P f = ((λ t. absurd (cc)), (λ p. absurd (f p)))

pub as_well : (b : Bool) (P Q : Type 0) → (P → Q) → (Q → P) → IsTrue b ↔ P → IsTrue b ↔ Q
as_well b P Q f g h = ((λ t. f (h.0 t)), (λ q. h.1 (g q)))

pub ok_well : {E : Type 0} (r : Result Bool E) (P Q : Type 0) → (P → Q) → (Q → P) → IfOk r (λ b. IsTrue b ↔ P) → IfOk r (λ b. IsTrue b ↔ Q)
ok_well (Ok b) P Q f g h = as_well b P Q f g h
ok_well (Err e) P Q f g h = tt

pub is_true : (b : Bool) (P : Type 0) → b ≡ true → IsTrue b ↔ P → P
is_true b P e h = h.0 e

pub is_not : (b : Bool) (P : Type 0) → b ≡ false → IsTrue b ↔ P → P → ⊥
is_not b P e h p = let t : b ≡ true = h.1 p in cc

-- each item
module _ {A : Type 0} (P : A → Type 0) where
  pub each_get : (xs : List A) (k : ℕ) (x : A) → k < length xs → x ≡ get_or xs k x → Each P xs → P x
  each_get [] k x l is e = absurd (omega arith)
  each_get (y ∷ ys) zero x l is e = subst P (sym is) e.0
  each_get (y ∷ ys) (suc k) x l is e = each_get ys k x (omega arith) is e.1

  pub each_more : (xs : List A) (k : ℕ) (x : A) → k < length xs → x ≡ get_or xs k x → P x → Each P (take k xs) → Each P (take (k + 1) xs)
  each_more xs k x l is p e =
      subst (Each P) (sym (take_more xs k x l ∙ ap (λ y. take k xs ++ y ∷ []) (sym is))) (each_append P (take k xs) (x ∷ []) e (p, tt))

  pub each_whole : (xs : List A) (k : ℕ) → length xs ≤ k → Each P (take k xs) → Each P xs
  each_whole xs k l e = subst (Each P) (take_all k xs l) e

  pub each_front : (xs ys : List A) → Each P (xs ++ ys) → Each P xs
  each_front [] ys e = tt
  each_front (x ∷ xs) ys e = (e.0, each_front xs ys e.1)

-- each two items, by a relation that goes on
module _ {A : Type 0} (R : A → A → Type 0) where
  pub pairs_front : (xs ys : List A) → EachPair R (xs ++ ys) → EachPair R xs
  pairs_front [] ys e = tt
  pairs_front (x ∷ xs) ys e = (each_front (R x) xs ys e.0, pairs_front xs ys e.1)

  pub pairs_last : (xs : List A) (y : A) → EachPair R (xs ++ y ∷ []) → Each (λ x. R x y) xs
  pairs_last [] y e = tt
  pairs_last (x ∷ xs) y e = (last xs e.0, pairs_last xs y e.1)
    where
      last : (zs : List A) → Each (R x) (zs ++ y ∷ []) → R x y
      last [] h = h.0
      last (z ∷ zs) h = last zs h.1

  pub pairs_push : (xs : List A) (y : A) → EachPair R xs → Each (λ x. R x y) xs → EachPair R (xs ++ y ∷ [])
  pairs_push [] y e h = (tt, tt)
  pairs_push (x ∷ xs) y e h = (each_append (R x) xs (y ∷ []) e.0 (h.0, tt), pairs_push xs y e.1 h.1)

  pub pairs_whole : (xs : List A) (k : ℕ) → length xs ≤ k → EachPair R (take k xs) → EachPair R xs
  pairs_whole xs k l e = subst (EachPair R) (take_all k xs l) e

  pub pairs_one : (xs : List A) → EachPair R (take 1 xs)
  pairs_one [] = tt
  pairs_one (x ∷ xs) = one (take 0 xs) refl
    where
      one : (ys : List A) → ys ≡ [] → EachPair R (x ∷ ys)
      one [] e = (tt, tt)
      one (y ∷ ys) e = absurd (cc)

  up_to : (xs : List A) (k : ℕ) (x : A) → k < length xs → x ≡ get_or xs k x → take (k + 1) xs ≡ take k xs ++ x ∷ []
  up_to xs k x l is = take_more xs k x l ∙ ap (λ y. take k xs ++ y ∷ []) (sym is)

  -- the next item, where the relation goes on
  pub pairs_more : ((x y z : A) → R x y → R y z → R x z) → (xs : List A) (k : ℕ) (x y : A) → k + 1 < length xs → x ≡ get_or xs k x → y ≡ get_or xs (k + 1) y → R x y → EachPair R (take (k + 1) xs)
      → EachPair R (take (k + 1 + 1) xs)
  pairs_more goes xs k x y l is next r e =
      let short : k < length xs = omega (arith, l) in
      let before : EachPair R (take k xs ++ x ∷ []) = subst (EachPair R) (up_to xs k x short is) e in
      subst (EachPair R) (sym (up_to xs (k + 1) y l next ∙ ap (λ zs. zs ++ y ∷ []) (up_to xs k x short is)))
      (pairs_push (take k xs ++ x ∷ []) y before
      (each_append (λ z. R z y) (take k xs) (x ∷ []) (each_sub (λ z. R z x) (λ z. R z y) (take k xs) (λ z h. goes z x y h r) (pairs_last (take k xs) x before)) (r, tt)))

  pub pairs_next : (xs : List A) (k : ℕ) (x y : A) → k + 1 < length xs → x ≡ get_or xs k x → y ≡ get_or xs (k + 1) y → EachPair R xs → R x y
  pairs_next xs k x y l is next e =
      let short : k < length xs = omega (arith, l) in
      let front : EachPair R (take (k + 1 + 1) xs) = pairs_front (take (k + 1 + 1) xs) (drop (k + 1 + 1) xs) (subst (EachPair R) (sym (take-append-drop (k + 1 + 1) xs)) e) in
      let own : EachPair R ((take k xs ++ x ∷ []) ++ y ∷ []) = subst (EachPair R) (up_to xs (k + 1) y l next ∙ ap (λ zs. zs ++ y ∷ []) (up_to xs k x short is)) front in
      last (take k xs) (pairs_last (take k xs ++ x ∷ []) y own)
    where
      last : (zs : List A) → Each (λ z. R z y) (zs ++ x ∷ []) → R x y
      last [] h = h.0
      last (z ∷ zs) h = last zs h.1

-- the same, where a loop looks at an item and the one before it
module _ {A : Type 0} (R : A → A → Type 0) (xs : List A) (place : ℕ) (x y : A) (some : 1 ≤ place) (l : place < length xs) (is : x ≡ get_or xs (place - 1) x) (next : y ≡ get_or xs place y) where
  same : place - 1 + 1 ≡ place
  same = omega (arith, some)

  within : place - 1 + 1 < length xs
  within = omega (arith, some, l)

  next_is : y ≡ get_or xs (place - 1 + 1) y
  next_is = next ∙ ap (λ n. get_or xs n y) (sym same)

  pub pairs_on : ((u v w : A) → R u v → R v w → R u w) → R x y → EachPair R (take place xs) → EachPair R (take (place + 1) xs)
  pairs_on goes r e =
      subst (λ n. EachPair R (take (n + 1) xs)) same (pairs_more R goes xs (place - 1) x y within is next_is r (subst (λ n. EachPair R (take n xs)) (sym same) e))

  pub pairs_at : EachPair R xs → R x y
  pairs_at e = pairs_next R xs (place - 1) x y within is next_is e

-- each two items of which something is made
pub pairs_map : {A B : Type 0} (R : B → B → Type 0) (f : A → B) (xs : List A) → EachPair (λ x y. R (f x) (f y)) xs ↔ EachPair R (map f xs)
pairs_map {A} {B} R f xs = (there xs, back xs)
  where
    each_there : (P : B → Type 0) (ys : List A) → Each (λ y. P (f y)) ys → Each P (map f ys)
    each_there P [] e = tt
    each_there P (y ∷ ys) e = (e.0, each_there P ys e.1)

    each_back : (P : B → Type 0) (ys : List A) → Each P (map f ys) → Each (λ y. P (f y)) ys
    each_back P [] e = tt
    each_back P (y ∷ ys) e = (e.0, each_back P ys e.1)

    there : (ys : List A) → EachPair (λ x y. R (f x) (f y)) ys → EachPair R (map f ys)
    there [] e = tt
    there (y ∷ ys) e = (each_there (R (f y)) ys e.0, there ys e.1)

    back : (ys : List A) → EachPair R (map f ys) → EachPair (λ x y. R (f x) (f y)) ys
    back [] e = tt
    back (y ∷ ys) e = (each_back (R (f y)) ys e.0, back ys e.1)

-- the same as the library says it
pub pairs_all : {A : Type 0} (R : A → A → Type 0) (xs : List A) → EachPair R xs → AllPairs R xs
pairs_all R [] e i j d l m = absurd (omega arith)
pairs_all R (x ∷ xs) e zero zero d l m = absurd (omega arith)
pairs_all R (x ∷ xs) e zero (suc j) d l m = each_at (R x) xs e.0 j d (omega (arith, m))
  where
    each_at : {A : Type 0} (P : A → Type 0) (ys : List A) → Each P ys → (k : ℕ) (d : A) → k < length ys → P (get_or ys k d)
    each_at P [] h k d l = absurd (omega arith)
    each_at P (y ∷ ys) h zero d l = h.0
    each_at P (y ∷ ys) h (suc k) d l = each_at P ys h.1 k d (omega arith)
pairs_all R (x ∷ xs) e (suc i) zero d l m = absurd (omega arith)
pairs_all R (x ∷ xs) e (suc i) (suc j) d l m = pairs_all R xs e.1 i j d (omega (arith, l)) (omega (arith, m))

pub all_pairs : {A : Type 0} (R : A → A → Type 0) (xs : List A) → AllPairs R xs → EachPair R xs
all_pairs R [] h = tt
all_pairs {A} R (x ∷ xs) h = (first xs (λ k d l. h 0 (suc k) d (omega arith) (omega (arith, l))), all_pairs R xs (λ i j d l m. h (suc i) (suc j) d (omega (arith, l)) (omega (arith, m))))
  where
    first : (ys : List A) → ((k : ℕ) (d : A) → k < length ys → R x (get_or ys k d)) → Each (R x) ys
    first [] g = tt
    first (y ∷ ys) g = (g 0 y (omega arith), first ys (λ k d l. g (suc k) d (omega (arith, l))))

-- each two differ where a set of what is made of them has as many
pub sizes : {A K : Type 0} (f : A → K) (xs : List A) (n size : ℕ) → n ≡ size → Decides (eqb size (length (map f xs))) (AllPairs (λ x y. x ≢ y) (map f xs)) → IsTrue (eqb n (length xs)) ↔ EachPair (λ x y. f x ≢ f y) xs
sizes f xs n size same d =
    subst (λ b. IsTrue b ↔ EachPair (λ x y. f x ≢ f y) xs) (ap₂ eqb (sym same) (length-map xs f))
    ((λ t. (pairs_map (λ x y. x ≢ y) f xs).1 (all_pairs (λ x y. x ≢ y) (map f xs) (d.0 t))), (λ e. d.1 (pairs_all (λ x y. x ≢ y) (map f xs) ((pairs_map (λ x y. x ≢ y) f xs).0 e))))

pub pairs_sub : {A : Type 0} (R S : A → A → Type 0) (xs : List A) → ((x y : A) → R x y → S x y) → EachPair R xs → EachPair S xs
pairs_sub R S [] f e = tt
pairs_sub R S (x ∷ xs) f e = (each_sub (R x) (S x) xs (f x) e.0, pairs_sub R S xs f e.1)
