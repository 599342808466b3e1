-- The values that tokens show, over parts of their lists; and what stays of one vector.
use Rattle.std.proofs.Common.{◌≡◌, ℕ, zero, suc, ◌+◌, ◌-◌, ◌≤◌, Bool, true, false, cond, List, [], ◌∷◌, ◌++◌, length, reverse, take, drop, refl, sym, ◌∙◌, ap, ap₂, subst, arith, get_or, length-append}
use Rattle.std.proofs.lemmas.List.{reverse-reverse}
use Rattle.std.proofs.lemmas.List.Elements.{All-take, All-drop, All-append, All-cons, All-nil, All-head, All-tail}
use Rattle.std.specs.List.{insert, prefix_len}
use Rattle.std.specs.List.Sorted.{IsPartitionedBy, IsPartitionPoint}
use Rattle.std.specs.Prelude.{slice_get}
use Rattle.std.specs.Option.{option_map}
use Rattle.std.proofs.Common.{Option}
use Rattle.zbx_types.specs.declared.entries.Stored.{Stored}
use Rattle.value_cache.specs.Tokens.{CacheId, TokenView, IsOf, AreOf, values_of}
use Rattle.value_cache.proofs.Lists.{reverse-cons, last_first}

pub values_append : (xs ys : List TokenView) → values_of (xs ++ ys) ≡ values_of xs ++ values_of ys
values_append [] ys = refl
values_append (x ∷ xs) ys = ap (λ l. x.value ∷ l) (values_append xs ys)

pub values_take : (n : ℕ) (xs : List TokenView) → values_of (take n xs) ≡ take n (values_of xs)
values_take zero xs = refl
values_take (suc n) [] = refl
values_take (suc n) (x ∷ xs) = ap (λ l. x.value ∷ l) (values_take n xs)

pub values_drop : (n : ℕ) (xs : List TokenView) → values_of (drop n xs) ≡ drop n (values_of xs)
values_drop zero xs = refl
values_drop (suc n) [] = refl
values_drop (suc n) (x ∷ xs) = values_drop n xs

pub values_reverse : (xs : List TokenView) → values_of (reverse xs) ≡ reverse (values_of xs)
values_reverse [] = refl
values_reverse (x ∷ xs) =
    ap values_of (reverse-cons x xs) ∙ values_append (reverse xs) (x ∷ []) ∙ ap (λ l. l ++ x.value ∷ []) (values_reverse xs) ∙ sym (reverse-cons x.value (values_of xs))

pub values_length : (xs : List TokenView) → length (values_of xs) ≡ length xs
values_length [] = refl
values_length (x ∷ xs) = ap suc (values_length xs)

pub values_insert : (xs : List TokenView) (i : ℕ) (x : TokenView) → values_of (insert xs i x) ≡ insert (values_of xs) i x.value
values_insert xs i x = values_append (take i xs) (x ∷ drop i xs) ∙ ap₂ (λ l r. l ++ x.value ∷ r) (values_take i xs) (values_drop i xs)

pub values_prefix : (p : Stored → Bool) (xs : List TokenView) → prefix_len (λ t. p t.value) xs ≡ prefix_len p (values_of xs)
values_prefix p [] = refl
values_prefix p (x ∷ xs) = go (p x.value) (values_prefix p xs)
  where
    go : (b : Bool) → prefix_len (λ t. p t.value) xs ≡ prefix_len p (values_of xs) → cond b (1 + prefix_len (λ t. p t.value) xs) 0 ≡ cond b (1 + prefix_len p (values_of xs)) 0
    go true e = ap (λ n. 1 + n) e
    go false e = refl

-- at each place
pub value_at : (xs : List TokenView) (k : ℕ) (d : TokenView) → get_or (values_of xs) k d.value ≡ (get_or xs k d).value
value_at [] zero d = refl
value_at [] (suc k) d = refl
value_at (x ∷ xs) zero d = refl
value_at (x ∷ xs) (suc k) d = value_at xs k d

abbrev dummy : Stored → TokenView
dummy d = record { place = record { row = 0; slot = 0 }; row = 0; value = d }

pub parted_tokens : (p : Stored → Bool) (xs : List TokenView) → IsPartitionedBy p (values_of xs) → IsPartitionedBy (λ t. p t.value) xs
parted_tokens p xs h i j d l m e =
    let n = values_length xs in
    ap p (sym (value_at xs i d)) ∙ h i j d.value l (omega (arith, m, n)) (ap p (value_at xs j d) ∙ e)

pub point_values : (p : Stored → Bool) (xs : List TokenView) (i : ℕ) → IsPartitionPoint (λ t. p t.value ≡ true) (λ t. p t.value ≡ false) xs i
    → IsPartitionPoint (λ s. p s ≡ true) (λ s. p s ≡ false) (values_of xs) i
point_values p xs i h =
    let n = values_length xs in (
      λ k d a b. ap p (value_at xs k (dummy d)) ∙ h.0 k (dummy d) a b,
      λ k d a b. ap p (value_at xs k (dummy d)) ∙ h.1 k (dummy d) a (omega (arith, b, n)),
    )

-- what stays of one vector
pub of_taken : (cache : CacheId) (n : ℕ) (xs : List TokenView) → AreOf cache xs → AreOf cache (take n xs)
of_taken cache n xs h = All-take (IsOf cache) n xs h

pub of_dropped : (cache : CacheId) (n : ℕ) (xs : List TokenView) → AreOf cache xs → AreOf cache (drop n xs)
of_dropped cache n xs h = All-drop (IsOf cache) n xs h

pub of_appended : (cache : CacheId) (xs ys : List TokenView) → AreOf cache xs → AreOf cache ys → AreOf cache (xs ++ ys)
of_appended cache xs ys h k = All-append (IsOf cache) xs ys h k

pub of_one : (cache : CacheId) (x : TokenView) → IsOf cache x → AreOf cache (x ∷ [])
of_one cache x h = All-cons (IsOf cache) x [] h (All-nil (IsOf cache))

pub of_inserted : (cache : CacheId) (xs : List TokenView) (i : ℕ) (x : TokenView) → AreOf cache xs → IsOf cache x → AreOf cache (insert xs i x)
of_inserted cache xs i x h k = All-append (IsOf cache) (take i xs) (x ∷ drop i xs) (of_taken cache i xs h) (All-cons (IsOf cache) x (drop i xs) k (of_dropped cache i xs h))

pub of_reversed : (cache : CacheId) (xs : List TokenView) → AreOf cache xs → AreOf cache (reverse xs)
of_reversed cache [] h = h
of_reversed cache (x ∷ xs) h =
    subst (AreOf cache) (sym (reverse-cons x xs)) (All-append (IsOf cache) (reverse xs) (x ∷ []) (of_reversed cache xs (All-tail (IsOf cache) x xs h)) (of_one cache x (All-head (IsOf cache) x xs h)))

pub of_turned : (cache : CacheId) (xs : List TokenView) → AreOf cache (reverse xs) → AreOf cache xs
of_turned cache xs h = subst (AreOf cache) (reverse-reverse xs) (of_reversed cache (reverse xs) h)

pub turned_back : {X : Type 0} (xs ys : List X) → reverse xs ≡ reverse ys → xs ≡ ys
turned_back xs ys e = sym (reverse-reverse xs) ∙ ap reverse e ∙ reverse-reverse ys

pub value_got : (xs : List TokenView) (k : ℕ) → slice_get (values_of xs) k ≡ option_map (λ t. t.value) (slice_get xs k)
value_got [] zero = refl
value_got [] (suc k) = refl
value_got (x ∷ xs) zero = refl
value_got (x ∷ xs) (suc k) = value_got xs k

-- the last token shows the latest value
pub latest_got : (xs : List TokenView) (o : Option TokenView) → o ≡ slice_get xs (length xs - 1) → option_map (λ t. t.value) o ≡ slice_get (reverse (values_of xs)) 0
latest_got xs o e =
    ap (option_map (λ t. t.value)) e ∙ sym (value_got xs (length xs - 1)) ∙ ap (λ n. slice_get (values_of xs) (n - 1)) (sym (values_length xs)) ∙ last_first (values_of xs)

-- behind some
past_some : {A : Type 0} (xs ys : List A) (k : ℕ) → length xs ≤ k → slice_get (xs ++ ys) k ≡ slice_get ys (k - length xs)
past_some [] ys k l = let none : k ≡ k - 0 = omega arith in ap (slice_get ys) none
past_some (x ∷ xs) ys zero l = absurd (omega (arith, l))
past_some (x ∷ xs) ys (suc k) l = let less : k - length xs ≡ suc k - length (x ∷ xs) = omega arith in past_some xs ys k (omega (arith, l)) ∙ ap (slice_get ys) less

-- a token of the third part of a window shows the value there
pub third_got : (a b d : List TokenView) (k : ℕ) (o : Option TokenView) → length a ≤ k → length b ≤ k - length a → o ≡ slice_get d (k - length a - length b)
    → option_map (λ t. t.value) o ≡ slice_get (values_of a ++ values_of b ++ values_of d) k
third_got a b d k o l m e =
    let front = values_of a ++ values_of b in
    let count : length front ≡ length a + length b = length-append (values_of a) (values_of b) ∙ ap₂ (λ i j. i + j) (values_length a) (values_length b) in
    let place : k - length a - length b ≡ k - length front = omega (arith, count) in
    ap (option_map (λ t. t.value)) e ∙ sym (value_got d (k - length a - length b))
    ∙ ap (slice_get (values_of d)) place
    ∙ sym (past_some front (values_of d) k (omega (arith, l, m, count)))
