-- Members put among others by their names.
use Rattle.std.proofs.Common.{◌≡◌, ◌<◌, ◌+◌, ℕ, zero, suc, List, [], ◌∷◌, ◌++◌, length, take, set, get_or, refl, ap, sym, ◌∙◌, Option, Some, None, Bool, true, false, cond, ◌||◌, option_map, if◌then◌else◌, arith, subst, inl, inr, ◌⊎◌}
use Rattle.std.specs.List.{list_any}
use Rattle.std.specs.Str.{bytes_eq}
use Rattle.std.specs.BTreeMap.{BTreeMap, Updates}
use Rattle.std.specs.Cmp.Lexicographic.{slice_cmp}
use Rattle.std.specs.Ordering.{nat_cmp}
use Rattle.std.proofs.lemmas.Cmp.{nat_list_eq_equiv}
use Rattle.std.proofs.lemmas.List.{take_more}
use Rattle.std.proofs.lemmas.Map.Text.{is_eq-slice_cmp}
use Rattle.json_text.specs.Json.{Members, no_members, member, put}
use Rattle.json_text.specs.Naming.{put_all, place_of, Finds}
use Rattle.json_text.specs.Trees.{json_of, members_of}
use Rattle.json_text.specs.declared.tree.Tree.{Tree}
use Rattle.json_text.specs.declared.tree.Member.{Member}
use Rattle.json_text.proofs.CharBytes.{decide}

abbrev pub named : List ℕ → Tree → Member
named k t = record { name = k; value = t }

pub put_all-snoc : (ms : Members) (ps : List Member) (p : Member) → put_all ms (ps ++ p ∷ []) ≡ put p.name (json_of p.value) (put_all ms ps)
put_all-snoc ms [] p = refl
put_all-snoc ms (q ∷ ps) p = put_all-snoc (put q.name (json_of q.value) ms) ps p

-- ---- a new name

none_mapped : (o : Option ℕ) → option_map suc o ≡ None → o ≡ None
none_mapped None e = refl
none_mapped (Some i) e = absurd cc

pub put_new : (k : List ℕ) (t : Tree) (ms : List Member) → place_of k ms ≡ None → members_of (ms ++ named k t ∷ []) ≡ put k (json_of t) (members_of ms)
put_new k t [] e = refl
put_new k t (m ∷ ms) e = go (bytes_eq k m.name) e (put_new k t ms)
  where
    go : (c : Bool) → (if c then Some 0 else option_map suc (place_of k ms)) ≡ None → (place_of k ms ≡ None → members_of (ms ++ named k t ∷ []) ≡ put k (json_of t) (members_of ms))
        → member m.name (json_of m.value) (members_of (ms ++ named k t ∷ [])) ≡ (if c then member m.name (json_of t) (members_of ms) else member m.name (json_of m.value) (put k (json_of t) (members_of ms)))
    go true e h = absurd cc
    go false e h = ap (member m.name (json_of m.value)) (h (none_mapped (place_of k ms) e))

other_place : (q k : List ℕ) (t : Tree) (ms : List Member) → bytes_eq q k ≡ false → place_of q (ms ++ named k t ∷ []) ≡ place_of q ms
other_place q k t [] e = rw e refl
other_place q k t (m ∷ ms) e = ap (λ (o : Option ℕ). if bytes_eq q m.name then Some 0 else option_map suc o) (other_place q k t ms e)

its_place : (q k : List ℕ) (t : Tree) (ms : List Member) → bytes_eq q k ≡ true → place_of q ms ≡ None → place_of q (ms ++ named k t ∷ []) ≡ Some (length ms)
its_place q k t [] e f = rw e refl
its_place q k t (m ∷ ms) e f = go (bytes_eq q m.name) f (its_place q k t ms e)
  where
    go : (c : Bool) → (if c then Some 0 else option_map suc (place_of q ms)) ≡ None → (place_of q ms ≡ None → place_of q (ms ++ named k t ∷ []) ≡ Some (length ms))
        → (if c then Some 0 else option_map suc (place_of q (ms ++ named k t ∷ []))) ≡ Some (suc (length ms))
    go true f h = absurd cc
    go false f h = ap (option_map suc) (h (none_mapped (place_of q ms) f))

-- names that are equal have one place
same_place : (q k : List ℕ) (ms : List Member) → bytes_eq q k ≡ true → place_of q ms ≡ place_of k ms
same_place q k [] e = refl
same_place q k (m ∷ ms) e = rw (nat_list_eq_equiv.congr q k m.name e, same_place q k ms e) refl

pub finds_new : (a b : BTreeMap (List ℕ) ℕ) (k : List ℕ) (t : Tree) (ms : List Member) (key : List ℕ) (n : ℕ) → Finds a ms → place_of k ms ≡ None
    → key ≡ k → n ≡ length ms → Updates (slice_cmp nat_cmp) a b key (Some n) → Finds b (ms ++ named k t ∷ [])
finds_new a b k t ms key n f e g l u = λ q. u.0 q ∙ rw (g, l, is_eq-slice_cmp k q, nat_list_eq_equiv.symm k q, f q) (go q (decide (bytes_eq q k)))
  where
    go : (q : List ℕ) → (bytes_eq q k ≡ true) ⊎ (bytes_eq q k ≡ false) → cond (bytes_eq q k) (Some (length ms)) (place_of q ms) ≡ place_of q (ms ++ named k t ∷ [])
    go q (inl y) = rw y (sym (its_place q k t ms y (same_place q k ms y ∙ e)))
    go q (inr y) = rw y (sym (other_place q k t ms y))

-- ---- a name that has a place

pub place_within : (k : List ℕ) (ms : List Member) (i : ℕ) → place_of k ms ≡ Some i → i < length ms
place_within k [] i e = absurd cc
place_within k (m ∷ ms) i e = go (bytes_eq k m.name) (place_of k ms) i e (place_within k ms)
  where
    go : (c : Bool) (o : Option ℕ) (i : ℕ) → (if c then Some 0 else option_map suc o) ≡ Some i → ((j : ℕ) → o ≡ Some j → j < length ms) → i < length (m ∷ ms)
    go true o zero e h = omega arith
    go true o (suc i) e h = absurd cc
    go false None i e h = absurd cc
    go false (Some j) i e h = let f : suc j ≡ i = cc in omega (arith, f, h j refl)

pub put_old : (k : List ℕ) (t : Tree) (ms : List Member) (i : ℕ) (x : Member) → place_of k ms ≡ Some i → x ≡ get_or ms i x → members_of (set ms i (named x.name t)) ≡ put k (json_of t) (members_of ms)
put_old k t [] i x e f = absurd cc
put_old k t (m ∷ ms) i x e f = go (bytes_eq k m.name) (place_of k ms) i e f (put_old k t ms)
  where
    go : (c : Bool) (o : Option ℕ) (i : ℕ) → (if c then Some 0 else option_map suc o) ≡ Some i → x ≡ get_or (m ∷ ms) i x
        → ((j : ℕ) (y : Member) → o ≡ Some j → y ≡ get_or ms j y → members_of (set ms j (named y.name t)) ≡ put k (json_of t) (members_of ms))
        → members_of (set (m ∷ ms) i (named x.name t)) ≡ (if c then member m.name (json_of t) (members_of ms) else member m.name (json_of m.value) (put k (json_of t) (members_of ms)))
    go true o zero e f h = ap (λ (y : Member). member y.name (json_of t) (members_of ms)) f
    go true o (suc i) e f h = absurd cc
    go false None i e f h = absurd cc
    go false (Some j) zero e f h = absurd cc
    go false (Some j) (suc i) e f h = let g : j ≡ i = cc in ap (member m.name (json_of m.value)) (h i x (ap Some g) f)

same_places : (q : List ℕ) (t : Tree) (ms : List Member) (i : ℕ) (x : Member) → x ≡ get_or ms i x → place_of q (set ms i (named x.name t)) ≡ place_of q ms
same_places q t [] i x f = refl
same_places q t (m ∷ ms) zero x f = ap (λ (y : Member). if bytes_eq q y.name then Some 0 else option_map suc (place_of q ms)) f
same_places q t (m ∷ ms) (suc i) x f = ap (λ (o : Option ℕ). if bytes_eq q m.name then Some 0 else option_map suc o) (same_places q t ms i x f)

pub finds_old : (a : BTreeMap (List ℕ) ℕ) (t : Tree) (ms : List Member) (i : ℕ) (x : Member) → Finds a ms → x ≡ get_or ms i x → Finds a (set ms i (named x.name t))
finds_old a t ms i x f e = λ q. f q ∙ sym (same_places q t ms i x e)

-- ---- names that come once

none_of : (q : List ℕ) (ms : List Member) → list_any (λ m. bytes_eq q m.name) ms ≡ false → place_of q ms ≡ None
none_of q [] e = refl
none_of q (m ∷ ms) e = go (bytes_eq q m.name) e (none_of q ms)
  where
    go : (c : Bool) → (c || list_any (λ m. bytes_eq q m.name) ms) ≡ false → (list_any (λ m. bytes_eq q m.name) ms ≡ false → place_of q ms ≡ None) → (if c then Some 0 else option_map suc (place_of q ms)) ≡ None
    go true e h = absurd cc
    go false e h = ap (option_map suc) (h e)

pub distinct_step : (ps : List Member) (i : ℕ) (x : Member) → i < length ps → x ≡ get_or ps i x → put_all no_members (take i ps) ≡ members_of (take i ps)
    → list_any (λ m. bytes_eq x.name m.name) (take i ps) ≡ false → put_all no_members (take (i + 1) ps) ≡ members_of (take (i + 1) ps)
distinct_step ps i x h g e f =
    let p = get_or ps i x in
    let new : list_any (λ m. bytes_eq p.name m.name) (take i ps) ≡ false = subst (λ (y : Member). list_any (λ m. bytes_eq y.name m.name) (take i ps) ≡ false) g f in
    rw (take_more ps i x h) (put_all-snoc no_members (take i ps) p ∙ ap (put p.name (json_of p.value)) e ∙ sym (put_new p.name p.value (take i ps) (none_of p.name (take i ps) new)))
