-- The last step of each action, in the order of the actions' names.
use Rattle.std.proofs.Common.{◌≡◌, ℕ, Bool, true, false, cond, List, [], ◌∷◌, refl, sym, ◌∙◌, ap, subst, Ordering, Less, Equal, Greater}
use Rattle.std.specs.Str.{bytes_eq}
use Rattle.std.specs.Ordering.{is_lt, is_eq, nat_cmp, ordering_reverse}
use Rattle.std.specs.Cmp.Lexicographic.{slice_cmp, bytes_decides, nat_list_cmp_total}
use Rattle.std.proofs.lemmas.Map.Text.{is_eq-slice_cmp}
use Rattle.zbx_types.specs.declared.entries.Rec.{Rec}
use Rattle.trigger_state.specs.Problems.{action_of, same_action, is_before, with_step}
use Rattle.entry_step.specs.Each.{Each, EachPair}
use Rattle.entry_step.proofs.Members.{each_sub}

pub name_is : (a b : List ℕ) → bytes_eq a b ≡ true → a ≡ b
name_is a b e = (bytes_decides a b).0 e

less_is : (r : Ordering) → is_lt r ≡ true → r ≡ Less
less_is Less e = refl
less_is Equal e = absurd (cc)
less_is Greater e = absurd (cc)

pub before_other : (x s : Rec) → is_before x s ≡ true → bytes_eq (action_of x) (action_of s) ≡ false
before_other x s e = sym (is_eq-slice_cmp (action_of x) (action_of s)) ∙ ap is_eq (less_is (slice_cmp nat_cmp (action_of x) (action_of s)) e)

before_trans : (x y z : Rec) → is_before x y ≡ true → is_before y z ≡ true → is_before x z ≡ true
before_trans x y z e f =
    ap is_lt (nat_list_cmp_total.trans (action_of x) (action_of y) (action_of z) (less_is (slice_cmp nat_cmp (action_of x) (action_of y)) e) (less_is (slice_cmp nat_cmp (action_of y) (action_of z)) f))

before_turned : (x s : Rec) → is_before x s ≡ false → same_action x s ≡ false → is_before s x ≡ true
before_turned x s e f = go (slice_cmp nat_cmp (action_of x) (action_of s)) refl
  where
    go : (r : Ordering) → slice_cmp nat_cmp (action_of x) (action_of s) ≡ r → is_before s x ≡ true
    go Less q = let t : is_before x s ≡ true = ap is_lt q in cc
    go Equal q = let t : same_action x s ≡ true = sym (is_eq-slice_cmp (action_of x) (action_of s)) ∙ ap is_eq q in cc
    go Greater q = ap is_lt (nat_list_cmp_total.antisymm (action_of s) (action_of x) ∙ ap ordering_reverse q)

abbrev pub Ordered : List Rec → Type 0
Ordered steps = EachPair (λ x y. is_before x y ≡ true) steps

pub with_each : (P : Rec → Type 0) (steps : List Rec) (s : Rec) → Each P steps → P s → Each P (with_step steps s)
with_each P [] s e p = (p, tt)
with_each P (x ∷ xs) s e p = go (is_before x s) (same_action x s) (with_each P xs s e.1 p)
  where
    go : (b c : Bool) → Each P (with_step xs s) → Each P (cond b (x ∷ with_step xs s) (cond c (s ∷ xs) (s ∷ x ∷ xs)))
    go true c ih = (e.0, ih)
    go false true ih = (p, e.1)
    go false false ih = (p, e)

pub with_ordered : (steps : List Rec) (s : Rec) → Ordered steps → Ordered (with_step steps s)
with_ordered [] s o = (tt, tt)
with_ordered (x ∷ xs) s o = go (is_before x s) (same_action x s) refl refl (with_ordered xs s o.1)
  where
    go : (b c : Bool) → is_before x s ≡ b → same_action x s ≡ c → Ordered (with_step xs s) → Ordered (cond b (x ∷ with_step xs s) (cond c (s ∷ xs) (s ∷ x ∷ xs)))
    go true c q r ih = (with_each (λ y. is_before x y ≡ true) xs s o.0 q, ih)
    go false true q r ih = (
      each_sub (λ y. is_before x y ≡ true) (λ y. is_before s y ≡ true) xs
          (λ y h. subst (λ n. is_lt (slice_cmp nat_cmp n (action_of y)) ≡ true) (name_is (action_of x) (action_of s) r) h) o.0,
      o.1,
    )
    go false false q r ih =
        let turned : is_before s x ≡ true = before_turned x s q r in
        ((turned, each_sub (λ y. is_before x y ≡ true) (λ y. is_before s y ≡ true) xs (λ y h. before_trans s x y turned h) o.0), o)
