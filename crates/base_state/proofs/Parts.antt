-- What a base keeps of an item fits it where its parts do.
use Rattle.std.proofs.Common.{◌≡◌, ◌≤◌, ◌<◌, ◌+◌, ◌==◌, ◌&&◌, ◌||◌, ◌⊎◌, inl, inr, ℕ, zero, suc, Bool, true, false, cond, not, List, [], ◌∷◌, ◌++◌, length, map, filter, reverse, take, refl, sym, ◌∙◌, ap, ap₂, subst, eqb-true, eq-eqb, leb-true, ltb-false, le-ltb, nat_lt, nat_le, arith, length-append, Option, Some, None, option_and_then, IsTrue, ◌↔◌, ◌^◌, ℤ, unsigned_abs}
use Rattle.std.specs.Cmp.Lexicographic.{bytes_decides}
use Rattle.std.specs.List.{AllByRecursion, count_by}
use Rattle.std.specs.Str.{bytes_eq}
use Rattle.std.proofs.lemmas.Bool.{lt-ltb, leb-false}
use Rattle.std.proofs.lemmas.List.{reverse-append, length-take, take_all}
use Rattle.std.proofs.lemmas.List.Sums.{length-filter}
use Rattle.zbx_types.specs.Moments.{seconds_after}
use Rattle.zbx_types.specs.Numerals.{Numeral, numeral_of, magnitude, signed, value_of, read_number}
use Rattle.zbx_types.specs.Written.{written}
use Rattle.zbx_types.proofs.ReadAgain.{written_is_read}
use Rattle.zbx_types.specs.declared.base.BaseItem.{BaseItem}
use Rattle.zbx_types.specs.declared.base.BaseValue.{BaseValue}
use Rattle.zbx_types.specs.declared.entries.Stored.{Stored}
use Rattle.zbx_types.specs.declared.items.Item.{Item}
use Rattle.zbx_types.specs.declared.items.ValueType.{ValueType}
use Rattle.zbx_types.specs.declared.items.ValueType.TheVariants as type
use Rattle.value_cache.specs.Cells.{is_young, trim}
use Rattle.value_cache.specs.Histories.{is_later, IsOrdered}
use Rattle.value_cache.specs.declared.keeping.Keep.{Keep}
use Rattle.value_cache.proofs.Orders.{time_up_to}
use Rattle.base_laws.specs.Bases.{read_value}
use Rattle.base_laws.specs.FitsBase.{IsWritten, IsTextOf, FitsItem}
use Rattle.entry_step.specs.Each.{Each, EachPair}
use Rattle.entry_step.proofs.Members.{each_both, each_sub}
use Rattle.base_state.specs.Fitting.{FitsValue, is_after, StandsBefore, is_old, FitSteps}

-- ---- the order of values

UpTo : BaseValue → BaseValue → Type 0
UpTo v w = (v.time < w.time) ⊎ ((v.time ≡ w.time) × (v.number ≤ w.number))

not_after : (v w : BaseValue) → is_after v w ≡ false → UpTo v w
unfolding UpTo
not_after v w e = go (nat_lt w.time v.time) refl (v.time == w.time) refl (nat_lt w.number v.number) refl e
  where
    less : v.time ≤ w.time → (v.time ≡ w.time → ⊥) → v.time < w.time
    less l n = omega arith

    go : (p : Bool) → nat_lt w.time v.time ≡ p → (q : Bool) → (v.time == w.time) ≡ q → (r : Bool) → nat_lt w.number v.number ≡ r → (p || (q && r)) ≡ false → (v.time < w.time) ⊎ ((v.time ≡ w.time) × (v.number ≤ w.number))
    go true p q d r f h = cc
    go false p true d true f h = cc
    go false p true d false f h = let n = ltb-false w.number v.number f in inr (eqb-true v.time w.time d, n)
    go false p false d r f h = inl (less (ltb-false w.time v.time p) (λ e. (let t = eq-eqb v.time w.time e in cc)))

up_to : (v w : BaseValue) → UpTo v w → is_after v w ≡ false
unfolding UpTo
up_to v w (inl l) = rw (le-ltb w.time v.time (omega arith)) (other (v.time == w.time) refl)
  where
    other : (q : Bool) → (v.time == w.time) ≡ q → (q && nat_lt w.number v.number) ≡ false
    other true d = let e = eqb-true v.time w.time d in absurd (omega arith)
    other false d = refl
up_to v w (inr e) = let t = e.0 in rw (le-ltb w.time v.time (omega arith), le-ltb w.number v.number e.1) (last (v.time == w.time))
  where
    last : (q : Bool) → (q && false) ≡ false
    last true = refl
    last false = refl

up_to_trans : (u v w : BaseValue) → UpTo u v → UpTo v w → UpTo u w
unfolding UpTo
up_to_trans u v w (inl l) (inl m) = inl (omega arith)
up_to_trans u v w (inl l) (inr m) = let e = m.0 in inl (omega arith)
up_to_trans u v w (inr l) (inl m) = let e = l.0 in inl (omega arith)
up_to_trans u v w (inr l) (inr m) = let d = l.1 in let e = m.1 in inr (l.0 ∙ m.0, omega arith)

pub before_trans : (u v w : BaseValue) → StandsBefore u v → StandsBefore v w → StandsBefore u w
before_trans u v w d e = up_to u w (up_to_trans u v w (not_after u v d) (not_after v w e))

-- values in order are a history in order
module _ (t : ValueType) where
  abbrev history : List BaseValue → List Stored
  history vs = reverse (map (read_value t) vs)

  later_is : (v w : BaseValue) → is_later (read_value t v) (read_value t w) ≡ is_after v w
  unfolding is_later
  later_is v w = refl

  history_cons : (v : BaseValue) (vs : List BaseValue) → history (v ∷ vs) ≡ history vs ++ read_value t v ∷ []
  history_cons v vs = reverse-append (read_value t v ∷ []) (map (read_value t) vs)

  -- one more value at the end, which is the earliest
  all_push : (P : Stored → Type 0) (xs : List Stored) (y : Stored) → AllByRecursion P xs → P y → AllByRecursion P (xs ++ y ∷ [])
  all_push P [] y a p = (p, tt)
  all_push P (x ∷ xs) y a p = (a.0, all_push P xs y a.1 p)

  all_front : (P : Stored → Type 0) (xs ys : List Stored) → AllByRecursion P (xs ++ ys) → AllByRecursion P xs
  all_front P [] ys a = tt
  all_front P (x ∷ xs) ys a = (a.0, all_front P xs ys a.1)

  all_last : (P : Stored → Type 0) (xs : List Stored) (y : Stored) → AllByRecursion P (xs ++ y ∷ []) → P y
  all_last P [] y a = a.0
  all_last P (x ∷ xs) y a = all_last P xs y a.1

  -- each of these isn't earlier than y
  abbrev Above : Stored → List Stored → Type 0
  Above y xs = Each (λ x. is_later y x ≡ false) xs

  ordered_push : (xs : List Stored) (y : Stored) → IsOrdered xs → Above y xs → IsOrdered (xs ++ y ∷ [])
  ordered_push [] y o h = (tt, tt)
  ordered_push (x ∷ xs) y o h = (all_push (λ z. is_later z x ≡ false) xs y o.0 h.0, ordered_push xs y o.1 h.1)

  ordered_front : (xs : List Stored) (y : Stored) → IsOrdered (xs ++ y ∷ []) → IsOrdered xs × Above y xs
  ordered_front [] y o = (tt, tt)
  ordered_front (x ∷ xs) y o =
      let rest = ordered_front xs y o.1 in
      ((all_front (λ z. is_later z x ≡ false) xs (y ∷ []) o.0, rest.0), (all_last (λ z. is_later z x ≡ false) xs y o.0, rest.1))

  above_push : (y : Stored) (xs : List Stored) (x : Stored) → Above y xs → is_later y x ≡ false → Above y (xs ++ x ∷ [])
  above_push y [] x h e = (e, tt)
  above_push y (z ∷ zs) x h e = (h.0, above_push y zs x h.1 e)

  above_split : (y : Stored) (xs : List Stored) (x : Stored) → Above y (xs ++ x ∷ []) → Above y xs × (is_later y x ≡ false)
  above_split y [] x h = (tt, h.0)
  above_split y (z ∷ zs) x h = let rest = above_split y zs x h.1 in ((h.0, rest.0), rest.1)

  above : (v : BaseValue) (vs : List BaseValue) → Each (StandsBefore v) vs → Above (read_value t v) (history vs)
  above v [] e = tt
  above v (w ∷ ws) e = subst (Above (read_value t v)) (sym (history_cons w ws)) (above_push (read_value t v) (history ws) (read_value t w) (above v ws e.1) (later_is v w ∙ e.0))

  below : (v : BaseValue) (vs : List BaseValue) → Above (read_value t v) (history vs) → Each (StandsBefore v) vs
  below v [] h = tt
  below v (w ∷ ws) h = let both = above_split (read_value t v) (history ws) (read_value t w) (subst (Above (read_value t v)) (history_cons w ws) h) in (sym (later_is v w) ∙ both.1, below v ws both.0)

  pub in_order : (vs : List BaseValue) → EachPair StandsBefore vs → IsOrdered (history vs)
  in_order [] e = tt
  in_order (v ∷ vs) e = subst IsOrdered (sym (history_cons v vs)) (ordered_push (history vs) (read_value t v) (in_order vs e.1) (above v vs e.0))

  pub from_order : (vs : List BaseValue) → IsOrdered (history vs) → EachPair StandsBefore vs
  from_order [] o = tt
  from_order (v ∷ vs) o = let both = ordered_front (history vs) (read_value t v) (subst IsOrdered (history_cons v vs) o) in (below v vs both.1, from_order vs both.0)

  -- ---- what is to be kept

  module _ (keep : Keep) (now : ℕ) where
    abbrev old : Stored → Bool
    old s = not (is_young keep now s)

    old_is : (v : BaseValue) → old (read_value t v) ≡ is_old keep now v
    unfolding is_young
    old_is v = go (nat_le (seconds_after keep.period v.time) now) refl
      where
        go : (b : Bool) → nat_le (seconds_after keep.period v.time) now ≡ b → not (nat_lt now (seconds_after keep.period v.time)) ≡ b
        go true q = ap not (le-ltb now (seconds_after keep.period v.time) (leb-true (seconds_after keep.period v.time) now q))
        go false q = ap not (lt-ltb now (seconds_after keep.period v.time) (leb-false (seconds_after keep.period v.time) now q))

    filter_push : (p : Stored → Bool) (xs : List Stored) (y : Stored) → length (filter p (xs ++ y ∷ [])) ≡ length (filter p xs) + cond (p y) 1 0
    filter_push p [] y = go (p y)
      where
        go : (b : Bool) → length (cond b (y ∷ []) []) ≡ 0 + cond b 1 0
        go true = refl
        go false = refl
    filter_push p (x ∷ xs) y = go (p x) (filter_push p xs y)
      where
        go : (b : Bool) → length (filter p (xs ++ y ∷ [])) ≡ length (filter p xs) + cond (p y) 1 0 → length (cond b (x ∷ filter p (xs ++ y ∷ [])) (filter p (xs ++ y ∷ []))) ≡ length (cond b (x ∷ filter p xs) (filter p xs)) + cond (p y) 1 0
        go true e = omega (arith, e)
        go false e = e

    long : (vs : List BaseValue) → length (filter old (history vs)) ≡ length (filter (is_old keep now) vs)
    long [] = refl
    long (v ∷ vs) =
        ap (λ xs. length (filter old xs)) (history_cons v vs) ∙ filter_push old (history vs) (read_value t v)
        ∙ ap₂ (λ n b. n + cond b 1 0) (long vs) (old_is v) ∙ go (is_old keep now v)
      where
        go : (b : Bool) → length (filter (is_old keep now) vs) + cond b 1 0 ≡ length (cond b (v ∷ filter (is_old keep now) vs) (filter (is_old keep now) vs))
        go true = omega arith
        go false = omega arith

    counted : (vs : List BaseValue) → length (filter old (history vs)) ≡ count_by (is_old keep now) vs
    counted vs = long vs ∙ length-filter (is_old keep now) vs

    -- what isn't later than a value that isn't of the period isn't either
    stays_old : (x y : Stored) → is_young keep now x ≡ false → is_later y x ≡ false → is_young keep now y ≡ false
    unfolding is_young
    stays_old x y q l =
        let first : y.time ≤ x.time = time_up_to y x l in
        let past : seconds_after keep.period x.time ≤ now = ltb-false now (seconds_after keep.period x.time) q in
        le-ltb now (seconds_after keep.period y.time) (omega (arith, first, past))

    -- a history in order has those of the period first
    young_first : (xs : List Stored) → IsOrdered xs → filter (is_young keep now) xs ++ filter old xs ≡ xs
    young_first [] o = refl
    young_first (x ∷ xs) o = go (is_young keep now x) refl (young_first xs o.1)
      where
        none : is_young keep now x ≡ false → (ys : List Stored) → AllByRecursion (λ y. is_later y x ≡ false) ys → filter (is_young keep now) ys ≡ []
        none q [] a = refl
        none q (y ∷ ys) a = step (is_young keep now y) (stays_old x y q a.0) (none q ys a.1)
          where
            step : (b : Bool) → b ≡ false → filter (is_young keep now) ys ≡ [] → cond b (y ∷ filter (is_young keep now) ys) (filter (is_young keep now) ys) ≡ []
            step true e h = absurd (cc)
            step false e h = h

        go : (b : Bool) → is_young keep now x ≡ b → filter (is_young keep now) xs ++ filter old xs ≡ xs
            → cond b (x ∷ filter (is_young keep now) xs) (filter (is_young keep now) xs) ++ cond (not b) (x ∷ filter old xs) (filter old xs) ≡ x ∷ xs
        go true q ih = ap (λ ys. x ∷ ys) ih
        go false q ih =
            let empty : filter (is_young keep now) xs ≡ [] = none q xs o.0 in
            ap (λ ys. ys ++ x ∷ filter old xs) empty ∙ ap (λ ys. x ∷ ys) (sym (ap (λ ys. ys ++ filter old xs) empty) ∙ ih)

    pub trimmed : (vs : List BaseValue) → EachPair StandsBefore vs → count_by (is_old keep now) vs ≤ keep.count → trim keep now (history vs) ≡ history vs
    unfolding trim
    trimmed vs e l =
        let few : length (filter old (history vs)) ≤ keep.count = subst (λ n. n ≤ keep.count) (sym (counted vs)) l in
        ap (λ ys. filter (is_young keep now) (history vs) ++ ys) (take_all keep.count (filter old (history vs)) few) ∙ young_first (history vs) (in_order vs e)

    pub few_old : (vs : List BaseValue) → EachPair StandsBefore vs → trim keep now (history vs) ≡ history vs → count_by (is_old keep now) vs ≤ keep.count
    unfolding trim
    few_old vs e same =
        let whole = young_first (history vs) (in_order vs e) in
        let long : length (filter (is_young keep now) (history vs) ++ take keep.count (filter old (history vs))) ≡ length (filter (is_young keep now) (history vs) ++ filter old (history vs)) = ap length (same ∙ sym whole) in
        let one = length-append (filter (is_young keep now) (history vs)) (take keep.count (filter old (history vs))) in
        let other = length-append (filter (is_young keep now) (history vs)) (filter old (history vs)) in
        let cut = length-take keep.count (filter old (history vs)) in
        subst (λ n. n ≤ keep.count) (counted vs) (omega (arith, long, one, other, cut))

-- ---- an item

abbrev pub FitsParts : Keep → ℕ → ℕ → Item → BaseItem → Type 0
FitsParts keep number now item kept = EachPair StandsBefore kept.values × ((count_by (is_old keep now) kept.values ≤ keep.count)
    × (Each (FitsValue item.value_type number now) kept.values × (EachPair (λ (v w : BaseValue). v.number ≡ w.number → ⊥) kept.values × FitSteps now item.steps kept.steps)))

pub item_parts : (keep : Keep) (number now : ℕ) (item : Item) (kept : BaseItem) → FitsParts keep number now item kept → FitsItem keep number now item kept
item_parts keep number now item kept p = record {
  texts = each_sub (FitsValue item.value_type number now) (λ v. IsTextOf item.value_type v.value) kept.values (λ v h. h.0) p.1.1.0;
  ordered = in_order item.value_type kept.values p.0;
  numbers = p.1.1.1.0;
  upto = each_sub (FitsValue item.value_type number now) (λ v. (v.number ≤ number) × (v.time ≤ now)) kept.values (λ v h. h.1) p.1.1.0;
  trimmed = trimmed item.value_type keep now kept.values p.0 p.1.0;
  steps = p.1.1.1.1.0;
  memories = p.1.1.1.1.1;
}

pub parts_item : (keep : Keep) (number now : ℕ) (item : Item) (kept : BaseItem) → FitsItem keep number now item kept → FitsParts keep number now item kept
parts_item keep number now item kept f =
    let pairs = from_order item.value_type kept.values f.ordered in (
      pairs,
      (
        few_old item.value_type keep now kept.values pairs f.trimmed,
        (
          each_both (λ (v : BaseValue). IsTextOf item.value_type v.value) (λ (v : BaseValue). (v.number ≤ number) × (v.time ≤ now)) kept.values f.texts f.upto,
          (f.numbers, (f.steps, f.memories)),
        ),
      ),
    )

-- ---- written numbers

abs_signed : (negative : Bool) (n : ℕ) → unsigned_abs (signed negative n) ≡ n
abs_signed true zero = refl
abs_signed true (suc n) = refl
abs_signed false n = refl

read_small : (text : List ℕ) (z : ℤ) → read_number text ≡ Some z → unsigned_abs z ≤ 10 ^ 30
unfolding read_number value_of
read_small text z e = go (numeral_of text) e
  where
    at : (n : Numeral) (b : Bool) → nat_le (magnitude n) (10 ^ 30) ≡ b → cond b (Some (signed n.negative (magnitude n))) None ≡ Some z → unsigned_abs z ≤ 10 ^ 30
    at n true q s =
        let same : signed n.negative (magnitude n) ≡ z = cc in
        let size : unsigned_abs z ≡ magnitude n = ap unsigned_abs (sym same) ∙ abs_signed n.negative (magnitude n) in
        subst (λ k. k ≤ 10 ^ 30) (sym size) (leb-true (magnitude n) (10 ^ 30) q)
    at n false q s = absurd (cc)

    go : (o : Option Numeral) → option_and_then value_of o ≡ Some z → unsigned_abs z ≤ 10 ^ 30
    go None s = absurd (cc)
    go (Some n) s = at n (nat_le (magnitude n) (10 ^ 30)) refl s

pub not_written : (text : List ℕ) → read_number text ≡ None → IsWritten text → ⊥
not_written text none w = let clash : None ≡ Some w.0 = sym none ∙ ap read_number w.2 ∙ written_is_read w.0 w.1 in absurd (cc)

pub is_written : (text : List ℕ) (z : ℤ) (b : Bool) → read_number text ≡ Some z → b ≡ bytes_eq (written z) text → IsTrue b ↔ IsWritten text
is_written text z b read is = (
  (λ t. (z, read_small text z read, sym ((bytes_decides (written z) text).0 (sym is ∙ t)))),
  (λ w. (let same : Some z ≡ Some w.0 = sym read ∙ ap read_number w.2 ∙ written_is_read w.0 w.1 in
      let number : z ≡ w.0 = cc in is ∙ (bytes_decides (written z) text).1 (ap written number ∙ sym w.2))),
)

pub number_value : (t : ValueType) (number now : ℕ) (v : BaseValue) → t ≡ type.Number → v.number ≤ number → v.time ≤ now → (IsWritten v.value → FitsValue t number now v) × (FitsValue t number now v → IsWritten v.value)
number_value t number now v is upto by =
    subst (λ (u : ValueType). (IsWritten v.value → FitsValue u number now v) × (FitsValue u number now v → IsWritten v.value)) (sym is) ((λ w. (w, (upto, by))), (λ f. f.0))
