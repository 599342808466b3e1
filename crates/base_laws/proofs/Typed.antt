-- What is stored of an item is of its type.
use Rattle.std.proofs.Common.{◌≡◌, ◌≤◌, ◌^◌, ◌==◌, ℕ, zero, suc, ◌-◌, nat_le, Bool, true, false, cond, Option, Some, None, List, [], ◌∷◌, length, option_map, option_and_then, refl, sym, ◌∙◌, ap, subst, eqb-true, ℤ, unsigned_abs}
use Rattle.std.specs.Prelude.{filter_map}
use Rattle.std.specs.List.{cons_option}
use Rattle.std.proofs.lemmas.Bool.{leb-true}
use Rattle.zbx_types.specs.Blanks.{unpadded}
use Rattle.zbx_types.specs.Ids.{at_id}
use Rattle.zbx_types.specs.Numerals.{Numeral, numeral_of, magnitude, signed, value_of, read_number}
use Rattle.zbx_types.specs.declared.conf.Conf.{Conf}
use Rattle.zbx_types.specs.declared.entries.Entry.{Entry}
use Rattle.zbx_types.specs.declared.entries.Entry.TheVariants.{Config, Value, Tick}
use Rattle.zbx_types.specs.declared.entries.Held.TheVariants as held
use Rattle.zbx_types.specs.declared.entries.Stored.{Stored}
use Rattle.zbx_types.specs.declared.items.Item.{Item}
use Rattle.zbx_types.specs.declared.items.ValueType.{ValueType}
use Rattle.zbx_types.specs.declared.items.ValueType.TheVariants as type
use Rattle.prep_steps.specs.Numbering.{number_of}
use Rattle.prep_steps.specs.declared.outcome.Outcome.{Outcome}
use Rattle.prep_steps.specs.declared.outcome.Outcome.TheVariants as outcomes
use Rattle.preprocess.specs.Chain.{number_ended, ended_as, comes_of, chain_of}
use Rattle.preprocess.specs.Draft.{stored_by, stored_of as stored_in, visit_at}
use Rattle.preprocess.specs.Visits.{Arrival, chained_by, came, result_of, visited, outcome_of, visit_of, visits_of}
use Rattle.preprocess.specs.declared.chain.Chained.{Chained}
use Rattle.preprocess.specs.declared.ended.Ended.{Ended}
use Rattle.preprocess.specs.declared.visit.Visit.{Visit}
use Rattle.value_cache.specs.Histories.{is_later, placed}
use Rattle.entry_step.specs.Each.{Each}
use Rattle.entry_step.specs.History.{stored_of, with_stored}
use Rattle.entry_step.proofs.Visited.{Memory}
use Rattle.base_laws.specs.Sound.{IsOfType}

-- A number that is written is in range
abs_signed : (negative : Bool) (n : ℕ) → unsigned_abs (signed negative n) ≡ n
abs_signed true zero = refl
abs_signed true (suc n) = refl
abs_signed false n = refl

pub number_small : (text : List ℕ) (z : ℤ) → number_of text ≡ Some z → unsigned_abs z ≤ 10 ^ 30
unfolding number_of read_number value_of
number_small text z e = go (numeral_of (unpadded text)) e
  where
    at : (n : Numeral) (b : Bool) → nat_le (magnitude n) (10 ^ 30) ≡ b → cond b (Some (signed n.negative (magnitude n))) None ≡ Some z → unsigned_abs z ≤ 10 ^ 30
    at n true q s =
        let same : signed n.negative (magnitude n) ≡ z = cc in
        let size : unsigned_abs z ≡ magnitude n = ap unsigned_abs (sym same) ∙ abs_signed n.negative (magnitude n) in
        subst (λ k. k ≤ 10 ^ 30) (sym size) (leb-true (magnitude n) (10 ^ 30) q)
    at n false q s = cc

    go : (o : Option Numeral) → option_and_then value_of o ≡ Some z → unsigned_abs z ≤ 10 ^ 30
    go None s = cc
    go (Some n) s = at n (nat_le (magnitude n) (10 ^ 30)) refl s

module _ (time number : ℕ) (s : Stored) where
  abbrev Stores : Ended → Type 0
  Stores end = stored_by (outcome_of time number end) ≡ Some s

  number_typed : (text : List ℕ) (o : Option ℤ) → number_of text ≡ o → Stores (number_ended o) → IsOfType type.Number s.value
  number_typed text None q e = cc
  number_typed text (Some z) q e =
      let same : record { time = time; number = number; value = held.Number z } ≡ s = cc in
      subst (IsOfType type.Number) (ap (λ (x : Stored). x.value) same) (number_small text z q)

  ended_typed : (t : ValueType) (o : Outcome) → Stores (ended_as t o) → IsOfType t s.value
  ended_typed type.Number (outcomes.Value text) e = number_typed text (number_of text) refl e
  ended_typed type.Words (outcomes.Value text) e =
      let same : record { time = time; number = number; value = held.Words text } ≡ s = cc in
      subst (IsOfType type.Words) (ap (λ (x : Stored). x.value) same) tt
  ended_typed t outcomes.Discard e = cc
  ended_typed t (outcomes.Fail why) e = cc

pub found_is : (f : ℕ → Option Visit) → ((j : ℕ) (v : Visit) → f j ≡ Some v → v.item ≡ j) → (ids : List ℕ) (i : ℕ) (v : Visit) → visit_at (filter_map f ids) i ≡ Some v → f i ≡ Some v
found_is f its [] i v e = absurd (cc)
found_is f its (j ∷ ids) i v e = go (f j) refl (found_is f its ids i v) e
  where
    go : (o : Option Visit) → f j ≡ o → (visit_at (filter_map f ids) i ≡ Some v → f i ≡ Some v) → visit_at (cons_option o (filter_map f ids)) i ≡ Some v → f i ≡ Some v
    go None q ih r = ih r
    go (Some x) q ih r = at (x.item == i) refl r
      where
        at : (b : Bool) → (x.item == i) ≡ b → cond b (Some x) (visit_at (filter_map f ids) i) ≡ Some v → f i ≡ Some v
        at true t s = let same : j ≡ i = sym (its j x q) ∙ eqb-true x.item i t in ap f (sym same) ∙ q ∙ s
        at false t s = ih s

module _ (conf : Conf) (memory : Memory) (arrival : Arrival) (id : ℕ) (item : Item) (there : at_id conf.items id ≡ Some item) (s : Stored) where
  abbrev found : ℕ → Option Visit
  found j = option_map (visit_of arrival.time arrival.number j) (result_of conf memory arrival j)

  found_item : (j : ℕ) (v : Visit) → found j ≡ Some v → v.item ≡ j
  found_item j v e = go (result_of conf memory arrival j) e
    where
      go : (o : Option Chained) → option_map (visit_of arrival.time arrival.number j) o ≡ Some v → v.item ≡ j
      go None q = cc
      go (Some chained) q = let same : visit_of arrival.time arrival.number j chained ≡ v = cc in sym (ap (λ x. x.item) same)

  visit_typed : (v : Visit) → found id ≡ Some v → stored_by v.outcome ≡ Some s → IsOfType item.value_type s.value
  unfolding result_of chain_of
  visit_typed v e stores = go (at_id conf.items id) there (came conf memory arrival (length conf.items) id) e
    where
      go : (x : Option Item) → x ≡ Some item → (t : Option (List ℕ)) → option_map (visit_of arrival.time arrival.number id) (chained_by (memory id) arrival.time x t) ≡ Some v → IsOfType item.value_type s.value
      go None q t r = cc
      go (Some x) q None r = cc
      go (Some x) q (Some value) r =
          let is : x ≡ item = cc in
          let chained : Chained = chain_of x (memory id) value arrival.time in
          let same : visit_of arrival.time arrival.number id chained ≡ v = cc in
          subst (λ (i : Item). IsOfType i.value_type s.value) is
          (ended_typed arrival.time arrival.number s x.value_type (comes_of x.steps 1 (memory id) value arrival.time) (ap (λ (w : Visit). stored_by w.outcome) same ∙ stores))

  value_typed : stored_in (visit_at (visits_of conf memory arrival) id) ≡ Some s → IsOfType item.value_type s.value
  unfolding visits_of
  value_typed e = go (visit_at (visits_of conf memory arrival) id) refl e
    where
      go : (o : Option Visit) → visit_at (visits_of conf memory arrival) id ≡ o → stored_in o ≡ Some s → IsOfType item.value_type s.value
      go None q r = cc
      go (Some v) q r = visit_typed v (found_is found found_item (visited conf (length conf.items - 1) arrival.item) id v q) r

pub stored_typed : (conf : Conf) (memory : Memory) (number : ℕ) (entry : Entry) (id : ℕ) (item : Item) (s : Stored) → at_id conf.items id ≡ Some item → stored_of conf memory number entry id ≡ Some s → IsOfType item.value_type s.value
unfolding stored_of
stored_typed conf memory number (Config now text) id item s there e = cc
stored_typed conf memory number (Tick now) id item s there e = cc
stored_typed conf memory number (Value now i time value) id item s there e = value_typed conf memory (record { item = i; time = time; number = number; value = value }) id item there s e

each_placed : (P : Stored → Type 0) (s : Stored) (h : List Stored) → P s → Each P h → Each P (placed s h)
each_placed P s [] p e = (p, tt)
each_placed P s (x ∷ xs) p e = go (is_later x s) (each_placed P s xs p e.1)
  where
    go : (b : Bool) → Each P (placed s xs) → Each P (cond b (x ∷ placed s xs) (s ∷ x ∷ xs))
    go true ih = (e.0, ih)
    go false ih = (p, e)

pub each_with : (P : Stored → Type 0) (o : Option Stored) (h : List Stored) → ((s : Stored) → o ≡ Some s → P s) → Each P h → Each P (with_stored o h)
each_with P None h p e = e
each_with P (Some s) h p e = each_placed P s h (p s refl) e
