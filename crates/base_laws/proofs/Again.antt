-- What a base tells is read again.
use Rattle.std.proofs.Common.{◌≡◌, ℕ, zero, suc, ◌+◌, Some, List, [], ◌∷◌, map, reverse, take, filter, option_map, slice_get, refl, sym, ◌∙◌, ap, ap₂, subst, arith, pos, not}
use Rattle.std.specs.Option.{unwrap_or}
use Rattle.std.proofs.lemmas.List.{reverse-append, reverse-reverse}
use Rattle.zbx_types.specs.Ids.{at_id, ids_from}
use Rattle.zbx_types.specs.declared.entries.Held.{Held}
use Rattle.zbx_types.specs.declared.entries.Held.TheVariants as held
use Rattle.zbx_types.specs.declared.entries.Stored.{Stored}
use Rattle.zbx_types.specs.declared.items.ValueType.{ValueType}
use Rattle.zbx_types.specs.declared.items.ValueType.TheVariants as type
use Rattle.zbx_types.proofs.ReadAgain.{written_is_read}
use Rattle.zbx_types.proofs.RowLemmas.{at_zero, at_suc}
use Rattle.prep_steps.specs.declared.memory.StepMemory.{StepMemory}
use Rattle.value_cache.specs.Cells.{is_young, trim}
use Rattle.value_cache.specs.declared.keeping.Keep.{Keep}
use Rattle.entry_step.specs.Each.{Each}
use Rattle.entry_step.proofs.Members.{each_append, each_kept}
use Rattle.base_laws.specs.Bases.{told_value, read_value, told_step, read_step}
use Rattle.base_laws.specs.Sound.{IsOfType}

-- The item with an id, in a list that is made of ids
ids_get : {A B : Type 0} (f : ℕ → B) (from : ℕ) (xs : List A) (k : ℕ) → slice_get (map f (ids_from from xs)) k ≡ option_map (λ x. f (k + from)) (slice_get xs k)
ids_get f from [] k = refl
ids_get f from (x ∷ xs) zero =
    let none : from ≡ zero + from = omega arith in ap (λ n. Some (f n)) none
ids_get f from (x ∷ xs) (suc k) =
    let next : k + (from + 1) ≡ suc k + from = omega arith in
    ids_get f (from + 1) xs k ∙ ap (λ n. option_map (λ y. f n) (slice_get xs k)) next

pub at_ids : {A B : Type 0} (f : ℕ → B) (xs : List A) (id : ℕ) → at_id (map f (ids_from 1 xs)) id ≡ option_map (λ x. f id) (at_id xs id)
at_ids f xs zero = rw (at_zero (map f (ids_from 1 xs)), at_zero xs) refl
at_ids f xs (suc k) =
    let next : k + 1 ≡ suc k = omega arith in
    rw (at_suc (map f (ids_from 1 xs)) k, at_suc xs k) (ids_get f 1 xs k ∙ ap (λ n. option_map (λ x. f n) (slice_get xs k)) next)

-- What is told is read again
pub steps_again : (marks : List StepMemory) → map read_step (map told_step marks) ≡ marks
steps_again [] = refl
steps_again (m ∷ ms) = ap (λ xs. m ∷ xs) (steps_again ms)

value_again : (t : ValueType) (s : Stored) → IsOfType t s.value → read_value t (told_value s) ≡ s
value_again t s is = go t s.value refl is
  where
    with_value : Held → Stored
    with_value value = record { time = s.time; number = s.number; value = value }

    go : (t : ValueType) (value : Held) → s.value ≡ value → IsOfType t value → read_value t (told_value (with_value value)) ≡ with_value value
    go type.Number (held.Number z) q small = ap (λ o. with_value (held.Number (unwrap_or o (pos 0)))) (written_is_read z small)
    go type.Number (held.Words text) q is = absurd is
    go type.Words (held.Number z) q is = absurd is
    go type.Words (held.Words text) q is = refl

values_again : (t : ValueType) (xs : List Stored) → Each (λ s. IsOfType t s.value) xs → map (read_value t) (map told_value xs) ≡ xs
values_again t [] h = refl
values_again t (s ∷ xs) h = ap₂ (λ x ys. x ∷ ys) (value_again t s h.0) (values_again t xs h.1)

each_take : (P : Stored → Type 0) (n : ℕ) (xs : List Stored) → Each P xs → Each P (take n xs)
each_take P zero xs h = tt
each_take P (suc n) [] h = tt
each_take P (suc n) (x ∷ xs) h = (h.0, each_take P n xs h.1)

pub trim_none : (keep : Keep) (now : ℕ) → trim keep now [] ≡ []
unfolding trim
trim_none keep now = none keep.count
  where
    nothing : List Stored
    nothing = []

    none : (n : ℕ) → take n nothing ≡ nothing
    none zero = refl
    none (suc n) = refl

pub each_trim : (P : Stored → Type 0) (keep : Keep) (now : ℕ) (h : List Stored) → Each P h → Each P (trim keep now h)
unfolding trim
each_trim P keep now h e =
    each_append P (filter (is_young keep now) h) (take keep.count (filter (λ s. not (is_young keep now s)) h)) (each_kept P (is_young keep now) h e)
    (each_take P keep.count (filter (λ s. not (is_young keep now s)) h) (each_kept P (λ s. not (is_young keep now s)) h e))

pub each_reverse : (P : Stored → Type 0) (xs : List Stored) → Each P xs → Each P (reverse xs)
each_reverse P [] h = tt
each_reverse P (x ∷ xs) h = subst (Each P) (sym (reverse-append (x ∷ []) xs)) (each_append P (reverse xs) (x ∷ []) (each_reverse P xs h.1) (h.0, tt))

pub history_again : (t : ValueType) (xs : List Stored) → Each (λ s. IsOfType t s.value) xs → reverse (map (read_value t) (map told_value (reverse xs))) ≡ xs
history_again t xs h = ap reverse (values_again t (reverse xs) (each_reverse (λ s. IsOfType t s.value) xs h)) ∙ reverse-reverse xs
