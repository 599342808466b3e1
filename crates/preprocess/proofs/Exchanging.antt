-- Values that are put in the place of others.
use Rattle.std.proofs.Common.{◌≡◌, ◌≢◌, ◌≤◌, ◌<◌, ◌-◌, ◌==◌, ℕ, zero, suc, false, List, [], ◌∷◌, None, length, set, get_or, slice_get, refl, sym, ◌∙◌, ap, ne_eqb, arith}
use Rattle.std.proofs.lemmas.List.{set_past}
use Rattle.std.specs.Option.{unwrap_or}
use Rattle.zbx_types.specs.Ids.{at_id}
use Rattle.preprocess.specs.Rows.{with_row}

pub put_none : {A : Type 0} (items : List A) (id : ℕ) (one : A) → id ≡ 0 → with_row items id one ≡ items
unfolding with_row
put_none items id one e = rw e refl

pub put_in : {A : Type 0} (items : List A) (id : ℕ) (one : A) → id ≢ 0 → with_row items id one ≡ set items (id - 1) one
unfolding with_row
put_in items id one h = let e : (id == 0) ≡ false = ne_eqb id 0 h in rw e refl

pub put_past : {A : Type 0} (items : List A) (id : ℕ) (one : A) → id ≢ 0 → length items ≤ id - 1 → with_row items id one ≡ items
put_past items id one h l = put_in items id one h ∙ set_past items (id - 1) one l

pub had_none : {A : Type 0} (items : List A) (id : ℕ) (one : A) → id ≡ 0 → unwrap_or (at_id items id) one ≡ one
unfolding at_id
had_none items id one e = rw e refl

at_in : {A : Type 0} (items : List A) (id : ℕ) → id ≢ 0 → at_id items id ≡ slice_get items (id - 1)
unfolding at_id
at_in items id h = let e : (id == 0) ≡ false = ne_eqb id 0 h in rw e refl

get_past : {A : Type 0} (items : List A) (i : ℕ) → length items ≤ i → slice_get items i ≡ None
get_past [] i l = refl
get_past (x ∷ items) zero l = absurd (omega arith)
get_past (x ∷ items) (suc i) l = get_past items i (omega arith)

get_in : {A : Type 0} (items : List A) (i : ℕ) (one x : A) → i < length items → x ≡ get_or items i x → unwrap_or (slice_get items i) one ≡ x
get_in [] i one x l e = absurd (omega arith)
get_in (y ∷ items) zero one x l e = sym e
get_in (y ∷ items) (suc i) one x l e = get_in items i one x (omega arith) e

pub had_past : {A : Type 0} (items : List A) (id : ℕ) (one : A) → id ≢ 0 → length items ≤ id - 1 → unwrap_or (at_id items id) one ≡ one
had_past items id one h l = ap (λ o. unwrap_or o one) (at_in items id h ∙ get_past items (id - 1) l)

pub had_in : {A : Type 0} (items : List A) (id : ℕ) (one x : A) → id ≢ 0 → id - 1 < length items → x ≡ get_or items (id - 1) x → unwrap_or (at_id items id) one ≡ x
had_in items id one x h l e = ap (λ o. unwrap_or o one) (at_in items id h) ∙ get_in items (id - 1) one x l e
