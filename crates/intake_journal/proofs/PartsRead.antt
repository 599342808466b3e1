-- Parts of a base read one after the other.
use Rattle.std.proofs.Common.{◌≡◌, ℕ, suc, ◌+◌, ◌-◌, ◌≤◌, ◌<◌, List, [], ◌∷◌, ◌++◌, Option, Some, None, refl, sym, ap, ◌∙◌, append_assoc, arith}
use Rattle.std.proofs.lemmas.List.{append-nil}
use Rattle.intake_journal.specs.declared.decoding.Unread.{Unread}
use Rattle.intake_journal.specs.declared.decoding.Unread.TheVariants as unread
use Rattle.intake_journal.specs.Format.{◌>>=◌}
use Rattle.std.specs.Prelude.{true, false, ◌&&◌}
use Rattle.zbx_types.specs.declared.base.Ran.{Ran}
use Rattle.intake_journal.specs.BaseBytes.{stands_first, stand_in_order}
use Rattle.intake_journal.specs.BaseForm.{parts_at}
use Rattle.intake_journal.specs.Given.{Refuses}

-- what was read before, and what is still read
abbrev pub with_front : {A : Type 0} → List A → Option (List A × List ℕ) → Option (List A × List ℕ)
with_front front read = read >>= λ parts. Some (front ++ parts.0, parts.1)

regroup : {A : Type 0} (front : List A) (x : A) (read : Option (List A × List ℕ)) → with_front front (read >>= λ parts. Some (x ∷ parts.0, parts.1)) ≡ with_front (front ++ x ∷ []) read
regroup {A = A} front x (Some parts) = ap (λ (xs : List A). Some (xs, parts.1)) (sym (append_assoc front (x ∷ []) parts.0))
regroup front x None = refl

module _ {A : Type 0} (part : List ℕ → Option (A × List ℕ)) where
  pub goes_on : (front : List A) (count i : ℕ) (bytes : List ℕ) (x : A) (after : List ℕ) (total : Option (List A × List ℕ)) → i < count → part bytes ≡ Some (x, after)
      → with_front front (parts_at part (count - i) bytes) ≡ total → with_front (front ++ x ∷ []) (parts_at part (count - (i + 1)) after) ≡ total
  unfolding parts_at
  goes_on front count i bytes x after total lt read so_far =
      let k : count - i ≡ suc (count - (i + 1)) = omega arith in
      let one : with_front front (parts_at part (count - i) bytes) ≡ with_front (front ++ x ∷ []) (parts_at part (count - (i + 1)) after) = rw (k, read) (regroup front x (parts_at part (count - (i + 1)) after)) in
      sym one ∙ so_far

  pub ends : (why : Unread) (front : List A) (count i : ℕ) (bytes : List ℕ) (total : Option (List A × List ℕ)) → i < count → Refuses why (part bytes)
      → with_front front (parts_at part (count - i) bytes) ≡ total → Refuses why total
  unfolding parts_at
  ends unread.Memory front count i bytes total lt read so_far = tt
  ends unread.Malformed front count i bytes total lt read so_far =
      let k : count - i ≡ suc (count - (i + 1)) = omega arith in
      let one : with_front front (parts_at part (count - i) bytes) ≡ None = rw (k, read) refl in
      sym so_far ∙ one

  pub is_done : (front : List A) (count i : ℕ) (bytes : List ℕ) (total : Option (List A × List ℕ)) → count ≤ i → with_front front (parts_at part (count - i) bytes) ≡ total → total ≡ Some (front, bytes)
  unfolding parts_at
  is_done front count i bytes total le so_far =
      let k : count - i ≡ 0 = omega arith in
      let one : with_front front (parts_at part (count - i) bytes) ≡ Some (front, bytes) = rw k (ap (λ (xs : List A). Some (xs, bytes)) (append-nil front)) in
      sym so_far ∙ one

-- ---- the order of names

pub order_goes_on : (ran behind : List Ran) (one : Ran) → ran ≡ one ∷ behind → stands_first one behind ≡ true → stand_in_order behind ≡ stand_in_order ran
order_goes_on ran behind one is first = sym (ap stand_in_order is ∙ ap (λ b. b && stand_in_order behind) first)

pub order_ends : (ran behind : List Ran) (one : Ran) → ran ≡ one ∷ behind → stands_first one behind ≡ false → stand_in_order ran ≡ false
order_ends ran behind one is first = ap stand_in_order is ∙ ap (λ b. b && stand_in_order behind) first
