-- Elements of a list that are changed in their places, one after the other.
use Rattle.std.proofs.Common.{◌≡◌, ℕ, zero, suc, ◌+◌, ◌<◌, ◌≤◌, List, [], ◌∷◌, ◌++◌, length, take, drop, get_or, set, refl, ap, sym, ◌∙◌, arith, append_assoc}
use Rattle.std.proofs.lemmas.List.{take_more_set, take_all, drop_all, drop_more, drop-set-lt, take-append-drop, append-nil}
use Rattle.host_layout.specs.OwnedItems.{with_each}

module _ {A B : Type 0} (put : A → B → A) where
  -- what is changed up to a place, and what the rest comes to
  abbrev pub so_far : List A → List B → ℕ → List A
  so_far xs news i = take i xs ++ with_each put (drop i xs) (drop i news)

  pub put_one : (xs : List A) (news : List B) (i : ℕ) (x : A) (new : B) → i < length xs → i < length news → x ≡ get_or xs i x → new ≡ get_or news i new → so_far (set xs i (put x new)) news (i + 1) ≡ so_far xs news i
  put_one xs news i x new h l e f =
      let after : drop (i + 1) (set xs i (put x new)) ≡ drop (i + 1) xs = drop-set-lt (i + 1) xs i (put x new) (omega arith) in
      rw (take_more_set xs i (put x new) h, after, drop_more xs i x h, drop_more news i new l, ← e, ← f) (append_assoc (take i xs) (put x new ∷ []) (with_each put (drop (i + 1) xs) (drop (i + 1) news)))

  pub put_past : (xs : List A) (news : List B) (i : ℕ) → length xs ≤ i → so_far xs news (i + 1) ≡ so_far xs news i
  put_past xs news i h =
      rw (take_all (i + 1) xs (omega arith), take_all i xs h, drop_all (i + 1) xs (omega arith), drop_all i xs h) refl

  nothing : (xs : List A) → with_each put xs [] ≡ xs
  nothing [] = refl
  nothing (x ∷ xs) = refl

  pub put_all : (xs : List A) (news : List B) (i : ℕ) → length news ≤ i → so_far xs news i ≡ xs
  put_all xs news i h = rw (drop_all i news h, nothing (drop i xs)) (take-append-drop i xs)

  -- the same where what was put in is taken out of the other list
  pub move_one : (xs : List A) (news : List B) (i : ℕ) (x : A) (new left : B) → i < length xs → i < length news → x ≡ get_or xs i x → new ≡ get_or news i new → so_far (set xs i (put x new)) (set news i left) (i + 1) ≡ so_far xs news i
  move_one xs news i x new left h l e f =
      ap (λ rest. take (i + 1) (set xs i (put x new)) ++ with_each put (drop (i + 1) (set xs i (put x new))) rest) (drop-set-lt (i + 1) news i left (omega arith))
      ∙ put_one xs news i x new h l e f

  -- where nothing is left to put in
  pub none_left : (xs : List A) (news : List B) (i : ℕ) → length news ≤ i → so_far xs news (i + 1) ≡ so_far xs news i
  none_left xs news i h = put_all xs news (i + 1) (omega arith) ∙ sym (put_all xs news i h)

  pub all_put : (xs : List A) (news : List B) (i : ℕ) → length xs ≤ i → so_far xs news i ≡ xs
  all_put xs news i h = rw (take_all i xs h, drop_all i xs h) (append-nil xs)
