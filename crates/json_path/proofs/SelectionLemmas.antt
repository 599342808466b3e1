-- What is still to be added of a list.
use Rattle.std.proofs.Common.{◌≡◌, ℕ, ℤ, pos, zero, suc, ◌+◌, ◌<◌, ◌≤◌, List, [], ◌∷◌, ◌++◌, length, drop, get_or, refl, ap, sym, ◌∙◌, Some, None, Bool, true, false, negsuc, ◌^◌, ◌≤ℤ◌, ◌<ℤ◌, slice_get, arith, add-one, append_assoc, append-nil, inl, inr, flat_map}
use Rattle.json_text.specs.Json.{Items, item_list, Members, no_members, member, json_size, items_size, members_size}
use Rattle.json_text.specs.Trees.{json_of, items_of, members_of}
use Rattle.json_text.specs.declared.tree.Tree.{Tree}
use Rattle.json_text.specs.declared.tree.Member.{Member}
use Rattle.json_text.specs.Written.{items_written, more_items}
use Rattle.std.proofs.lemmas.Int.{ints}
use Rattle.std.proofs.lemmas.Bool.{cases_lt}
use Rattle.json_path.specs.Selecting.{element_from_front}
use Rattle.json_path.specs.Seen.{seen}
use denote.Ref.{Bor}

suc_drop : {A : Type 0} (ts : List A) (i : ℕ) (d : A) → i < length ts → drop i ts ≡ get_or ts i d ∷ drop (suc i) ts
suc_drop [] i d h = absurd (omega arith)
suc_drop (x ∷ ts) zero d h = refl
suc_drop (x ∷ ts) (suc i) d h = suc_drop ts i d (omega arith)

-- the element at a place, and what is behind it
pub drop_at : {A : Type 0} (ts : List A) (i : ℕ) (t : A) → i < length ts → t ≡ get_or ts i t → drop i ts ≡ t ∷ drop (i + 1) ts
drop_at ts i t h e = rw add-one (suc_drop ts i t h) ∙ ap (λ y. y ∷ drop (i + 1) ts) (sym e)

pub drop_end : {A : Type 0} (ts : List A) (i : ℕ) → length ts ≤ i → drop i ts ≡ []
drop_end [] zero h = refl
drop_end [] (suc i) h = refl
drop_end (x ∷ ts) zero h = absurd (omega arith)
drop_end (x ∷ ts) (suc i) h = drop_end ts i (omega arith)

-- one element more, where each adds some
pub more_of : {A B : Type 0} (f : A → List B) (xs : List A) (i : ℕ) (x : A) (a b all : List B) → i < length xs → x ≡ get_or xs i x → a ++ flat_map f (drop i xs) ≡ all → b ≡ a ++ f x → b ++ flat_map f (drop (i + 1) xs) ≡ all
more_of f xs i x a b all h e k g =
    let d = drop_at xs i x h e in
    ap (λ v. v ++ flat_map f (drop (i + 1) xs)) g ∙ append_assoc a (f x) (flat_map f (drop (i + 1) xs)) ∙ ap (λ v. a ++ flat_map f v) (sym d) ∙ k

-- none is left
pub none_left : {A B : Type 0} (f : A → List B) (xs : List A) (i : ℕ) (a all : List B) → length xs ≤ i → a ++ flat_map f (drop i xs) ≡ all → a ≡ all
none_left f xs i a all h k = sym (append-nil a) ∙ ap (λ v. a ++ flat_map f v) (sym (drop_end xs i h)) ∙ k

-- one borrow more
pub seen_more : (ts : List (Bor Tree)) (t : Bor Tree) → seen (ts ++ t ∷ []) ≡ seen ts ++ json_of t.now ∷ []
seen_more [] t = refl
seen_more (x ∷ ts) t = ap (λ v. json_of x.now ∷ v) (seen_more ts t)

-- the values behind borrows, from a place on
pub seen_drop : (ts : List (Bor Tree)) (i : ℕ) → seen (drop i ts) ≡ drop i (seen ts)
seen_drop ts zero = refl
seen_drop [] (suc i) = refl
seen_drop (x ∷ ts) (suc i) = seen_drop ts i

-- what is still to be written of the items of an array
abbrev pub rest_items : Bool → Items → List ℕ
rest_items true js = items_written js
rest_items false js = more_items js

-- an item or a member is smaller than all of them
pub item_smaller : (ts : List Tree) (i : ℕ) (t : Tree) → i < length ts → t ≡ get_or ts i t → json_size (json_of t) < items_size (items_of ts)
item_smaller [] i t h e = absurd (omega arith)
item_smaller (x ∷ ts) zero t h e = let g : json_size (json_of t) ≡ json_size (json_of x) = ap (λ y. json_size (json_of y)) e in omega arith
item_smaller (x ∷ ts) (suc i) t h e = let g = item_smaller ts i t (omega arith) e in omega arith

some_size : (ms : Members) → 1 ≤ members_size ms
some_size no_members = omega arith
some_size (member k j ms) = omega arith

pub member_smaller : (ms : List Member) (i : ℕ) (m : Member) → i < length ms → m ≡ get_or ms i m → json_size (json_of m.value) < members_size (members_of ms)
member_smaller [] i m h e = absurd (omega arith)
member_smaller (x ∷ ms) zero m h e = let g : json_size (json_of m.value) ≡ json_size (json_of x.value) = ap (λ y. json_size (json_of y.value)) e in omega (arith, some_size (members_of ms))
member_smaller (x ∷ ms) (suc i) m h e = let g = member_smaller ms i m (omega arith) e in omega arith

-- as many values as trees
pub as_many : (ts : List Tree) → length (item_list (items_of ts)) ≡ length ts
as_many [] = refl
as_many (t ∷ ts) = ap suc (as_many ts)

-- the value at a place
pub value_there : (ts : List Tree) (n : ℕ) (t : Tree) → n < length ts → t ≡ get_or ts n t → Some (json_of t) ≡ slice_get (item_list (items_of ts)) n
value_there [] n t h e = absurd (omega arith)
value_there (x ∷ ts) zero t h e = ap (λ z. Some (json_of z)) e
value_there (x ∷ ts) (suc n) t h e = value_there ts n t (omega arith) e

pub no_value : (ts : List Tree) (n : ℕ) → length ts ≤ n → None ≡ slice_get (item_list (items_of ts)) n
no_value [] n h = refl
no_value (x ∷ ts) zero h = absurd (omega arith)
no_value (x ∷ ts) (suc n) h = no_value ts n (omega arith)

pub there : (ts : List Tree) (z : ℤ) (n : ℕ) (t : Tree) → z ≡ pos n → n < length ts → t ≡ get_or ts n t → Some (json_of t) ≡ element_from_front (item_list (items_of ts)) z
there ts z n t g h e = rw g (value_there ts n t h e)

pub not_there : (ts : List Tree) (z : ℤ) (n : ℕ) → z ≡ pos n → length ts ≤ n → None ≡ element_from_front (item_list (items_of ts)) z
not_there ts z n g h = rw g (no_value ts n h)

pub out_of_range : (ts : List Tree) (z : ℤ) → length ts < 2 ^ 64 → ((pos 0 ≤ℤ z) × (z <ℤ pos (2 ^ 64)) → ⊥) → None ≡ element_from_front (item_list (items_of ts)) z
out_of_range ts (pos n) l h = no_value ts n (most n h)
  where
    most : (n : ℕ) → ((pos 0 ≤ℤ pos n) × (pos n <ℤ pos (2 ^ 64)) → ⊥) → length ts ≤ n
    most n h = elim (cases_lt n (2 ^ 64)) [ inl k ↦ absurd (h (omega (arith, ints), omega (arith, ints))) | inr k ↦ omega arith ]
out_of_range ts (negsuc n) l h = refl
