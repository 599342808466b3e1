-- Laws of the first place at which bytes are others.
use Rattle.std.proofs.Common.{◌≡◌, ℕ, zero, suc, ◌+◌, ◌≤◌, ◌<◌, min, Bool, true, false, List, [], ◌∷◌, length, take, drop, Option, Some, None, IfSome, refl, sym, ap, ◌∙◌, arith}
use Rattle.std.specs.Prelude.{◌==◌, if◌then◌else◌}
use Rattle.std.proofs.lemmas.List.{length-drop}
use Rattle.std.proofs.lemmas.Option.{IfSome_then}
use Rattle.outside.specs.Others.{first_other}

none_held : (at : ℕ) (xs : List ℕ) → first_other at xs [] ≡ None
none_held at [] = refl
none_held at (x ∷ xs) = refl

none_short : (at : ℕ) (xs ys : List ℕ) → min (length xs) (length ys) ≡ 0 → first_other at xs ys ≡ None
none_short at [] ys short = refl
none_short at (x ∷ xs) [] short = refl
none_short at (x ∷ xs) (y ∷ ys) short = absurd (omega (arith, short))

-- behind the end of the shorter there is none
pub none_left : (at i shorter : ℕ) (xs ys : List ℕ) → i ≡ shorter → shorter ≡ min (length xs) (length ys) → first_other at (drop i xs) (drop i ys) ≡ None
none_left at i shorter xs ys same is = none_short at (drop i xs) (drop i ys) (omega (arith, same, is, length-drop i xs, length-drop i ys))

-- the first of two places, the second of which counts where there is no first
abbrev pub or_then : Option ℕ → Option ℕ → Option ℕ
or_then None later = later
or_then (Some place) later = Some place

-- it is looked for in the first ones, and then behind these
pub in_parts : (n at : ℕ) (xs ys : List ℕ) → first_other at xs ys ≡ or_then (first_other at (take n xs) (take n ys)) (first_other (at + n) (drop n xs) (drop n ys))
in_parts zero at xs ys = ap (λ (p : ℕ). first_other p xs ys) (omega arith)
in_parts (suc n) at [] ys = refl
in_parts (suc n) at (x ∷ xs) [] = sym (none_held (at + suc n) (drop n xs))
in_parts (suc n) at (x ∷ xs) (y ∷ ys) = by (x == y) (in_parts n (at + 1) xs ys)
  where
    place : at + 1 + n ≡ at + suc n
    place = omega arith

    by : (same : Bool) → first_other (at + 1) xs ys ≡ or_then (first_other (at + 1) (take n xs) (take n ys)) (first_other (at + 1 + n) (drop n xs) (drop n ys)) → (if same then first_other (at + 1) xs ys else Some at)
        ≡ or_then (if same then first_other (at + 1) (take n xs) (take n ys) else Some at) (first_other (at + suc n) (drop n xs) (drop n ys))
    by true next = next ∙ ap (λ (p : ℕ). or_then (first_other (at + 1) (take n xs) (take n ys)) (first_other p (drop n xs) (drop n ys))) place
    by false next = refl

-- it lies within both
pub inside : (at : ℕ) (xs ys : List ℕ) → IfSome (first_other at xs ys) (λ p. (at ≤ p) × (p < at + length xs) × (p < at + length ys))
inside at [] ys = tt
inside at (x ∷ xs) [] = tt
inside at (x ∷ xs) (y ∷ ys) = by (x == y) (inside (at + 1) xs ys)
  where
    by : (same : Bool) → IfSome (first_other (at + 1) xs ys) (λ p. (at + 1 ≤ p) × (p < at + 1 + length xs) × (p < at + 1 + length ys))
        → IfSome (if same then first_other (at + 1) xs ys else Some at) (λ p. (at ≤ p) × (p < at + length (x ∷ xs)) × (p < at + length (y ∷ ys)))
    by true next = IfSome_then (first_other (at + 1) xs ys) next (λ p is. (omega (arith, is.0), omega (arith, is.1), omega (arith, is.2)))
    by false next = (omega arith, omega arith, omega arith)

-- and within what is held
pub inside_held : (at : ℕ) (xs held : List ℕ) → IfSome (first_other at xs (drop at held)) (λ p. (at ≤ p) × (p < at + length xs) × (p < length held))
inside_held at xs held = IfSome_then (first_other at xs (drop at held)) (inside at xs (drop at held)) (λ p is. (is.0, is.1, omega (arith, is.0, is.2, length-drop at held)))

-- one that is found in the first of them is the first of all
pub whole : (n at : ℕ) (xs ys : List ℕ) (p : ℕ) → first_other at (take n xs) (take n ys) ≡ Some p → first_other at xs ys ≡ Some p
whole n at xs ys p is = in_parts n at xs ys ∙ ap (λ (o : Option ℕ). or_then o (first_other (at + n) (drop n xs) (drop n ys))) is

-- where there is none in the first of them, it is looked for behind these
pub behind_same : (n at : ℕ) (xs ys : List ℕ) → first_other at (take n xs) (take n ys) ≡ None → first_other at xs ys ≡ first_other (at + n) (drop n xs) (drop n ys)
behind_same n at xs ys is = in_parts n at xs ys ∙ ap (λ (o : Option ℕ). or_then o (first_other (at + n) (drop n xs) (drop n ys))) is

-- behind what is held there is none
pub none_behind : (at : ℕ) (xs held : List ℕ) → length held ≤ at → first_other at xs (drop at held) ≡ None
none_behind at xs held le = none_short at xs (drop at held) (omega (arith, le, length-drop at held))

pub longer : (m at : ℕ) (xs ys : List ℕ) (p : ℕ) → first_other at (take m xs) ys ≡ Some p → first_other at xs ys ≡ Some p
longer zero at xs ys p is = absurd cc
longer (suc m) at [] ys p is = is
longer (suc m) at (x ∷ xs) [] p is = absurd cc
longer (suc m) at (x ∷ xs) (y ∷ ys) p is = by (x == y) (longer m (at + 1) xs ys p) is
  where
    by : (same : Bool) → (first_other (at + 1) (take m xs) ys ≡ Some p → first_other (at + 1) xs ys ≡ Some p)
        → (if same then first_other (at + 1) (take m xs) ys else Some at) ≡ Some p → (if same then first_other (at + 1) xs ys else Some at) ≡ Some p
    by true next is = next is
    by false next is = is
