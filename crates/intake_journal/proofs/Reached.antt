-- Bytes that were read ahead of where they are wanted.
use Rattle.std.proofs.Common.{◌≡◌, ℕ, ◌+◌, ◌-◌, ◌<◌, ◌≤◌, true, List, length, take, drop, Option, Some, None, IfSome, sym, ◌∙◌, ap, subst, arith, length-drop}
use Rattle.std.specs.Prelude.{nat_lt}
use Rattle.std.proofs.lemmas.Bool.Decides.{nat_tests}
use Rattle.std.proofs.lemmas.List.{drop-take, drop-drop, length-take, take_min}
use Rattle.std.proofs.Math.Seq.{take-take}

-- a part of them
reached : (bytes file : List ℕ) (place at size : ℕ) → place ≤ at → at + size ≤ place + length bytes → bytes ≡ take (length bytes) (drop place file) → take size (drop (at - place) bytes) ≡ take size (drop at file)
reached bytes file place at size before inside is =
    let k = at - place in
    let m = length bytes - k in
    let len : length bytes ≡ k + m = omega (arith, before, inside) in
    let there : place + k ≡ at = omega (arith, before) in
    let whole : bytes ≡ take (k + m) (drop place file) = is ∙ ap (λ (n : ℕ). take n (drop place file)) len in
    let behind : drop k bytes ≡ take m (drop at file) =
    ap (λ (l : List ℕ). drop k l) whole ∙ drop-take k m (drop place file) ∙ ap (λ (l : List ℕ). take m l) (drop-drop k place file ∙ ap (λ (n : ℕ). drop n file) there) in
    ap (λ (l : List ℕ). take size l) behind ∙ take-take size m (drop at file) (omega (arith, before, inside, len))

-- the front of what was read just now
filled : (file : List ℕ) (at size most : ℕ) → size ≤ most → take size (drop (at - at) (take most (drop at file))) ≡ take size (drop at file)
filled file at size most enough =
    let none : at - at ≡ 0 = omega arith in
    ap (λ (n : ℕ). take size (drop n (take most (drop at file)))) none ∙ take-take size most (drop at file) enough

whole : (file : List ℕ) (at most : ℕ) → take most (drop at file) ≡ take (length (take most (drop at file))) (drop at file)
whole file at most = sym (ap (λ (n : ℕ). take n (drop at file)) (length-take most (drop at file)) ∙ take_min most (drop at file))

-- the file has more bytes from a place on than these, where more were read ahead
more : (bytes file : List ℕ) (place at size : ℕ) → place ≤ at → at + (size + 1) ≤ place + length bytes → bytes ≡ take (length bytes) (drop place file) → size < length file - at
more bytes file place at size before inside is = omega (arith, before, inside, ap length is, length-take (length bytes) (drop place file), length-drop place file)

is_less : (m n : ℕ) → m < n → true ≡ nat_lt m n
is_less m n less = grind (arith, nat_tests)

module _ (file : Option (List ℕ)) (bytes : List ℕ) where
  pub more_there : (place at size : ℕ) → place ≤ at → at + (size + 1) ≤ place + length bytes → IfSome file (λ b. bytes ≡ take (length bytes) (drop place b)) → IfSome file (λ b. true ≡ nat_lt size (length b - at))
  more_there place at size before inside ahead = over file ahead
    where
      over : (o : Option (List ℕ)) → IfSome o (λ b. bytes ≡ take (length bytes) (drop place b)) → IfSome o (λ b. true ≡ nat_lt size (length b - at))
      over None told = tt
      over (Some b) told = is_less size (length b - at) (more bytes b place at size before inside told)

  pub reached_there : (place at size : ℕ) → place ≤ at → at + size ≤ place + length bytes → IfSome file (λ b. bytes ≡ take (length bytes) (drop place b)) → IfSome file (λ b. take size (drop (at - place) bytes) ≡ take size (drop at b))
  reached_there place at size before inside ahead = over file ahead
    where
      over : (o : Option (List ℕ)) → IfSome o (λ b. bytes ≡ take (length bytes) (drop place b)) → IfSome o (λ b. take size (drop (at - place) bytes) ≡ take size (drop at b))
      over None told = tt
      over (Some b) told = reached bytes b place at size before inside told

  pub filled_there : (at size most : ℕ) → size ≤ most → IfSome file (λ b. bytes ≡ take most (drop at b)) → IfSome file (λ b. take size (drop (at - at) bytes) ≡ take size (drop at b))
  filled_there at size most enough read = over file read
    where
      over : (o : Option (List ℕ)) → IfSome o (λ b. bytes ≡ take most (drop at b)) → IfSome o (λ b. take size (drop (at - at) bytes) ≡ take size (drop at b))
      over None told = tt
      over (Some b) told = ap (λ (l : List ℕ). take size (drop (at - at) l)) told ∙ filled b at size most enough

  pub whole_there : (at most : ℕ) → IfSome file (λ b. bytes ≡ take most (drop at b)) → IfSome file (λ b. bytes ≡ take (length bytes) (drop at b))
  whole_there at most read = over file read
    where
      over : (o : Option (List ℕ)) → IfSome o (λ b. bytes ≡ take most (drop at b)) → IfSome o (λ b. bytes ≡ take (length bytes) (drop at b))
      over None told = tt
      over (Some b) told = subst (λ (l : List ℕ). l ≡ take (length l) (drop at b)) (sym told) (whole b at most)

-- as many as were asked for
pub exactly : (size : ℕ) (l part : List ℕ) → part ≡ take size l → size ≤ length part → length part ≡ size
exactly size l part is enough = omega (arith, ap length is, length-take size l, enough)
