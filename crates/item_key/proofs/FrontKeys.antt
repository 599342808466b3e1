-- What is read, from the longest end among the bytes within the limit.
use Rattle.std.proofs.Common.{◌≡◌, ℕ, suc, zero, ◌<◌, ◌≤◌, List, [], ◌∷◌, ◌++◌, length, take, refl, ap, arith, None, true, false, inl, inr, ◌⊎◌, length-take}
use Rattle.zbx_types.specs.Limits.{longest_key}
use Rattle.item_key.specs.Grammar.{is_name_byte, IsKeyText, name, IsKey}
use Rattle.item_key.specs.Machine.{ends_at, place_of, IsLongestEnd}
use Rattle.byte_grammar.specs.Bytes.{Each}
use Rattle.byte_grammar.specs.Runs.{run}
use Rattle.byte_grammar.specs.Fault.{IsFaultUpTo, IsViable}
use Rattle.item_key.specs.Fault.{HasNoLonger, HasNone}
use Rattle.item_key.proofs.Sound.{sound}
use Rattle.item_key.proofs.Complete.{taken}
use Rattle.item_key.proofs.Meanings.{no_key}

take_short : (a n : ℕ) (bs : List ℕ) → n ≤ a → take n (take a bs) ≡ take n bs
take_short a zero bs h = refl
take_short zero (suc n) [] h = refl
take_short (suc a) (suc n) [] h = refl
take_short zero (suc n) (b ∷ bs) h = absurd (omega arith)
take_short (suc a) (suc n) (b ∷ bs) h = ap (λ (r : List ℕ). b ∷ r) (take_short a n bs (omega arith))

at_most : (n : ℕ) (text : List ℕ) → n ≤ length text → IsKey (take n text) → n ≤ 2048
at_most n text h k = let l = k.1 in omega (arith, length-take n text)

pub no_longer : (text : List ℕ) (len : ℕ) → IsLongestEnd (take longest_key text) len → HasNoLonger IsKey text len
no_longer text len e n a b k =
    let m : n ≤ 2048 = at_most n text b k in
    let f : ends_at (place_of (take n (take 2048 text))) ≡ false = e.longest n a (omega (arith, length-take 2048 text)) in
    let g : ends_at (place_of (take n text)) ≡ false = rw (take_short 2048 n text m) at f in
    let t = taken k.0 in
    cc

pub found : (text : List ℕ) (len : ℕ) → 0 < len → IsLongestEnd (take longest_key text) len → IsKey (take len text) × (len ≤ length text) × (len ≤ longest_key)
found text len h e =
    let w = e.within in
    let m : len ≤ 2048 = omega (arith, length-take 2048 text) in (
      (sound (take len text) (rw (take_short 2048 len text m) at (e.is h)), omega (arith, length-take len text)),
      omega (arith, length-take 2048 text),
      m,
    )

start_ends : ends_at (place_of []) ≡ false
unfolding run
start_ends = refl

pub none : (text : List ℕ) → IsLongestEnd (take longest_key text) 0 → HasNone IsKey text
none text e zero b k =
    let f = start_ends in
    let t = taken k.0 in
    cc
none text e (suc n) b k = no_longer text 0 e (suc n) (omega arith) b k

one_byte : (b : ℕ) → is_name_byte b ≡ true → IsKeyText (b ∷ [])
unfolding Each
one_byte b h = name b [] h tt

either : (b : ℕ) → (is_name_byte b ≡ true) ⊎ (is_name_byte b ≡ false)
either b = elim (is_name_byte b) as (λ t. (t ≡ true) ⊎ (t ≡ false)) [ true ↦ inl refl | false ↦ inr refl ]

begins_none : (b : ℕ) → is_name_byte b ≡ false → place_of (b ∷ []) ≡ None
unfolding run
begins_none b h = rw h refl

stops_at : (b : ℕ) (bs : List ℕ) → HasNone IsKey (b ∷ bs) → (n : ℕ) → 0 < n → n ≤ length (b ∷ bs) → IsViable IsKeyText (take n (b ∷ bs)) → ⊥
stops_at b bs h zero a c v = absurd (omega arith)
stops_at b bs h (suc n) a c v = elim (either b) [
  | inl e ↦ h 1 (omega arith) (one_byte b e, omega arith)
  | inr e ↦ no_key (b ∷ []) (take n bs ++ v.0) (begins_none b e) v.1
]

pub place : (text : List ℕ) → HasNone IsKey text → IsFaultUpTo IsKeyText longest_key text 0
place [] h = record { within = omega arith; fits = omega arith; goes_on = (97 ∷ [], one_byte 97 refl); stops = λ n a b l v. absurd (omega arith) }
place (b ∷ bs) h = record {
  within = omega arith;
  fits = omega arith;
  goes_on = (97 ∷ [], one_byte 97 refl);
  stops = λ n a c l v. stops_at b bs h n a c v;
}
