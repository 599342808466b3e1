-- How the place moves with the front.
use Rattle.std.proofs.Common.{◌≡◌, ℕ, ◌+◌, ◌<◌, ◌≤◌, List, length, get_or, take, refl, arith, add-one, Some, None, true, false, IsTrue, inl, inr, ◌⊎◌}
use Rattle.item_key.specs.declared.places.Place.{Place}
use Rattle.item_key.specs.declared.places.Place.TheVariants.{Start}
use Rattle.byte_grammar.proofs.Runs.{run_more, none_on}
use Rattle.item_key.specs.Machine.{step, ends, ends_at, place_of, IsLongestEnd}

-- the longest front of those up to i that ends a key
pub record Seen (text : List ℕ) (i len : ℕ) : Type 0 where
  pub within : len ≤ i
  pub is : (0 < len) → IsTrue (ends_at (place_of (take len text)))
  pub longest : (n : ℕ) → len < n → n ≤ i → ends_at (place_of (take n text)) ≡ false

pub moved : (text : List ℕ) (i : ℕ) (p q : Place) → i < length text → place_of (take i text) ≡ Some p → step p (get_or text i 0) ≡ Some q → place_of (take (i + 1) text) ≡ Some q
moved text i p q h e s = rw add-one (rw (run_more step (Some Start) text i h) (rw e s))

le_or_lt : (n i : ℕ) → (n ≤ i) ⊎ (i < n)
le_or_lt n i = grind arith

pub seen_start : (text : List ℕ) → Seen text 0 0
seen_start text = record { within = omega arith; is = λ h. absurd (omega arith); longest = λ n a b. absurd (omega arith) }

split_below : (n i : ℕ) → n ≤ i + 1 → (n ≤ i) ⊎ (n ≡ i + 1)
split_below n i h = grind arith

pub seen_goes : (text : List ℕ) (i len : ℕ) (q : Place) → Seen text i len → place_of (take (i + 1) text) ≡ Some q → ends q ≡ false → Seen text (i + 1) len
seen_goes text i len q s e f = record {
  within = let w = s.within in omega arith;
  is = s.is;
  longest = λ n a b. elim (split_below n i b) [ inl h ↦ s.longest n a h | inr h ↦ rw (h, e) f ];
}

pub seen_ends : (text : List ℕ) (i len : ℕ) (q : Place) → Seen text i len → place_of (take (i + 1) text) ≡ Some q → ends q ≡ true → Seen text (i + 1) (i + 1)
seen_ends text i len q s e f = record {
  within = omega arith;
  is = λ h. rw (e, f) refl;
  longest = λ n a b. absurd (omega arith);
}

pub seen_stops : (text : List ℕ) (i len : ℕ) → i < length text → Seen text i len → place_of (take (i + 1) text) ≡ None → IsLongestEnd text len
seen_stops text i len k s e = record {
  within = let w = s.within in omega arith;
  is = s.is;
  longest = λ n a b. elim (le_or_lt n i) [ inl h ↦ s.longest n a h | inr h ↦ rw (none_on step (Some Start) text (i + 1) n (omega arith) e) refl ];
}

pub seen_all : (text : List ℕ) (len : ℕ) → Seen text (length text) len → IsLongestEnd text len
seen_all text len s = record { within = s.within; is = s.is; longest = s.longest }

pub stopped : (text : List ℕ) (i : ℕ) (p : Place) → i < length text → place_of (take i text) ≡ Some p → step p (get_or text i 0) ≡ None → place_of (take (i + 1) text) ≡ None
stopped text i p h e s = rw add-one (rw (run_more step (Some Start) text i h) (rw e s))
