-- The longest front that is a key.
use Rattle.std.proofs.Common.{◌≡◌, ℕ, zero, suc, ◌<◌, ◌≤◌, Bool, true, false, List, [], ◌∷◌, length, take, refl, sym, ◌∙◌, ap, arith, inl, inr, ◌⊎◌}
use Rattle.std.specs.Prelude.{◌&&◌, nat_le, if◌then◌else◌, ◌==◌}
use Rattle.std.proofs.lemmas.Bool.{le-leb, leb-true, eq-eqb}
use Rattle.std.proofs.lemmas.List.{take_all}
use Rattle.std.proofs.lemmas.Grind.{common_steps}
use Rattle.zbx_types.specs.Limits.{longest_key}
use Rattle.item_key.specs.Grammar.{IsKey}
use Rattle.byte_grammar.specs.Runs.{run}
use Rattle.item_key.specs.Machine.{ends_at, place_of}
use Rattle.item_key.specs.Fault.{HasNoLonger, HasNone}
use Rattle.item_key.proofs.Sound.{sound}
use Rattle.item_key.proofs.Complete.{taken}
use Rattle.host_layout.specs.Items.{longest_up_to, is_key, key_length}

-- the longest front is the one that passes where no longer one does
pub longest_is : (t : List ℕ → Bool) (text : List ℕ) (n k : ℕ) → k ≤ n → (0 < k → t (take k text) ≡ true) → ((m : ℕ) → k < m → m ≤ n → t (take m text) ≡ false) → longest_up_to t text n ≡ k
longest_is t text zero k le holds none = omega arith
longest_is t text (suc n) k le holds none = elim (two k (suc n) le) [
  | inl e ↦ let y : t (take (suc n) text) ≡ true = (rw e at holds) (omega arith) in rw y (sym e)
  | inr less ↦ let y : t (take (suc n) text) ≡ false = none (suc n) less (omega arith) in rw y (longest_is t text n k (omega arith) holds (λ m a b. none m a (omega arith)))
]
  where
    two : (a b : ℕ) → a ≤ b → (a ≡ b) ⊎ (a < b)
    two a b h = grind arith

key_is : (text : List ℕ) → IsKey text → is_key text ≡ true
key_is text k = rw (taken k.0, le-leb (length text) longest_key k.1) refl

of_test : (text : List ℕ) (a b : Bool) → ends_at (place_of text) ≡ a → nat_le (length text) longest_key ≡ b → (IsKey text → ⊥) → a && b ≡ false
of_test text true true e f none = absurd (none (sound text e, leb-true (length text) longest_key f))
of_test text true false e f none = refl
of_test text false b e f none = refl

key_is_not : (text : List ℕ) → (IsKey text → ⊥) → is_key text ≡ false
key_is_not text none = of_test text (ends_at (place_of text)) (nat_le (length text) longest_key) refl refl none

pub length_found : (text : List ℕ) (n : ℕ) → IsKey (take n text) × (n ≤ length text) × (n ≤ longest_key) → HasNoLonger IsKey text n → key_length text ≡ n
unfolding key_length
length_found text n k none = longest_is is_key text (length text) n k.1 (λ h. key_is (take n text) k.0) (λ m a b. key_is_not (take m text) (λ h. none m a b h))

pub length_none : (text : List ℕ) → HasNone IsKey text → key_length text ≡ 0
unfolding key_length
length_none text none = longest_is is_key text (length text) 0 (omega arith) (λ h. absurd (omega arith)) (λ m a b. key_is_not (take m text) (λ h. none m b h))

longest_le : (t : List ℕ → Bool) (text : List ℕ) (n : ℕ) → longest_up_to t text n ≤ n
longest_le t text zero = omega arith
longest_le t text (suc n) = at (t (take (suc n) text)) (longest_up_to t text n) (longest_le t text n)
  where
    at : (b : Bool) (m : ℕ) → m ≤ n → (if b then suc n else m) ≤ suc n
    at true m h = omega arith
    at false m h = omega arith

not_equal : (a b : ℕ) → a < b → (a == b) ≡ false
not_equal a b h = grind (arith, common_steps)

-- the text is a key where its longest front that is one is all of it
pub whole_key : (text : List ℕ) → 1 ≤ length text → (key_length text == length text) ≡ is_key text
unfolding key_length
whole_key text h = at (length text) refl h
  where
    less : (n : ℕ) {m : ℕ} → m ≤ n → m < suc n
    less n h = omega arith

    by : (n : ℕ) (b : Bool) → is_key text ≡ b → is_key (take (suc n) text) ≡ is_key text → (longest_up_to is_key text (suc n) == suc n) ≡ is_key text
    by n true e f = rw (f ∙ e, e) (eq-eqb (suc n) (suc n) refl)
    by n false e f = rw (f ∙ e, e) (not_equal (longest_up_to is_key text n) (suc n) (less n (longest_le is_key text n)))

    at : (n : ℕ) → length text ≡ n → 1 ≤ n → (longest_up_to is_key text n == n) ≡ is_key text
    at zero e l = absurd (omega arith)
    at (suc n) e l = by n (is_key text) refl (ap is_key (take_all (suc n) text (omega arith)))

pub no_bytes : (text : List ℕ) → length text < 1 → is_key text ≡ false
unfolding run
no_bytes [] h = refl
no_bytes (c ∷ rest) h = absurd (omega arith)
