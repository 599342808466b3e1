-- A text contains another one exactly where it occurs at some place.
use Rattle.std.proofs.Common.{◌≡◌, ℕ, zero, suc, ◌≤◌, Bool, true, false, ◌||◌, List, [], ◌∷◌, ◌++◌, length, drop, refl, sym, ap, ◌∙◌, arith, nat_eq, None}
use Rattle.std.specs.Bool.{MatchBool}
use Rattle.std.specs.List.{starts_with}
use Rattle.std.specs.Str.Pattern.{FindsText, HasMatch, LacksTextAt}
use Rattle.std.proofs.lemmas.Bool.Decides.{Decides-eqb}
use Rattle.std.proofs.lemmas.Slice.Eq.{starts_is}
use Rattle.zbx_types.proofs.Truths.{isnt_true}
use Rattle.zbx_types.specs.Texts.{contains}

or_true : (b : Bool) → (b || true) ≡ true
or_true true = refl
or_true false = refl

-- a text begins with what stands at its beginning
begins : (text part rest : List ℕ) → text ≡ part ++ rest → starts_with nat_eq text part ≡ true
begins text part rest is = (starts_is Decides-eqb text part (starts_with nat_eq text part) refl).1 rest is

begins_not : (text part : List ℕ) → LacksTextAt part text 0 → starts_with nat_eq text part ≡ false
begins_not text part lacks =
    isnt_true (starts_with nat_eq text part)
    (λ yes. lacks (drop (length part) text) ((starts_is Decides-eqb text part (starts_with nat_eq text part) refl).0 yes))

occurs : (text part : List ℕ) (i : ℕ) (rest : List ℕ) → drop i text ≡ part ++ rest → contains text part ≡ true
occurs [] part zero rest is = begins [] part rest is
occurs [] part (suc i) rest is = begins [] part rest is
occurs (c ∷ cs) part zero rest is = ap (λ b. b || contains cs part) (begins (c ∷ cs) part rest is)
occurs (c ∷ cs) part (suc i) rest is =
    ap (λ b. starts_with nat_eq (c ∷ cs) part || b) (occurs cs part i rest is) ∙ or_true (starts_with nat_eq (c ∷ cs) part)

lacks_all : (text part : List ℕ) → ((i : ℕ) → i ≤ length text → LacksTextAt part text i) → contains text part ≡ false
lacks_all [] part lacks = begins_not [] part (lacks 0 (omega arith))
lacks_all (c ∷ cs) part lacks =
    ap (λ b. b || contains cs part) (begins_not (c ∷ cs) part (lacks 0 (omega arith)))
    ∙ lacks_all cs part (λ i within. lacks (suc i) (omega arith))

-- what a search for a text answers
pub contains_is : (r : Bool) (text part : List ℕ) → MatchBool r (HasMatch (FindsText part) text) (FindsText part text None) → r ≡ contains text part
contains_is true text part (i, j, finds, ordered, within) = sym (occurs text part i (drop j text) finds.1.split)
contains_is false text part lacks = sym (lacks_all text part lacks)
