-- Places in the words of the grammar: each can be completed, and a byte without a next place has no key.
use Rattle.std.proofs.Common.{◌≡◌, ℕ, List, [], ◌∷◌, ◌++◌, refl, ap, sym, ◌∙◌, Option, Some, None, true, false}
use Rattle.item_key.specs.declared.places.InParameter.TheVariants.{Before, Bare, Quoted, Escaped, Behind}
use Rattle.item_key.specs.declared.places.Place.{Place}
use Rattle.item_key.specs.declared.places.Place.TheVariants.{Start, Name, Param, Listed, Closed, Done}
use Rattle.item_key.specs.Machine.{step, ends, ends_at, place_of, finish}
use Rattle.item_key.specs.Grammar.{IsKeyText}
use Rattle.item_key.specs.Meaning.{TellsKeys, GoesOn, Completes}
use Rattle.byte_grammar.specs.Runs.{run}
use Rattle.byte_grammar.proofs.Runs.{run_none, joined, grown}
use Rattle.item_key.proofs.Sound.{sound}
use Rattle.item_key.proofs.Complete.{taken}

-- the machine ends a key behind the bytes that complete a place
pub finishes : (p : Place) → ends_at (run step (Some p) (finish p)) ≡ true
unfolding run
finishes Start = refl
finishes Name = refl
finishes (Param Before) = refl
finishes (Param Bare) = refl
finishes (Param Quoted) = refl
finishes (Param Escaped) = refl
finishes (Param Behind) = refl
finishes (Listed Before) = refl
finishes (Listed Bare) = refl
finishes (Listed Quoted) = refl
finishes (Listed Escaped) = refl
finishes (Listed Behind) = refl
finishes Closed = refl
finishes Done = refl

pub completes : (p : Place) → Completes p (finish p)
completes p front e = sound (front ++ finish p) (ap (λ (o : Option Place). ends_at o) (joined step (Some Start) (Some p) front (finish p) e) ∙ finishes p)

pub tells_keys : (p : Place) → TellsKeys p (ends p)
tells_keys p = record {
  key = λ front e h. sound front (ap (λ (o : Option Place). ends_at o) e ∙ h);
  all = λ front e k. sym (ap (λ (o : Option Place). ends_at o) e) ∙ taken k;
}

-- no key goes on where there is no place
pub no_key : (front more : List ℕ) → place_of front ≡ None → IsKeyText (front ++ more) → ⊥
no_key front more e k =
    let f : ends_at (place_of (front ++ more)) ≡ false = ap (λ (o : Option Place). ends_at o) (joined step (Some Start) None front more e ∙ run_none step more) in
    let t : ends_at (place_of (front ++ more)) ≡ true = taken k in
    cc

pub behind_one : (front : List ℕ) (p : Place) (b : ℕ) → place_of front ≡ Some p → place_of (front ++ b ∷ []) ≡ step p b
behind_one front p b e = grown step (Some Start) p front b e

pub goes_on : (p : Place) (b : ℕ) → GoesOn p b (step p b)
goes_on p b = record {
  on = λ front q e s. behind_one front p b e ∙ s;
  viable = λ front q e s. (finish q, completes q (front ++ b ∷ []) (behind_one front p b e ∙ s));
  stops = λ front e s v. no_key (front ++ b ∷ []) v.0 (behind_one front p b e ∙ s) v.1;
}
