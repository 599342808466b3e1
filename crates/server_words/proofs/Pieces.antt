-- Pieces that are added one after another.
use Rattle.std.proofs.Common.{◌≡◌, ℕ, List, ◌++◌, append_assoc, ◌∙◌, ap, sym}
use Rattle.std.specs.Prelude.{Result, Ok, Err, OnOk}

-- three pieces behind a text
pub three : {E : Type 0} (r : Result (Unit {0}) E) (new old first second a b d : List ℕ) → first ≡ old ++ a → second ≡ first ++ b → OnOk r (new ≡ second ++ d)
    → OnOk r (new ≡ old ++ (a ++ b ++ d))
three (Err e) new old first second a b d p q h = tt
three (Ok u) new old first second a b d p q h =
    h ∙ ap (λ l. l ++ d) (q ∙ ap (λ l. l ++ b) p) ∙ append_assoc (old ++ a) b d ∙ append_assoc old a (b ++ d)
    ∙ ap (λ l. old ++ l) (sym (append_assoc a b d))
