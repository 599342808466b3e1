-- What is read is what a text says.
use Rattle.std.proofs.Common.{◌≡◌, ◌<◌, ◌≤◌, ◌⊎◌, inl, inr, ℕ, List, length, nat_le, true, false, Some, None, ap, arith, refl}
use Rattle.std.proofs.lemmas.Bool.Decides.{nat_tests}
use Rattle.json_text.specs.Json.{Json}
use Rattle.json_text.specs.Grammar.{IsJson, IsText}
use Rattle.json_text.proofs.Deciding.{is_text_or_not}
use Rattle.json_path.specs.Grammar.{IsPath, IsPathText}
use Rattle.json_path.specs.declared.path.Path.{Path}
use Rattle.json_path.proofs.Deciding.{is_path_or_not}
use Rattle.preprocess.specs.Readings.{json_found, json_in, path_found, path_in}

json_by : (text : List ℕ) (json : Json) → IsJson text json → ((other : Json) → IsJson text other → other ≡ json)
    → (is : IsText text ⊎ (IsText text → ⊥)) → json_found is ≡ Some json
json_by text json h only (inl (other, is)) = ap (λ j. Some j) (only other is)
json_by text json h only (inr refuted) = absurd (refuted (json, h))

pub json_is : (text : List ℕ) (json : Json) → IsJson text json → ((other : Json) → IsJson text other → other ≡ json) → json_in text ≡ Some json
unfolding json_in
json_is text json h only = json_by text json h only (is_text_or_not text)

no_json_by : (text : List ℕ) → (IsText text → ⊥) → (is : IsText text ⊎ (IsText text → ⊥)) → json_found is ≡ None
no_json_by text refuted (inl is) = absurd (refuted is)
no_json_by text refuted (inr same) = refl

pub no_json : (text : List ℕ) → (IsText text → ⊥) → json_in text ≡ None
unfolding json_in
no_json text refuted = no_json_by text refuted (is_text_or_not text)

path_by : (text : List ℕ) (path : Path) → IsPath text path → ((other : Path) → IsPath text other → other ≡ path)
    → (is : IsPathText text ⊎ (IsPathText text → ⊥)) → path_found is ≡ Some path
path_by text path h only (inl (other, is)) = ap (λ p. Some p) (only other is)
path_by text path h only (inr refuted) = absurd (refuted (path, h))

short : (text : List ℕ) → length text ≤ 65535 → nat_le (length text) 65535 ≡ true
short text h = grind (arith, nat_tests)

long : (text : List ℕ) → 65535 < length text → nat_le (length text) 65535 ≡ false
long text h = grind (arith, nat_tests)

pub path_is : (text : List ℕ) (path : Path) → length text ≤ 65535 → IsPath text path → ((other : Path) → IsPath text other → other ≡ path) → path_in text ≡ Some path
unfolding path_in
path_is text path s h only = rw (short text s) (path_by text path h only (is_path_or_not text))

no_path_by : (text : List ℕ) → (IsPathText text → ⊥) → (is : IsPathText text ⊎ (IsPathText text → ⊥)) → path_found is ≡ None
no_path_by text refuted (inl is) = absurd (refuted is)
no_path_by text refuted (inr same) = refl

pub no_path : (text : List ℕ) → length text ≤ 65535 → (IsPathText text → ⊥) → path_in text ≡ None
unfolding path_in
no_path text s refuted = rw (short text s) (no_path_by text refuted (is_path_or_not text))

pub long_path : (text : List ℕ) → 65535 < length text → path_in text ≡ None
unfolding path_in
long_path text h = rw (long text h) refl
