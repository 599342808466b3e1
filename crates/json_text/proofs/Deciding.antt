-- Each text is one of JSON or isn't.
use Rattle.std.proofs.Common.{◌≡◌, ◌⊎◌, inl, inr, ℕ, List, Option, Some, None, refl}
use Rattle.json_text.specs.Json.{Json}
use Rattle.json_text.specs.Grammar.{IsText}
use Rattle.json_text.specs.Machine.{json_at}
use Rattle.json_text.proofs.Complete.{complete}
use Rattle.json_text.proofs.Sound.{sound}

decided : (text : List ℕ) (read : Option Json) → json_at text ≡ read → IsText text ⊎ (IsText text → ⊥)
decided text (Some j) e = inl (j, sound text j e)
decided text None e = inr (λ t. let a = complete text t.0 t.1 in cc)

pub is_text_or_not : (text : List ℕ) → IsText text ⊎ (IsText text → ⊥)
is_text_or_not text = decided text (json_at text) refl
