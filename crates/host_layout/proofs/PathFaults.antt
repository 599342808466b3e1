-- The first place of a text where no path goes on.
use Rattle.std.proofs.Common.{◌≡◌, ◌<◌, ◌≤◌, ◌⊎◌, inl, inr, ℕ, Bool, true, false, List, length, take, Option, Some, None, ap, refl, arith}
use Rattle.byte_grammar.specs.Fault.{IsFault, IsViable}
use Rattle.json_path.specs.Grammar.{IsPath, IsPathText}
use Rattle.json_path.specs.declared.path.Path.{Path}
use Rattle.json_path.specs.declared.path.PathError.{PathError}
use Rattle.json_path.specs.declared.path.PathError.TheVariants.{At}
use Rattle.json_path.proofs.Deciding.{is_path_or_not, begins_path_or_not}
use Rattle.host_layout.specs.Prepared.{is_first, path_fault}
use Rattle.host_layout.proofs.KeyFronts.{longest_is}

holds : {P : Type 0} (d : P ⊎ (P → ⊥)) → P → is_first d ≡ true
holds (inl p) h = refl
holds (inr refuted) h = absurd (refuted h)

fails : {P : Type 0} (d : P ⊎ (P → ⊥)) → (P → ⊥) → is_first d ≡ false
fails (inl p) refuted = absurd (refuted p)
fails (inr q) refuted = refl

pub path : (text : List ℕ) (p : Path) → IsPath text p → path_fault text ≡ None
unfolding path_fault
path text p h = rw (holds (is_path_or_not text) (p, h)) refl

pub stops : (text : List ℕ) (at : ℕ) → (IsPathText text → ⊥) → IsFault IsPathText text at → path_fault text ≡ Some at
unfolding path_fault
stops text at refuted f =
    rw (fails (is_path_or_not text) refuted)
    (ap (λ (n : ℕ). Some n) (longest_is (λ front. is_first (begins_path_or_not front)) text (length text) at f.within (λ h. holds (begins_path_or_not (take at text)) f.goes_on) (λ m a b. fails (begins_path_or_not (take m text)) (f.stops m a b tt))))

-- the same of the error that reading gives
pub told : (text : List ℕ) (e : PathError) (at : ℕ) → ((k : ℕ) → e ≡ At k → IsPathText text → ⊥) → ((k : ℕ) → e ≡ At k → IsFault IsPathText text k) → e ≡ At at → path_fault text ≡ Some at
told text e at none place h = stops text at (none at h) (place at h)
