-- The first fault of a list, part by part.
use Rattle.std.proofs.Common.{◌≡◌, ℕ, List, [], ◌∷◌, ◌++◌, Option, Some, None, refl, ap, ◌∙◌}
use Rattle.std.specs.Option.{option_or}
use Rattle.zbx_types.specs.declared.causes.Cause.{Cause}
use Rattle.json_form.specs.Faults.{Fault}
use Rattle.host_layout.specs.Places.{Placed, fault_or, first_fault}
use Rattle.host_layout.specs.Answers.{Tells}
use Rattle.host_layout.specs.declared.fault.FlatError.{FlatError}
use Rattle.host_layout.specs.declared.fault.FlatError.TheVariants.{Refused, OutOfMemory}

fault_or-option_or : (cause : Option Cause) (path : List ℕ) (x y : Option Fault) → fault_or cause path (option_or x y) ≡ option_or (fault_or cause path x) y
fault_or-option_or None path x y = refl
fault_or-option_or (Some cause) path x y = refl

-- the first of two lists that has one tells it
pub first_fault-append : {A : Type 0} (check : A → Option Cause) (xs ys : List (Placed A)) → first_fault check (xs ++ ys) ≡ option_or (first_fault check xs) (first_fault check ys)
first_fault-append check [] ys = refl
first_fault-append check (x ∷ xs) ys =
    ap (fault_or (check x.body) x.path) (first_fault-append check xs ys)
    ∙ fault_or-option_or (check x.body) x.path (first_fault check xs) (first_fault check ys)

-- a fault of the first part is one of the whole
pub tells_front : (e : FlatError) (x y : Option Fault) → Tells e x → Tells e (option_or x y)
tells_front OutOfMemory x y told = tt
tells_front (Refused path cause) x y told = ap (λ f. option_or f y) told
