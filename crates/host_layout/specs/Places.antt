-- What stands where in the document, and what is wrong with it.
use Rattle.std.specs.Prelude.{ℕ, ◌+◌, List, [], ◌∷◌, ◌++◌, Option, Some, None, Result, Ok, Err, codes}
use Rattle.std.specs.Fmt.{decimal}
use Rattle.zbx_types.specs.declared.causes.Cause.{Cause}
use Rattle.json_form.specs.Faults.{Fault}

-- Why a document has no flat configuration: its first fault.
pub data Flaw : Type 0 where
  refused : (fault : Fault) → Flaw

infixl 10 ◌>>=◌
-- one step after the other, up to the first flaw
abbrev pub ◌>>=◌ : {A B : Type 0} → Result A Flaw → (A → Result B Flaw) → Result B Flaw
(Ok x) >>= f = f x
(Err flaw) >>= f = Err flaw

-- a fault at a place
abbrev pub refuse : {A : Type 0} → List ℕ → Cause → Result A Flaw
refuse path cause = Err (refused (record { path = path; cause = cause }))

-- no flaw, or the fault
abbrev pub unless : {A : Type 0} → A → Option Fault → Result A Flaw
unless a None = Ok a
unless a (Some fault) = Err (refused fault)

-- an element of a list of the document: its place, counted from 0, the pointer to it, and what it is
pub record Placed (A : Type 0) : Type 0 where
  pub place : ℕ
  pub path : List ℕ
  pub body : A

-- the elements from this place on of the list at a pointer
abbrev pub placed_from : {A : Type 0} → List ℕ → ℕ → List A → List (Placed A)
placed_from path place [] = []
placed_from path place (x ∷ xs) = record { place = place; path = path ++ codes "/" ++ decimal place; body = x } ∷ placed_from path (place + 1) xs

-- the elements of the list at a pointer
abbrev pub placed : {A : Type 0} → List ℕ → List A → List (Placed A)
placed path xs = placed_from path 0 xs

-- the cause at a pointer, or else the fault behind it
abbrev pub fault_or : Option Cause → List ℕ → Option Fault → Option Fault
fault_or None path rest = rest
fault_or (Some cause) path rest = Some (record { path = path; cause = cause })

-- the fault of the first element that has one
abbrev pub first_fault : {A : Type 0} → (A → Option Cause) → List (Placed A) → Option Fault
first_fault check [] = None
first_fault check (p ∷ ps) = fault_or (check p.body) p.path (first_fault check ps)

-- each element in order, behind what those before it made
abbrev pub each : {A B : Type 0} → (List B → A → Result B Flaw) → List B → List A → Result (List B) Flaw
each make before [] = Ok before
each make before (a ∷ rest) = make before a >>= λ b. each make (before ++ b ∷ []) rest

-- what all elements make, each in order of what those before it made
abbrev pub each_list : {A S : Type 0} → (S → A → Result S Flaw) → S → List A → Result S Flaw
each_list make made [] = Ok made
each_list make made (a ∷ rest) = make made a >>= λ more. each_list make more rest
