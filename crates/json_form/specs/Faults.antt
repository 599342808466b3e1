-- Faults of a document, and what a call gives that reads one.
use Rattle.std.specs.Prelude.{◌≡◌, ℕ, List, Result, Ok, Err}
use Rattle.zbx_types.specs.declared.causes.Cause.{Cause}
use Rattle.json_form.specs.declared.fault.ReadError.{ReadError}
use Rattle.json_form.specs.declared.fault.ReadError.TheVariants.{Refused, OutOfMemory}

-- a fault: the JSON pointer to a place of the document, and what is wrong there
pub record Fault : Type 0 where
  pub path : List ℕ
  pub cause : Cause

infixl 10 ◌>>=◌
-- one reading after another, up to the first fault
abbrev pub ◌>>=◌ : {A B : Type 0} → Result A Fault → (A → Result B Fault) → Result B Fault
(Ok x) >>= f = f x
(Err e) >>= f = Err e

-- a call that failed had no memory, or tells the fault that the reading has
abbrev pub Fails : {A : Type 0} → ReadError → Result A Fault → Type 0
Fails OutOfMemory read = Unit {0}
Fails (Refused path cause) read = read ≡ Err (record { path = path; cause = cause })

-- a call gives what the reading gives, value or fault, unless it had no memory
abbrev pub Gives : {A : Type 0} → Result A ReadError → Result A Fault → Type 0
Gives (Ok x) read = read ≡ Ok x
Gives (Err e) read = Fails e read

-- the same where the call's value stands for that of the reading
abbrev pub GivesAs : {X A : Type 0} → (X → A) → Result X ReadError → Result A Fault → Type 0
GivesAs view (Ok x) read = read ≡ Ok (view x)
GivesAs view (Err e) read = Fails e read
