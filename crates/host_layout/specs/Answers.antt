-- What a call gives that lays out a document.
use Rattle.std.specs.Prelude.{◌≡◌, Option, Some, Result, Ok, Err}
use Rattle.json_form.specs.Faults.{Fault}
use Rattle.host_layout.specs.Places.{Flaw}
use Rattle.host_layout.specs.Places.Flaw.{refused}
use Rattle.host_layout.specs.declared.fault.FlatError.{FlatError}
use Rattle.host_layout.specs.declared.fault.FlatError.TheVariants.{Refused, OutOfMemory}

-- a call that failed had no memory, or tells the flaw that the definition has
abbrev pub Fails : {A : Type 0} → FlatError → Result A Flaw → Type 0
Fails OutOfMemory laid = Unit {0}
Fails (Refused path cause) laid = laid ≡ Err (refused (record { path = path; cause = cause }))

-- a call gives what the definition gives, value or flaw, unless it had no memory
abbrev pub Gives : {A : Type 0} → Result A FlatError → Result A Flaw → Type 0
Gives (Ok x) laid = laid ≡ Ok x
Gives (Err e) laid = Fails e laid

-- the same where the call's value stands for that of the definition
abbrev pub GivesAs : {X A : Type 0} → (X → A) → Result X FlatError → Result A Flaw → Type 0
GivesAs seen (Ok x) laid = laid ≡ Ok (seen x)
GivesAs seen (Err e) laid = Fails e laid

-- a call that failed had no memory, or tells the fault
abbrev pub Tells : FlatError → Option Fault → Type 0
Tells OutOfMemory fault = Unit {0}
Tells (Refused path cause) fault = fault ≡ Some (record { path = path; cause = cause })
