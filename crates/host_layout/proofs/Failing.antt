-- What a call fails with.
use Rattle.std.proofs.Common.{◌≡◌, ℕ, List, ap, ◌∙◌, Result, Err}
use Rattle.zbx_types.specs.declared.causes.Cause.{Cause}
use Rattle.host_layout.specs.declared.fault.FlatError.{FlatError}
use Rattle.host_layout.specs.declared.fault.FlatError.TheVariants.{Refused, OutOfMemory}
use Rattle.host_layout.specs.Places.{Flaw, refuse}
use Rattle.host_layout.specs.Places.Flaw.{refused}
use Rattle.host_layout.specs.Answers.{Fails}
use Rattle.host_layout.specs.Elements.{IsRefusal}

-- a call that refuses fails with the refusal
pub refusal : {A : Type 0} (e : FlatError) (path : List ℕ) (cause : Cause) (laid : Result A Flaw) → IsRefusal path cause e → laid ≡ refuse path cause → Fails e laid
refusal OutOfMemory path cause laid r h = tt
refusal (Refused p which) path cause laid r h = let e : refused (record { path = path; cause = cause }) ≡ refused (record { path = p; cause = which }) = cc in h ∙ ap (λ (f : Flaw). Err f) e
