-- Texts that are expanded up to a limit.
use Rattle.std.proofs.Common.{◌≡◌, ◌<◌, ◌≤◌, ℕ, true, false, List, length, arith, refl, ap, sym, ◌∙◌}
use Rattle.std.specs.Prelude.{Option, Some, None, Ok, nat_le}
use Rattle.std.proofs.lemmas.Bool.Decides.{nat_tests}
use Rattle.zbx_types.specs.declared.causes.Cause.{Cause}
use Rattle.zbx_types.specs.declared.causes.Cause.TheVariants.{BadMember}
use Rattle.host_layout.specs.Places.{refuse}
use Rattle.host_layout.specs.Prepared.{passed, short_passed}

short : (text : List ℕ) → length text ≤ 65535 → nat_le (length text) 65535 ≡ true
short text h = grind (arith, nat_tests)

long : (text : List ℕ) → 65535 < length text → nat_le (length text) 65535 ≡ false
long text h = grind (arith, nat_tests)

-- a short text passes where nothing is wrong with it
pub whole : (path text : List ℕ) (cause : Option Cause) → length text ≤ 65535 → short_passed path text cause ≡ passed path text cause
whole path text cause h = rw (short text h) refl

-- a longer one doesn't
pub longer : (path text : List ℕ) (cause : Option Cause) → 65535 < length text → short_passed path text cause ≡ refuse path BadMember
longer path text cause h = rw (long text h) refl
