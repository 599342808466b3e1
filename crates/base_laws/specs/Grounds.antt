-- What stands before the entries of a run: nothing, or a base, the state that stands in a journal in place of the entries
-- that made it. `flat` tells the configuration that a text stands for.
use Rattle.std.specs.Prelude.{◌≡◌, ◌≢◌, ℕ, List, [], ◌∷◌}
use Rattle.zbx_types.specs.Bases.{empty_base}
use Rattle.zbx_types.specs.declared.base.Base.{Base}
use Rattle.zbx_types.specs.declared.conf.Conf.{Conf}
use Rattle.entry_laws.specs.InForce.{AllDistinct, IsGround}
use Rattle.entry_step.specs.Start.{Start, nothing}
use Rattle.base_laws.specs.Bases.{told_start}
use Rattle.base_laws.specs.FitsBase.{FitsBase}

-- nothing, where a text is empty, and else this
abbrev pub nothing_or : List ℕ → Start → Start
nothing_or [] start = nothing
nothing_or (byte ∷ text) start = start

-- what stands before a run's entries
unfoldable pub start_of : (List ℕ → Conf) → Base → Start
start_of flat base = nothing_or base.text (told_start (flat base.text) base)

-- a run can begin with a base: it is empty where its text is, and else that text is the one of a configuration, which it fits
pub record IsBase (flat : List ℕ → Conf) (base : Base) : Type 0 where
  pub empty : base.text ≡ [] → base ≡ empty_base
  pub text : base.text ≢ [] → (flat base.text).text ≡ base.text
  pub fits : base.text ≢ [] → FitsBase (flat base.text) base

-- On what stands before the entries of a run that begins with such a base a whole log can stand.
abbrev pub StartIsGround : Type 0
StartIsGround = (flat : List ℕ → Conf) (base : Base) → AllDistinct flat → IsBase flat base → IsGround (start_of flat base)
