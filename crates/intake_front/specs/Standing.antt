-- What stands before the entries of a journal: nothing, or the base that stands in place of earlier ones. `flat` tells
-- the configuration that a text stands for.
use Rattle.std.specs.Prelude.{◌≡◌, ℕ, List, [], Some}
use Rattle.zbx_types.specs.declared.base.Base.{Base}
use Rattle.zbx_types.specs.declared.conf.Conf.{Conf}
use Rattle.entry_laws.specs.InForce.{text_in}
use Rattle.entry_step.specs.Start.{Start}

-- a configuration is the one that its text stands for, where it has one
abbrev pub IsOfText : (List ℕ → Conf) → Conf → Type 0
IsOfText flat conf = (text : List ℕ) → text_in conf.text ≡ Some text → conf ≡ flat text

-- a start has what a base tells of the entries before it: the number and the moment of the last one, and the
-- configuration in force; where there is none, it is of moment 0
pub record StandsFor (flat : List ℕ → Conf) (base : Base) (start : Start) : Type 0 where
  pub number : start.number ≡ base.number
  pub moment : start.moment ≡ base.now
  pub text : start.stage.conf.text ≡ base.text
  pub of_text : IsOfText flat start.stage.conf
  pub first : start.stage.conf.text ≡ [] → start.moment ≡ 0
