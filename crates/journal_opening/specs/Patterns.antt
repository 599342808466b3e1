-- Configurations with a pattern that a run can't take.
use Rattle.std.specs.Prelude.{◌≡◌, ℕ, ◌-◌, List, take, Some, Ok, All, Contains, ⊤}
use Rattle.zbx_types.specs.Ids.{at_id}
use Rattle.zbx_types.specs.declared.conf.Conf.{Conf}
use Rattle.config_templates.specs.Flat.{flat_of}
use Rattle.pattern_set.specs.Patterns.{IsPattern, IsNoPattern}
use Rattle.server_words.specs.declared.status.Status.{Status}
use Rattle.server_words.specs.declared.status.Status.TheVariants as status

-- a pattern that is one, and holds a brace
abbrev pub HoldsBrace : List ℕ → Type 0
HoldsBrace pattern = IsPattern pattern × Contains pattern 123

-- a pattern of a configuration, used first at this path, has a flaw, and those before it are patterns
pub record IsFlawedAt (Flaw : List ℕ → Type 0) (conf : Conf) (path : List ℕ) : Type 0 where
  pub place : ℕ
  pub pattern : List ℕ
  pub pattern_is : at_id conf.patterns place ≡ Some pattern
  pub path_is : at_id conf.pattern_paths place ≡ Some path
  pub flaw : Flaw pattern
  pub before : All IsPattern (take (place - 1) conf.patterns)

-- the text has a flat configuration with such a pattern at this path
pub record HasFlawAt (Flaw : List ℕ → Type 0) (path text : List ℕ) : Type 0 where
  pub conf : Conf
  pub conf_is : flat_of text ≡ Ok conf
  pub flawed : IsFlawedAt Flaw conf path

-- why a configuration wasn't made ready: memory was refused, or the first pattern that isn't one, or is too large
abbrev pub IsUnready : Conf → Status → Type 0
IsUnready conf status.OutOfMemory = ⊤
IsUnready conf (status.PatternRefused path) = IsFlawedAt IsNoPattern conf path
IsUnready conf (status.PatternTooLarge path) = IsFlawedAt HoldsBrace conf path
IsUnready conf _ = ⊥
