-- Bases of whole logs, with any number of Configs. `flat` tells the configuration that a text stands for.
use Rattle.std.specs.Prelude.{◌≡◌, ℕ, List, ◌∷◌, ◌++◌}
use Rattle.zbx_types.specs.declared.conf.Conf.{Conf}
use Rattle.zbx_types.specs.declared.entries.Numbered.{Numbered}
use Rattle.entry_step.specs.Each.{Each}
use Rattle.entry_step.specs.InForce.{SuitsWhole}
use Rattle.entry_laws.specs.InForce.{FitsLog, IsPlain, left_by}
use Rattle.entry_step.specs.Log.{IsRising, Suits}
use Rattle.entry_step.specs.Named.{AreDistinct}
use Rattle.entry_step.specs.Records.{replay}
use Rattle.entry_step.specs.Start.{Start, nothing}
use Rattle.entry_step.specs.Whole.{point, whole_replay, FitsStart, FitsWhole}
use Rattle.entry_laws.specs.Rising.{HaveOwnNames}
use Rattle.base_laws.specs.Alike.{HasShortPeriods, AreAlike}
use Rattle.base_laws.specs.Bases.{told_start, Beside, beside_of, base_of, whole_base}
use Rattle.base_laws.specs.Sound.{IsSound}

-- no two triggers of a configuration have the same names, actions have different names, and the periods of calls can be
-- counted
pub record IsRegular (conf : Conf) : Type 0 where
  pub triggers : AreDistinct conf
  pub actions : HaveOwnNames conf.actions
  pub periods : HasShortPeriods conf

-- so are the configuration before a log, and all that texts stand for; the start is sound, and the log fits it
pub record IsWhole (flat : List ℕ → Conf) (start : Start) (log : List Numbered) : Type 0 where
  pub texts : (text : List ℕ) → IsRegular (flat text)
  pub first : IsRegular start.stage.conf
  pub sound : IsSound start
  pub fits : FitsWhole flat start log

-- the configuration in force behind a whole log
abbrev pub conf_after : (List ℕ → Conf) → Start → List Numbered → Conf
conf_after flat start log = (point flat start log).start.stage.conf

-- the start that the base of a whole log is by itself
abbrev pub start_after : (List ℕ → Conf) → Beside → Start → List Numbered → Start
start_after flat beside start log = told_start (conf_after flat start log) (whole_base flat beside start log)

-- A log whose numbers rise is such a one over nothing.
abbrev pub WholeOverNothing : Type 0
WholeOverNothing = (flat : List ℕ → Conf) (log : List Numbered) → ((text : List ℕ) → IsRegular (flat text))
    → IsRising nothing log → IsWhole flat nothing log

-- What a whole log leaves is sound.
abbrev pub WholeIsSound : Type 0
WholeIsSound = (flat : List ℕ → Conf) (start : Start) (log : List Numbered) → IsWhole flat start log
    → IsSound (left_by (point flat start log))

-- The start that the base of a whole log is by itself is alike to what the log leaves; it is sound, and a log can stand on it.
abbrev pub ToldByBase : Type 0
ToldByBase = (flat : List ℕ → Conf) (beside : Beside) (start : Start) (log : List Numbered) → IsWhole flat start log
    → AreAlike (left_by (point flat start log)) (start_after flat beside start log)
    × IsSound (start_after flat beside start log)
    × FitsStart (start_after flat beside start log)

-- The central law with what the base tells by itself: newer Values and Ticks make behind the base of a whole log what they
-- make behind that log, they leave the same base, and they suit it.
abbrev pub CheckpointLaw : Type 0
CheckpointLaw = (flat : List ℕ → Conf) (beside : Beside) (start : Start) (newer older : List Numbered) → Each IsPlain newer
    → IsWhole flat start (newer ++ older) → SuitsWhole flat start (newer ++ older)
    → let its = start_after flat beside start older in
    (whole_replay flat start (newer ++ older) ≡ whole_replay flat start older ++ replay its newer)
    × (whole_base flat beside start (newer ++ older) ≡ base_of (beside_of (whole_base flat beside start older)) its newer)
    × IsRising its newer
    × Suits its newer

-- The central law for whole logs: newer entries, whatever Configs are among them, make behind the base of older ones what
-- they make behind these, they leave the same base, and they fit and suit it.
abbrev pub WholeLaw : Type 0
WholeLaw = (flat : List ℕ → Conf) (beside : Beside) (start : Start) (newer older : List Numbered)
    → IsWhole flat start (newer ++ older) → SuitsWhole flat start (newer ++ older)
    → let its = start_after flat beside start older in
    (whole_replay flat start (newer ++ older) ≡ whole_replay flat start older ++ whole_replay flat its newer)
    × (whole_base flat beside start (newer ++ older)
    ≡ whole_base flat (beside_of (whole_base flat beside start older)) its newer)
    × IsWhole flat its newer
    × SuitsWhole flat its newer

-- The document that a base has is that of the configuration in force, where the one told before the log was.
abbrev pub TextInForce : Type 0
TextInForce = (flat : List ℕ → Conf) (beside : Beside) (start : Start) (log : List Numbered) → flat beside.text ≡ start.stage.conf
    → flat (whole_base flat beside start log).text ≡ conf_after flat start log

-- So it is where a log that fits begins over nothing.
abbrev pub TextOverNothing : Type 0
TextOverNothing = (flat : List ℕ → Conf) (beside : Beside) (last : Numbered) (older : List Numbered) → FitsLog flat nothing (last ∷ older)
    → flat (whole_base flat beside nothing (last ∷ older)).text ≡ conf_after flat nothing (last ∷ older)
