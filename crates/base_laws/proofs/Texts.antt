-- The configuration document of a base.
use Rattle.std.proofs.Common.{◌≡◌, ℕ, true, List, [], ◌∷◌, refl}
use Rattle.zbx_types.specs.declared.conf.Conf.{Conf}
use Rattle.zbx_types.specs.declared.entries.Entry.{Entry}
use Rattle.zbx_types.specs.declared.entries.Entry.TheVariants.{Config, Value, Tick}
use Rattle.zbx_types.specs.declared.entries.Numbered.{Numbered}
use Rattle.entry_laws.specs.InForce.{FitsLog}
use Rattle.entry_step.specs.Log.{is_config}
use Rattle.entry_step.specs.Start.{Start, nothing}
use Rattle.entry_step.specs.Whole.{point_with, point}
use Rattle.base_laws.specs.Bases.{text_with, last_text, base_at}
use Rattle.base_laws.specs.WholeBases.{conf_after, TextInForce, TextOverNothing}

text_at : (flat : List ℕ → Conf) (text : List ℕ) (start : Start) (log : List Numbered) → flat text ≡ start.stage.conf → flat (last_text text log) ≡ conf_after flat start log
text_at flat text start [] same = same
text_at flat text start (e ∷ log) same = go e.entry (text_at flat text start log same)
  where
    go : (entry : Entry) → flat (last_text text log) ≡ conf_after flat start log → flat (text_with (last_text text log) entry) ≡ (point_with flat (point flat start log) e entry).start.stage.conf
    go (Config now t) ih = refl
    go (Value now item time value) ih = ih
    go (Tick now) ih = ih

first_text : (flat : List ℕ → Conf) (text : List ℕ) (last : Numbered) (older : List Numbered) → FitsLog flat nothing (last ∷ older) → flat (last_text text (last ∷ older)) ≡ conf_after flat nothing (last ∷ older)
first_text flat text last [] fits = go last.entry (fits.1).0
  where
    go : (entry : Entry) → is_config entry ≡ true → flat (text_with text entry) ≡ (point_with flat (point flat nothing []) last entry).start.stage.conf
    go (Config now t) q = refl
    go (Value now item time value) q = absurd (cc)
    go (Tick now) q = absurd (cc)
first_text flat text last (a ∷ more) fits = go last.entry (first_text flat text a more fits.0)
  where
    go : (entry : Entry) → flat (last_text text (a ∷ more)) ≡ conf_after flat nothing (a ∷ more) → flat (text_with (last_text text (a ∷ more)) entry) ≡ (point_with flat (point flat nothing (a ∷ more)) last entry).start.stage.conf
    go (Config now t) ih = refl
    go (Value now item time value) ih = ih
    go (Tick now) ih = ih

pub text_in_force : TextInForce
unfolding base_at
text_in_force flat beside start log same = text_at flat beside.text start log same

pub text_over_nothing : TextOverNothing
unfolding base_at
text_over_nothing flat beside last older fits = first_text flat beside.text last older fits
