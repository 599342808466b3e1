-- Whole logs over nothing.
use Rattle.std.proofs.Common.{◌≡◌, ◌==◌, ℕ, Bool, true, false, cond, Option, Some, None, [], refl, sym, ◌∙◌}
use Rattle.zbx_types.specs.Ids.{at_id}
use Rattle.zbx_types.specs.declared.triggers.Trigger.{Trigger}
use Rattle.trigger_state.specs.Stages.{first_stage}
use Rattle.entry_step.specs.Named.{AreDistinct}
use Rattle.entry_step.specs.Start.{no_conf, nothing}
use Rattle.entry_laws.proofs.InForce.{nothing_is_ground, rising_fits}
use Rattle.base_laws.specs.Alike.{HasShortPeriods}
use Rattle.base_laws.specs.WholeBases.{IsRegular, WholeOverNothing}
use Rattle.base_laws.proofs.Sound.{fresh_is_sound}

none_at : {A : Type 0} (id : ℕ) → at_id {A = A} [] id ≡ None
unfolding at_id
none_at {A} id = go (id == 0)
  where
    go : (b : Bool) → cond {A = Option A} b None None ≡ None
    go true = refl
    go false = refl

no_triggers : (id : ℕ) (trigger : Trigger) → at_id no_conf.triggers id ≡ Some trigger → ⊥
no_triggers id trigger at = let none : None ≡ Some trigger = sym (none_at id) ∙ at in absurd (cc)

distinct : AreDistinct no_conf
distinct i j a b at other hosts names = absurd (no_triggers i a at)

short : HasShortPeriods no_conf
short id place trigger call at there = absurd (no_triggers id trigger at)

regular : IsRegular no_conf
regular = record { triggers = distinct; actions = tt; periods = short }

pub whole_over_nothing : WholeOverNothing
whole_over_nothing flat log texts rising =
    record { texts = texts; first = regular; sound = fresh_is_sound (first_stage no_conf) refl; fits = rising_fits flat nothing log (λ text. (texts text).triggers) nothing_is_ground rising }
