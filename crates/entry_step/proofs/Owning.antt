-- Events of later entries are those of the configuration in force.
use Rattle.std.proofs.Common.{◌≡◌, ◌≤◌, ◌<◌, ◌==◌, ℕ, ◌&&◌, false, cond, Some, None, List, [], ◌∷◌, refl, ◌∙◌, ap, ne_eqb, arith}
use Rattle.std.specs.List.{find}
use Rattle.zbx_types.specs.Records.{same_event}
use Rattle.trigger_state.specs.Stages.{Stage, OwnsEvents, origin_of, home_by}
use Rattle.trigger_state.specs.declared.stage.Origin.{Origin}
use Rattle.entry_step.specs.Each.{Each}
use Rattle.entry_step.specs.Laws.{EntriesOwn}

-- an event of a later entry has no origin elsewhere
no_origin : (m n id : ℕ) (origins : List Origin) → m < n → Each (λ (o : Origin). o.event.number ≤ m) origins → origin_of origins (record { number = n; trigger = id }) ≡ None
no_origin m n id [] l e = refl
no_origin m n id (o ∷ origins) l e =
    let up = e.0 in let apart : (o.event.number == n) ≡ false = ne_eqb o.event.number n (λ q. absurd (omega arith)) in
    let rest : find (λ (x : Origin). same_event x.event (record { number = n; trigger = id })) origins ≡ None = no_origin m n id origins l e.1 in
    ap (λ b. cond (b && (o.event.trigger == id)) (Some o) (find (λ (x : Origin). same_event x.event (record { number = n; trigger = id })) origins)) apart ∙ rest

pub own_home : (stage : Stage) (m n : ℕ) → m < n → Each (λ (o : Origin). o.event.number ≤ m) stage.origins → OwnsEvents stage n
own_home stage m n l e id = ap (home_by stage.conf (record { number = n; trigger = id })) (no_origin m n id stage.origins l e)

-- behind a good start so is each entry's
pub entries_own : EntriesOwn
entries_own start e good l = own_home start.stage start.number e.number l good.origins
