-- A trigger whose name is free.
use Rattle.std.proofs.Common.{◌≡◌, ℕ, Bool, not, true, false, List, [], ◌∷◌, length, refl, sym, ◌∙◌, subst, ap}
use Rattle.std.specs.Prelude.{Result, nat_le, ◌==◌, ◌&&◌, ◌||◌}
use Rattle.std.specs.Str.{bytes_eq}
use Rattle.zbx_types.specs.declared.items.Item.{Item}
use Rattle.zbx_types.specs.declared.triggers.Trigger.{Trigger}
use Rattle.macro_text.specs.declared.macros.Macro.{Macro}
use Rattle.config_read.specs.declared.raw.RawConf.{RawConf}
use Rattle.config_read.specs.declared.raw.RawTrigger.{RawTrigger}
use Rattle.host_layout.specs.Answers.{GivesAs}
use Rattle.host_layout.specs.Places.{Placed}
use Rattle.host_layout.specs.Hosts.{Owner}
use Rattle.config_templates.specs.Triggers.{has_trigger, trigger_of, most_triggers}
use Rattle.host_layout.specs.Names.{Named, has_named, named_triggers}
use Rattle.config_templates.specs.Written.{free_trigger}
use Rattle.config_templates.specs.declared.triggers.Found.{Found}
use Rattle.host_layout.specs.declared.fault.FlatError.{FlatError}

as_free : (raw : RawConf) (items : List Item) (owner : Owner) (macros : List Macro) (found : Found) (p : Placed RawTrigger)
    → has_trigger found.triggers owner.id p.body.name ≡ false → nat_le most_triggers (length found.triggers) ≡ false → trigger_of raw items owner macros found p ≡ free_trigger raw items owner macros found p
unfolding trigger_of
as_free raw items owner macros found p h g = rw (h, g) refl

-- what a call gives of it is what it gives of the trigger, where its name is free and there is room
pub gives_free : (seen : Trigger → Found) (r : Result Trigger FlatError) (raw : RawConf) (items : List Item) (owner : Owner) (macros : List Macro) (found : Found) (p : Placed RawTrigger)
    → has_trigger found.triggers owner.id p.body.name ≡ false → nat_le most_triggers (length found.triggers) ≡ false → GivesAs seen r (free_trigger raw items owner macros found p)
    → GivesAs seen r (trigger_of raw items owner macros found p)
gives_free seen r raw items owner macros found p h g f = subst (λ laid. GivesAs seen r laid) (sym (as_free raw items owner macros found p h g)) f

-- a trigger is among others where its name is among theirs
pub has_trigger_named : (triggers : List Trigger) (host : ℕ) (name : List ℕ) → has_named (named_triggers triggers) host name ≡ has_trigger triggers host name
has_trigger_named [] host name = refl
has_trigger_named (t ∷ triggers) host name = ap (λ b. ((t.host == host) && bytes_eq t.name name) || b) (has_trigger_named triggers host name)

not_true : (b : Bool) → not b ≡ true → b ≡ false
not_true true h = absurd cc
not_true false h = refl

-- a name that was taken was free
pub was_free : (taken : Bool) (names : List Named) (triggers : List Trigger) (host : ℕ) (name held : List ℕ) → taken ≡ true → taken ≡ not (has_named names host held) → held ≡ name → names ≡ named_triggers triggers → has_trigger triggers host name ≡ false
was_free taken names triggers host name held t e h n =
    sym (has_trigger_named triggers host name) ∙ ap (λ ns. has_named ns host name) (sym n) ∙ ap (has_named names host) (sym h) ∙ not_true (has_named names host held) (sym e ∙ t)
