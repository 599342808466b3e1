-- Which old problems don't matter to a new one.
use Rattle.std.specs.Prelude.{◌≡◌, Bool, ◌&&◌, List, map, filter, All}
use Rattle.std.specs.List.{list_any}
use Rattle.zbx_types.specs.Reach.{in_reach}
use Rattle.zbx_types.specs.Records.{tags_of}
use Rattle.zbx_types.specs.declared.conf.Conf.{Conf}
use Rattle.zbx_types.specs.declared.entries.Rec.{Rec}
use Rattle.zbx_types.specs.declared.rules.Rule.{Rule}
use Rattle.zbx_types.specs.declared.triggers.Trigger.{Trigger}
use Rattle.event_correlation.specs.Closings.{closes_of}

-- the tags of a problem have, in order, the names of a trigger's tags
abbrev pub HasTagsOf : Trigger → Rec → Type 0
HasTagsOf trigger problem = map (λ tag. tag.tag) (tags_of problem) ≡ map (λ tag. tag.tag) trigger.tags

-- the reach of some rule holds both triggers
abbrev pub share_reach : List Rule → Trigger → Trigger → Bool
share_reach rules one other = list_any (λ rule. in_reach rule one && in_reach rule other) rules

-- Where problems have the tag names of their triggers, the same closes over those old problems alone whose trigger
-- shares a reach with the new one's.
abbrev pub WithinReach : Type 0
WithinReach = (conf : Conf) (new : Rec) (trigger : Trigger) (old : List Rec) (trigger_of : Rec → Trigger)
    → HasTagsOf trigger new → All (λ problem. HasTagsOf (trigger_of problem) problem) old
    → closes_of conf new old
    ≡ closes_of conf new (filter (λ problem. share_reach conf.correlations trigger (trigger_of problem)) old)
