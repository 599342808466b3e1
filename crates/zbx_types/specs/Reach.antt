-- Which triggers a rule of global correlation can be about (this project's own).
use Rattle.std.specs.Prelude.{ℕ, Bool, true, false, ◌||◌, List, Option, Some, None, if◌then◌else◌}
use Rattle.std.specs.List.{list_all}
use Rattle.zbx_types.specs.Tags.{has_tag}
use Rattle.zbx_types.specs.declared.entries.Tag.{Tag}
use Rattle.zbx_types.specs.declared.rules.Rule.{Rule}
use Rattle.zbx_types.specs.declared.rules.RuleCond.{RuleCond}
use Rattle.zbx_types.specs.declared.rules.RuleCond.TheVariants.{OldTag, NewTag, OldTagValue, NewTagValue, TagPair, NewGroup}
use Rattle.zbx_types.specs.declared.tag_tests.Matching.{Matching}
use Rattle.zbx_types.specs.declared.tag_tests.Matching.TheVariants.{And, Or}
use Rattle.zbx_types.specs.declared.tag_tests.TagOp.{TagOp}
use Rattle.zbx_types.specs.declared.tag_tests.TagOp.TheVariants.{Equals, Contains, NotEquals, NotContains}
use Rattle.zbx_types.specs.declared.triggers.Trigger.{Trigger}

-- the operator holds of some value, so that the tag has to be there
abbrev pub asks_for_value : TagOp → Bool
asks_for_value Equals = true
asks_for_value Contains = true
asks_for_value NotEquals = false
asks_for_value NotContains = false

-- the tag that an old problem must have for a condition to hold
abbrev pub old_name : RuleCond → Option (List ℕ)
old_name (OldTag tag) = Some tag
old_name (OldTagValue test) = if asks_for_value test.op then Some test.tag else None
old_name (TagPair old_tag new_tag) = Some old_tag
old_name (NewTag tag) = None
old_name (NewTagValue test) = None
old_name (NewGroup group) = None

-- the tag that a new problem must have for a condition to hold
abbrev pub new_name : RuleCond → Option (List ℕ)
new_name (NewTag tag) = Some tag
new_name (NewTagValue test) = if asks_for_value test.op then Some test.tag else None
new_name (TagPair old_tag new_tag) = Some new_tag
new_name (OldTag tag) = None
new_name (OldTagValue test) = None
new_name (NewGroup group) = None

-- one of the tags has this name, where one is asked for
abbrev pub has_name : List Tag → Option (List ℕ) → Bool
has_name tags None = true
has_name tags (Some name) = has_tag tags name

-- a trigger with these tags can be the old side of a rule
abbrev pub can_be_old : List Tag → Rule → Bool
can_be_old tags rule = list_all (λ condition. has_name tags (old_name condition)) rule.conditions

-- a trigger with these tags can be the new side of a rule
abbrev pub can_be_new : List Tag → Rule → Bool
can_be_new tags rule = list_all (λ condition. has_name tags (new_name condition)) rule.conditions

-- a rule reaches triggers with these tags: under `or` all, under `and` those that can be one of its sides
abbrev pub reaches : Matching → Rule → List Tag → Bool
reaches Or rule tags = true
reaches And rule tags = can_be_old tags rule || can_be_new tags rule

-- a trigger is in the reach of a rule
unfoldable pub in_reach : Rule → Trigger → Bool
in_reach rule trigger = reaches rule.matching rule trigger.tags
