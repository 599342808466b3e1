-- Which problems an action matches (the Zabbix 6.0 manual, "Actions", "Conditions").
use Rattle.std.specs.Prelude.{ℕ, ◌==◌, nat_le, Bool, false, not, ◌||◌, List, length, bytes_eq}
use Rattle.std.specs.List.{list_any}
use Rattle.zbx_types.specs.Groups.{groups_of}
use Rattle.zbx_types.specs.Tags.{has_tag, passes, joined}
use Rattle.zbx_types.specs.Texts.{contains}
use Rattle.zbx_types.specs.declared.actions.Action.{Action}
use Rattle.zbx_types.specs.declared.actions.ActionCond.{ActionCond}
use Rattle.zbx_types.specs.declared.actions.ActionCond.TheVariants as kinds
use Rattle.zbx_types.specs.declared.actions.SeverityOp.{SeverityOp}
use Rattle.zbx_types.specs.declared.actions.SeverityOp.TheVariants.{Ge, Le, Eq}
use Rattle.zbx_types.specs.declared.conf.Conf.{Conf}
use Rattle.zbx_types.specs.declared.entries.Rec.{Rec}
use Rattle.zbx_types.specs.declared.entries.Rec.TheVariants.{Failure, Problem, Recovery, Step, Message}
use Rattle.zbx_types.specs.declared.entries.Tag.{Tag}

-- a severity compares so with a value
abbrev pub compares : SeverityOp → ℕ → ℕ → Bool
compares Ge severity value = nat_le value severity
compares Le severity value = nat_le severity value
compares Eq severity value = severity == value

-- a condition holds of a problem: of its severity, of whether it is suppressed, of its host, of the event's name and of
-- its tags, and of the groups of its host
abbrev pub holds_of : List (List ℕ) → ℕ → Bool → List ℕ → List ℕ → List Tag → ActionCond → Bool
holds_of groups severity suppressed host name tags (kinds.Severity op value) = compares op severity value
holds_of groups severity suppressed host name tags (kinds.Host asked) = bytes_eq host asked
holds_of groups severity suppressed host name tags (kinds.Group group) = list_any (λ g. bytes_eq g group) groups
holds_of groups severity suppressed host name tags (kinds.TriggerName text) = contains name text
holds_of groups severity suppressed host name tags (kinds.Tag tag) = has_tag tags tag
holds_of groups severity suppressed host name tags (kinds.TagValue test) = passes tags test
holds_of groups severity suppressed host name tags kinds.Suppressed = suppressed
holds_of groups severity suppressed host name tags kinds.NotSuppressed = not suppressed

-- a condition holds of a problem, whose host is in these groups; of other records none holds
abbrev pub holds : List (List ℕ) → Rec → ActionCond → Bool
holds groups (Problem event now severity suppressed host trigger name tags) condition =
    holds_of groups severity suppressed host name tags condition
holds groups (Failure number host key why) condition = false
holds groups (Recovery event by now cause) condition = false
holds groups (Step event action step now) condition = false
holds groups (Message event action step recipient subject body) condition = false

-- an action has no conditions, or they hold of a problem, whose host is in these groups, as they are joined
abbrev pub fits : List (List ℕ) → Rec → Action → Bool
fits groups problem action =
    length action.conditions == 0 || joined action.matching (holds groups problem) action.conditions

-- an action matches a problem
unfoldable pub is_matched : Conf → Action → Rec → Bool
is_matched conf action problem = fits (groups_of conf problem) problem action
