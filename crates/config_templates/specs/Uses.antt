-- The patterns that a trigger uses: those of regular expressions in its title and in the values of its tags, and those that
-- its calls search for.
use Rattle.std.specs.Prelude.{ℕ, List, ◌++◌, map, flat_map, Result, codes}
use Rattle.std.specs.Option.{option_to_list}
use Rattle.zbx_types.specs.Operators.{call_pattern}
use Rattle.zbx_types.specs.declared.calls.Call.{Call}
use Rattle.zbx_types.specs.declared.entries.Tag.{Tag}
use Rattle.event_text.specs.Forms.{patterns_of}
use Rattle.host_layout.specs.Places.{Flaw, Placed, placed, each_list, ◌>>=◌}
use Rattle.host_layout.specs.Patterns.{Pattern, used, all_joined}

-- the patterns behind those before, where the member at a pointer uses these texts
abbrev pub member_joined : List Pattern → List ℕ → List (List ℕ) → Result (List Pattern) Flaw
member_joined before path texts = all_joined before (map (λ text. used text path) texts)

-- the patterns of calls
abbrev pub patterns_called : List Call → List (List ℕ)
patterns_called calls = flat_map (λ call. option_to_list (call_pattern call)) calls

-- the patterns behind those before, where the value of a tag uses its own
abbrev pub tag_joined : List Pattern → Placed Tag → Result (List Pattern) Flaw
tag_joined before t = member_joined before (t.path ++ codes "/value") (patterns_of t.body.value)

-- what a trigger uses patterns in: its title, the calls of its expression and those of its recovery expression, and its tags
pub record Users : Type 0 where
  pub title : List ℕ
  pub calls : List Call
  pub recovery_calls : List Call
  pub tags : List Tag

-- the patterns behind those before, where the trigger at a pointer uses its own
unfoldable pub trigger_joined : List Pattern → List ℕ → Users → Result (List Pattern) Flaw
trigger_joined before path users = do
  named ← member_joined before (path ++ codes "/name") (patterns_of users.title)
  called ← member_joined named (path ++ codes "/expression") (patterns_called users.calls)
  recovered ← member_joined called (path ++ codes "/recovery_expression") (patterns_called users.recovery_calls)
  each_list tag_joined recovered (placed (path ++ codes "/tags") users.tags)
