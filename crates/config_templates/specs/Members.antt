-- Members of a trigger that use patterns, as the code names them.
use Rattle.std.specs.Prelude.{ℕ, List, ◌++◌, codes}
use Rattle.std.specs.Fmt.{decimal}
use Rattle.host_layout.specs.Elements.{element_path}
use Rattle.config_templates.specs.Uses.{Users}
use Rattle.config_templates.specs.declared.uses.Users.{Users as Held}
use Rattle.host_layout.specs.declared.templates.sources.Source.{Source}
use Rattle.config_templates.specs.declared.uses.Member.{Member}
use Rattle.config_templates.specs.declared.uses.Member.TheVariants.{Name, Expression, RecoveryExpression, TagValue}

-- the pointer to a member of the trigger at a pointer
abbrev pub member_path : List ℕ → Member → List ℕ
member_path path Name = path ++ codes "/name"
member_path path Expression = path ++ codes "/expression"
member_path path RecoveryExpression = path ++ codes "/recovery_expression"
member_path path (TagValue place) = (path ++ codes "/tags") ++ codes "/" ++ decimal place ++ codes "/value"

-- the pointer to a trigger of a source
abbrev pub trigger_path : Source → ℕ → List ℕ
trigger_path s index = element_path s (codes "/triggers") index

-- what a trigger uses patterns in
abbrev pub users_now : Held → Users
users_now u = record { title = u.title.now; calls = u.calls.now; recovery_calls = u.recovery_calls.now; tags = u.tags.now }
