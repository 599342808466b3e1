use Rattle.std.proofs.Common.{◌≡◌, ◌++◌, drop, codes}
use Rattle.config_templates.specs.Members.{trigger_path}
use Rattle.host_layout.specs.Places.{each_list, placed, placed_from}
use Rattle.config_templates.specs.Uses.{tag_joined}
use Rattle.config_templates.proofs.uses.join_tags.Given as goal

abbrev pub invariant-loop-place : goal.invariant-loop-place
invariant-loop-place l =
    each_list tag_joined l.patterns (placed_from (trigger_path l.source l.index ++ codes "/tags") l.place (drop l.place l.tags))
    ≡ each_list tag_joined l.fn.patterns (placed (trigger_path l.source l.index ++ codes "/tags") l.tags)
