use Rattle.std.proofs.Common.{◌≡◌, drop}
use Rattle.config_templates.specs.Members.{member_path, trigger_path}
use Rattle.config_templates.specs.Uses.{member_joined}
use Rattle.config_templates.proofs.uses.join_texts.Given as goal

abbrev pub invariant-loop-text : goal.invariant-loop-text
invariant-loop-text l =
    member_joined l.patterns (member_path (trigger_path l.source l.index) l.member) (drop l.text-index l.texts)
    ≡ member_joined l.fn.patterns (member_path (trigger_path l.source l.index) l.member) l.texts
