use Rattle.std.proofs.Common.{refl}
use Rattle.zbx_types.specs.declared.causes.Cause.TheVariants.{BadExpression}
use Rattle.config_templates.specs.Meanings.{member_path}
use Rattle.config_templates.specs.Reading.{expression_at}
use Rattle.host_layout.proofs.Failing.{refusal}
use Rattle.config_templates.proofs.Parsing.{fault_at}
use Rattle.config_templates.proofs.expressions.parsed.Goals as goal

pub returns-in-Err-At : goal.returns-in-Err-At
returns-in-Err-At c =
    refusal c.refused.result (member_path c.args.member.now) (BadExpression c.in-Err-At.at) (expression_at (member_path c.args.member.now) c.args.text.now) c.refused.ensures
    (fault_at (member_path c.args.member.now) c.args.text.now c.in-Err-At.at (c.in-Err-At.ensures.none c.in-Err-At.at cc) (c.in-Err-At.ensures.dates c.in-Err-At.at cc) (c.in-Err-At.ensures.place c.in-Err-At.at cc))
