use Rattle.std.proofs.Common.{rules}
use Rattle.pattern_set.proofs.Carried.{is_pattern, is_refused}
use Rattle.pattern_set.proofs.built.Built.build.Goals as goal

pub returns-in-Ok-clause-pattern : goal.returns-in-Ok-clause-pattern
returns-in-Ok-clause-pattern c =
    is_pattern c.in-Ok.regex c.args.text.now c.in-Ok.ensures.source c.in-Ok.ensures.config c.in-Ok.ensures.read

pub returns-in-Err-Syntax-clause-refused : goal.returns-in-Err-Syntax-clause-refused
returns-in-Err-Syntax-clause-refused c at same =
    let e = c.in-Err-Syntax.ensures in
    (search rules, is_refused c.args.text.now c.in-Err-Syntax.field-0 c.in-Err-Syntax.field-0-0 c.in-Err-Syntax.field-0-is e.kind e.by_grammar)
