use Rattle.std.proofs.Common.{arith}
use Rattle.std.proofs.lemmas.Result.{IfOk-weaker}
use Rattle.std.proofs.lemmas.List.Sums.{prefix_len-le-length}
use Rattle.json_text.specs.Bytes.{is_blank}
use Rattle.json_text.proofs.Moving.{apart, blanks_front}
use Rattle.json_text.proofs.Runs.{no_step}
use Rattle.json_text.proofs.machine.State.run.Goals as goal

pub returns-in-String-clause-goes : goal.returns-in-String-clause-goes
returns-in-String-clause-goes c = IfOk-weaker c.plain.result _ _ (λ n goes. rw (c.in-String.is) (goes c.in-String.field-0 c.args.self.now.stack)) c.plain.ensures.goes

pub returns-in-Number-clause-goes : goal.returns-in-Number-clause-goes
returns-in-Number-clause-goes c = IfOk-weaker c.digits.result _ _ (λ n goes. rw (c.in-Number.is) (goes c.args.self.now.stack)) c.digits.ensures.goes

pub returns-in-Literal-clause-goes : goal.returns-in-Literal-clause-goes
returns-in-Literal-clause-goes c = no_step _

pub returns-in_default : goal.returns-in_default
returns-in_default c = record {
  within = omega (arith, c.blank_len.ensures, prefix_len-le-length is_blank c.args.rest.now);
  goes = blanks_front c.args.self.now.mode c.args.self.now.stack c.blank_len.result c.args.rest.now (apart c.args.self.now.mode c.in_default.not-Literal c.in_default.not-Number c.in_default.not-String) c.blank_len.ensures;
}
