use Rattle.std.proofs.lemmas.Result.{IfOk-weaker}
use Rattle.json_text.proofs.Moving.{on_front}
use Rattle.json_text.proofs.machine.State.several.Goals as goal

pub returns-else-run-gt0-clause-goes : goal.returns-else-run-gt0-clause-goes
returns-else-run-gt0-clause-goes c = IfOk-weaker c.whole_string.result _ _
    (λ n goes. on_front c.args.self.now c.run.new.self c.whole_string.new.self c.in_ok-run.run' n c.args.rest.now c.if-run-gt0.false c.in_ok-run.ensures.goes goes) c.whole_string.ensures.goes
