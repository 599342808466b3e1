use Rattle.std.proofs.Common.{◌∙◌, ap₂}
use Rattle.std.proofs.lemmas.Result.{IfOk-weaker}
use Rattle.clap.specs.Words.{with_rule}
use Rattle.server_words.proofs.command.command.Goals as goal

pub returns : goal.returns
returns c =
    let number = c.in_ok-arg.ensures.shape c.number.ensures.local ∙ ap₂ with_rule c.in_ok-limit_command.ensures c.number.ensures.rule in
    let attempts = c.in_ok-arg-2.ensures.shape c.number-2.ensures.local ∙ ap₂ with_rule number c.number-2.ensures.rule in
    let sessions = c.in_ok-arg-3.ensures.shape c.number-3.ensures.local ∙ ap₂ with_rule attempts c.number-3.ensures.rule in
    IfOk-weaker c.arg-4.result _ _ (λ made adds. adds.shape c.number-4.ensures.local ∙ ap₂ with_rule sessions c.number-4.ensures.rule) c.arg-4.ensures
