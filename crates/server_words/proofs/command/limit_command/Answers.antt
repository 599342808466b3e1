use Rattle.std.proofs.Common.{◌∙◌, ap₂}
use Rattle.std.proofs.lemmas.Result.{IfOk-weaker}
use Rattle.clap.specs.Words.{with_rule}
use Rattle.server_words.proofs.command.limit_command.Goals as goal

pub returns : goal.returns
returns c =
    let syncers = c.in_ok-arg.ensures.shape c.number.ensures.local ∙ ap₂ with_rule c.in_ok-text_command.ensures c.number.ensures.rule in
    let turns = c.in_ok-arg-2.ensures.shape c.number-2.ensures.local ∙ ap₂ with_rule syncers c.number-2.ensures.rule in
    IfOk-weaker c.arg-3.result _ _ (λ made adds. adds.shape c.number-3.ensures.local ∙ ap₂ with_rule turns c.number-3.ensures.rule) c.arg-3.ensures
