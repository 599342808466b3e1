use Rattle.std.proofs.Common.{◌∙◌, ap₂}
use Rattle.std.proofs.lemmas.Result.{IfOk-weaker}
use Rattle.clap.specs.Words.{with_rule}
use Rattle.server_words.proofs.command.text_command.Goals as goal

pub returns : goal.returns
returns c =
    let progress = c.in_ok-arg.ensures.shape c.option.ensures.local ∙ ap₂ with_rule c.in_ok-input_command.ensures c.option.ensures.rule in
    let command = c.in_ok-arg-2.ensures.shape c.option-2.ensures.local ∙ ap₂ with_rule progress c.option-2.ensures.rule in
    let media = c.in_ok-arg-3.ensures.shape c.option-3.ensures.local ∙ ap₂ with_rule command c.option-3.ensures.rule in
    let into = c.in_ok-arg-4.ensures.shape c.option-4.ensures.local ∙ ap₂ with_rule media c.option-4.ensures.rule in
    IfOk-weaker c.arg-5.result _ _ (λ made adds. adds.shape c.with_default.ensures.local ∙ ap₂ with_rule into c.with_default.ensures.rule) c.arg-5.ensures
