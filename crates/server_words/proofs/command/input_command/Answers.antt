use Rattle.std.proofs.Common.{◌≡◌, ◌∙◌, ap, ap₂}
use Rattle.std.specs.Prelude.{true}
use Rattle.std.proofs.lemmas.Result.{IfOk-weaker}
use Rattle.clap.specs.Words.{App, app_of, with_rule}
use Rattle.clap.specs.Simple.{app_of_fields}
use Rattle.server_words.specs.Words.{bare_app}
use Rattle.server_words.proofs.command.input_command.Goals as goal

pub returns : goal.returns
returns c =
    let bare : app_of c.no_binary_name.result ≡ bare_app =
    ap app_of_fields c.no_binary_name.ensures ∙ ap (λ (a : App). record a { top = record a.top { no_binary_name = true } }) c.new.ensures.app in
    let mode = c.in_ok-arg.ensures.shape c.needed.ensures.local ∙ ap₂ with_rule bare c.needed.ensures.rule in
    let config = c.in_ok-arg-2.ensures.shape c.option.ensures.local ∙ ap₂ with_rule mode c.option.ensures.rule in
    let listen = c.in_ok-arg-3.ensures.shape c.option-2.ensures.local ∙ ap₂ with_rule config c.option-2.ensures.rule in
    let script = c.in_ok-arg-4.ensures.shape c.option-3.ensures.local ∙ ap₂ with_rule listen c.option-3.ensures.rule in
    IfOk-weaker c.arg-5.result _ _ (λ made adds. adds.shape c.option-4.ensures.local ∙ ap₂ with_rule script c.option-4.ensures.rule) c.arg-5.ensures
