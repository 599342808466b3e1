use Rattle.std.proofs.Common.{◌∙◌, ap, ◌≡◌, true, false}
use Rattle.std.proofs.lemmas.Str.{IsUtf8-string_bytes}
use Rattle.std.specs.String.{string_bytes}
use Rattle.expr_parser.proofs.SlotViews.{text_some, text_none}
use Rattle.expr_parser.proofs.call_bytes.as_text.Goals as goal

pub returns-in-Ok : goal.returns-in-Ok
returns-in-Ok c = text_some c.args.bytes (string_bytes c.in-Ok.text) c.from.result (ap (λ v. v.items) c.in-Ok.ensures.ok ∙ c.into_vec.ensures) (IsUtf8-string_bytes c.in-Ok.text) c.from.ensures

pub returns : goal.returns
returns c = text_none c.args.bytes c.into_vec.result.items c.into_vec.ensures (λ u. let h : false ≡ true = c.in-Err.ensures.succeeds u in cc)
