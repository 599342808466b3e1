use Rattle.std.proofs.Common.{◌∷◌, [], ◌∙◌, sym}
use Rattle.expr_parser.proofs.SlotViews.{begins_append}
use Rattle.expr_parser.specs.Machine.{names}
use Rattle.zbx_types.specs.declared.calls.Fun.TheVariants as fun
use Rattle.expr_parser.proofs.names.begins_second.Goals as goal

pub returns : goal.returns
returns c = c.begins_either.ensures ∙ sym (begins_append (names (fun.Percentile ∷ fun.ChangeCount ∷ fun.MonoInc ∷ fun.MonoDec ∷ [])) (names (fun.Now ∷ fun.Time ∷ fun.Date ∷ fun.DayOfWeek ∷ fun.DayOfMonth ∷ [])) c.args.text.now)
