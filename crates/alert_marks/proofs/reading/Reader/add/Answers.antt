use Rattle.std.proofs.Common.{◌∙◌, ◌++◌, ◌∷◌, [], Bool, sym, ap}
use Rattle.std.specs.Prelude.{if◌then◌else◌}
use Rattle.alert_marks.proofs.Once.{met_more}
use Rattle.alert_marks.proofs.reading.Reader.add.Goals as goal

pub returns-clause-met : goal.returns-clause-met
returns-clause-met c some met =
    let old = c.args.self.now in let note = c.args.mark.note in
    met_more old (record { list = c.push.new.self; seen = c.meet.new.self; gate = old.gate; is_numbered = old.is_numbered }) c.args.mark
    (sym c.if-not-branch.false ∙ c.in_ok-meet.ensures.first)
    (c.in_ok-meet.ensures.met ∙ ap (λ (b : Bool). if b then old.seen ++ note ∷ [] else old.seen) c.if-not-branch.false)
    (c.push.ensures.items ∙ ap (λ l. l ++ c.args.mark ∷ []) c.in_ok-reserve.ensures.items)
    some met
