use Rattle.std.proofs.Common.{◌≡◌, ◌+◌, ◌∙◌, sym, rules}
use Rattle.outside.proofs.OtherLemmas.{none_left}
use Rattle.outside.proofs.others.first_other.Goals as goal

pub returns-clause-place : goal.returns-clause-place
returns-clause-place c =
    let at_end : c.loop-i.i ≡ c.min-shorter.result = search rules in
    sym (c.loop-i.invariant ∙ none_left (c.args.at + c.loop-i.i) c.loop-i.i c.min-shorter.result c.args.bytes.now c.args.held.now at_end c.min-shorter.ensures)
