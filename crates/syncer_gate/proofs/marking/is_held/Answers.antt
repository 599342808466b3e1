use Rattle.std.proofs.Common.{◌≡◌, ◌∙◌, ◌+◌, [], sym, ap, arith, drop}
use Rattle.syncer_gate.specs.Gate.{held_by, same_numbers}
use Rattle.syncer_gate.proofs.MarkLemmas.{held_done, held_past, same_none}
use Rattle.syncer_gate.proofs.marking.is_held.Goals as goal

pub loop-place-init : goal.loop-place-init
loop-place-init c = ap (same_numbers c.args.numbers.now) (held_done c.args.id c.args.first c.args.low c.args.marks.now c.requires.done)

pub returns : goal.returns
returns c =
    let e : held_by c.args.id (c.args.first + c.loop-place.place) (drop c.loop-place.place c.args.marks.now) ≡ [] = held_past c.args.id (c.args.first + c.loop-place.place) c.args.high c.loop-place.place c.args.marks.now c.requires.waiting (omega arith) in
    c.is_empty.ensures ∙ sym (same_none c.loop-place.rest.now) ∙ sym (ap (same_numbers c.loop-place.rest.now) e) ∙ c.loop-place.invariant
