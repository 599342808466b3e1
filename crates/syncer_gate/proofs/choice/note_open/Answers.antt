use Rattle.std.proofs.Common.{◌≡◌, ◌||◌, ◌∙◌, [], sym, ap, arith, drop}
use Rattle.footprint.specs.Feet.{told_by}
use Rattle.syncer_gate.specs.Chosen.{opens, conflicts_with}
use Rattle.syncer_gate.specs.Stamped.{meets}
use Rattle.syncer_gate.proofs.AnyLemmas.{or_false}
use Rattle.syncer_gate.proofs.ChoiceLemmas.{opens_done, opens_waiting}
use Rattle.syncer_gate.proofs.MarkLemmas.{dropped_waiting}
use Rattle.syncer_gate.proofs.choice.note_open.Goals as goal

pub loop-place-init : goal.loop-place-init
loop-place-init c = λ e.
    ap (λ b. b || conflicts_with (told_by c.args.feet.now) (opens (drop c.args.low c.args.marks.now) (drop c.args.low c.args.entries.now)) e) (c.clear.ensures (told_by c.args.feet.now) e)
    ∙ ap (λ es. conflicts_with (told_by c.args.feet.now) es e) (opens_done c.args.low c.args.marks.now c.args.entries.now c.requires.size c.requires.done)

pub returns : goal.returns
returns c = λ e.
    let p = c.loop-place.place in
    let none : opens (drop p c.args.marks.now) (drop p c.args.entries.now) ≡ [] = opens_waiting (drop p c.args.marks.now) (drop p c.args.entries.now) (dropped_waiting c.args.high p c.args.marks.now c.requires.waiting (omega (arith, c.loop-place-test.false))) in
    sym (or_false (meets (told_by c.args.feet.now) c.loop-place.touched e))
    ∙ sym (ap (λ es. meets (told_by c.args.feet.now) c.loop-place.touched e || conflicts_with (told_by c.args.feet.now) es e) none)
    ∙ c.loop-place.invariant e
