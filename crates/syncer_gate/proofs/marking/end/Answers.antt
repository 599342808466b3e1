use Rattle.std.proofs.Common.{◌≡◌, ◌≢◌, ◌<◌, ◌∙◌, inl, inr, ℕ, false, length, get_or, sym, ap, arith, below_more, length-set, get_or-set_other, get_or-set_same}
use Rattle.std.proofs.Math.Seq.{map-set_same}
use Rattle.std.proofs.lemmas.Bool.{cases_lt}
use Rattle.syncer_gate.specs.declared.marks.Mark.TheVariants.{Pending}
use Rattle.syncer_gate.specs.Marks.{is_taken, ended}
use Rattle.syncer_gate.proofs.AnyLemmas.{get_any}
use Rattle.syncer_gate.proofs.MarkLemmas.{ended_none, ended_twice, ended_other}
use Rattle.syncer_gate.proofs.marking.end.Goals as goal

pub loop-place-preserved : goal.loop-place-preserved
loop-place-preserved c =
    let inv = c.loop-place.invariant in
    let ms = c.loop-place.marks.items in
    let p = c.loop-place.place in
    let l : p < length ms = omega (arith, inv.size, c.requires.inside, c.loop-place-test.true) in
    let at : c.index.result.now ≡ get_or ms p Pending = c.index.ensures ∙ get_any ms p c.index.result.now Pending l in
    let is : c.ended.result ≡ ended c.args.id c.args.to (get_or ms p Pending) = c.ended.ensures ∙ ap (ended c.args.id c.args.to) at in
    record {
      size = length-set ms p c.ended.result ∙ inv.size;
      marks =
          map-set_same (ended c.args.id c.args.to) ms p c.ended.result Pending (ap (ended c.args.id c.args.to) is ∙ ended_twice c.args.id c.args.to (get_or ms p Pending) c.requires.other)
          ∙ inv.marks;
      none = below_more _ _
          (λ i h. let ne : i ≢ p = omega arith in ap (is_taken c.args.id) (get_or-set_other ms p i c.ended.result Pending ne) ∙ inv.none i h)
          (ap (is_taken c.args.id) (get_or-set_same ms p c.ended.result Pending l ∙ is) ∙ ended_other c.args.id c.args.to (get_or ms p Pending) c.requires.other);
      waiting = λ i h. let ne : i ≢ p = omega (arith, c.loop-place-test.true) in get_or-set_other ms p i c.ended.result Pending ne ∙ inv.waiting i h;
    }

pub returns : goal.returns
returns c =
    let inv = c.loop-place.invariant in
    let ms = c.loop-place.marks.items in
    let none : (i : ℕ) → i < length ms → is_taken c.args.id (get_or ms i Pending) ≡ false = λ i h. elim (cases_lt i c.loop-place.place) [
      | inl l ↦ inv.none i l
      | inr g ↦ ap (is_taken c.args.id) (inv.waiting i (omega (arith, c.loop-place-test.false)))
    ] in
    sym (ended_none c.args.id c.args.to ms none) ∙ inv.marks
