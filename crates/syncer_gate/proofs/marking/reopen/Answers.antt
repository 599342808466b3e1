use Rattle.std.proofs.Common.{◌≡◌, ◌≢◌, ◌<◌, ◌∙◌, inl, inr, ℕ, length, get_or, refl, sym, ap, arith, below_more, length-set, get_or-set_other, get_or-set_same}
use Rattle.std.proofs.Math.Seq.{map-set_same}
use Rattle.std.proofs.lemmas.Bool.{cases_lt}
use Rattle.syncer_gate.specs.declared.marks.Mark.TheVariants.{Pending}
use Rattle.syncer_gate.specs.Marks.{reopened}
use Rattle.syncer_gate.proofs.AnyLemmas.{get_any}
use Rattle.syncer_gate.proofs.MarkLemmas.{done_reopened, reopened_none, reopened_twice}
use Rattle.syncer_gate.proofs.marking.reopen.Goals as goal

pub loop-place-init : goal.loop-place-init
loop-place-init c = record { size = refl; marks = refl; none = done_reopened c.args.low c.args.marks.now.items c.requires.done; waiting = c.requires.waiting }

pub loop-place-preserved : goal.loop-place-preserved
loop-place-preserved c =
    let inv = c.loop-place.invariant in
    let ms = c.loop-place.marks.items in
    let p = c.loop-place.place in
    let l : p < length ms = omega (arith, inv.size, c.requires.inside, c.loop-place-test.true) in
    let at : c.index.result.now ≡ get_or ms p Pending = c.index.ensures ∙ get_any ms p c.index.result.now Pending l in
    let is : c.reopened.result ≡ reopened (get_or ms p Pending) = c.reopened.ensures ∙ ap reopened at in
    record {
      size = length-set ms p c.reopened.result ∙ inv.size;
      marks =
          map-set_same reopened ms p c.reopened.result Pending (ap reopened is ∙ reopened_twice (get_or ms p Pending))
          ∙ inv.marks;
      none = below_more _ _
          (λ i h. let ne : i ≢ p = omega arith in ap reopened (get_or-set_other ms p i c.reopened.result Pending ne) ∙ inv.none i h ∙ sym (get_or-set_other ms p i c.reopened.result Pending ne))
          (ap reopened (get_or-set_same ms p c.reopened.result Pending l ∙ is) ∙ reopened_twice (get_or ms p Pending) ∙ sym is ∙ sym (get_or-set_same ms p c.reopened.result Pending l));
      waiting = λ i h. let ne : i ≢ p = omega (arith, c.loop-place-test.true) in get_or-set_other ms p i c.reopened.result Pending ne ∙ inv.waiting i h;
    }

pub returns : goal.returns
returns c =
    let inv = c.loop-place.invariant in
    let ms = c.loop-place.marks.items in
    let none : (i : ℕ) → i < length ms → reopened (get_or ms i Pending) ≡ get_or ms i Pending = λ i h. elim (cases_lt i c.loop-place.place) [
      | inl l ↦ inv.none i l
      | inr g ↦ let w = inv.waiting i (omega (arith, c.loop-place-test.false)) in ap reopened w ∙ sym w
    ] in
    sym (reopened_none ms none) ∙ inv.marks
