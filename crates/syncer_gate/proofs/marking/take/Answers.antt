use Rattle.std.proofs.Common.{◌≡◌, ◌+◌, ◌-◌, ◌∙◌, ◌∷◌, ◌==◌, inl, inr, drop, take, get_or, refl, sym, ap, arith, add-one, eqb-true, length-set}
use Rattle.std.proofs.Math.Seq.{drop-cons}
use Rattle.std.proofs.lemmas.Bool.{or_cases}
use Rattle.std.proofs.lemmas.List.Folds.{list_any_more}
use Rattle.zbx_types.specs.Masters.{has_id}
use Rattle.syncer_gate.specs.declared.marks.Mark.TheVariants.{Taken}
use Rattle.syncer_gate.specs.Gate.{with_taken}
use Rattle.syncer_gate.proofs.AnyLemmas.{has_at, drop_past}
use Rattle.syncer_gate.proofs.MarkLemmas.{taken_none, taken_one}
use Rattle.syncer_gate.proofs.marking.take.Goals as goal

pub overflow_sub-place : goal.overflow_sub-place
overflow_sub-place c = (c.requires _ (has_at c.args.numbers.now c.loop-number.number-index c.loop-number-test.true)).0

pub index_mut-requires : goal.index_mut-requires
index_mut-requires c =
    let r = c.requires _ (has_at c.args.numbers.now c.loop-number.number-index c.loop-number-test.true) in
    let s = c.loop-number.invariant.size in
    omega (arith, r.0, r.1)

pub overflow_add-place : goal.overflow_add-place
overflow_add-place c =
    let r = c.requires _ (has_at c.args.numbers.now c.loop-number.number-index c.loop-number-test.true) in
    let s = c.loop-number.invariant.size in
    omega (arith, r.0, r.1)

pub loop-number-preserved : goal.loop-number-preserved
loop-number-preserved c =
    let ns = c.args.numbers.now in
    let i = c.loop-number.number-index in
    let x = get_or ns i 0 in
    let r = c.requires x (has_at ns i c.loop-number-test.true) in
    let inv = c.loop-number.invariant in
    let tail : drop i ns ≡ x ∷ drop (i + 1) ns = drop-cons ns i 0 c.loop-number-test.true ∙ rw add-one refl in
    record {
      size = length-set c.loop-number.marks.items (x - c.args.first) (Taken c.args.id) ∙ inv.size;
      marks =
          taken_one c.args.id x c.args.first (drop (i + 1) ns) c.loop-number.marks.items r.0
          ∙ ap (λ ids. with_taken c.args.id ids c.args.first c.loop-number.marks.items) (sym tail)
          ∙ inv.marks;
      high = omega (arith, c.max-end.ensures, inv.high);
      above = λ n h. elim (or_cases (has_id (take i ns) n) (x == n) (sym (list_any_more (λ y. y == n) ns i 0 c.loop-number-test.true) ∙ h)) [
        | inl before ↦ let b = inv.above n before in omega (arith, c.max-end.ensures)
        | inr here ↦ let q = eqb-true x n here in omega (arith, c.max-end.ensures, r.0)
      ];
      inside = λ h. let b = inv.inside h in let s = inv.size in omega (arith, c.max-end.ensures, r.0, r.1);
    }

pub returns-clause-marks : goal.returns-clause-marks
returns-clause-marks c =
    sym (ap (λ ids. with_taken c.args.id ids c.args.first c.loop-number.marks.items) (drop_past c.loop-number.number-index c.args.numbers.now (omega arith)) ∙ taken_none c.args.id c.args.first c.loop-number.marks.items)
    ∙ c.loop-number.invariant.marks
