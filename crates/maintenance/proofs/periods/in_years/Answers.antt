use Rattle.std.proofs.Common.{◌≡◌, ◌≤◌, pos, ◌+ℤ◌, ◌≤ℤ◌, ◌<ℤ◌, to_z, of_z, w16, refl, sym, ◌∙◌, arith}
use Rattle.std.proofs.lemmas.Int.{ints}
use Rattle.std.proofs.lemmas.Bool.{false≢true}
use Rattle.maintenance.specs.Days.{IsOnDay}
use Rattle.local_time.specs.Dates.{IsDayIn}
use Rattle.maintenance.specs.Force.{IsWithinLength}
use Rattle.maintenance.proofs.MonthLemmas.{none_before_next}
use Rattle.maintenance.proofs.periods.in_years.Goals as goal

pub returns-then-in_year : goal.returns-then-in_year
returns-then-in_year c =
    let a = c.args in
    let begun = c.loop-year.invariant.begun in
    let low : a.first ≤ℤ to_z w16 c.loop-year.year-bits = omega (arith, ints) in
    let test = c.loop-year-test.true in
    let high : to_z w16 c.loop-year.year-bits <ℤ a.end = grind (arith, ints) in
    let holds = c.in_year.ensures.0 c.if-in_year.true in
    (λ t. (to_z w16 c.loop-year.year-bits, low, high, holds), λ w. refl)

pub loop-year-preserved : goal.loop-year-preserved
loop-year-preserved c =
    let a = c.args in
    let test = c.loop-year-test.true in
    let high : to_z w16 c.loop-year.year-bits <ℤ a.end = grind (arith, ints) in
    let next : to_z w16 (of_z w16 (to_z w16 c.loop-year.year-bits +ℤ pos 1)) ≡ to_z w16 c.loop-year.year-bits +ℤ pos 1 = omega (arith, ints) in
    let begun = c.loop-year.invariant.begun in
    record {
      begun = omega (arith, ints);
      none = none_before_next (λ y. IsWithinLength (λ s. (a.span.since ≤ s) × IsOnDay a.span.offset (IsDayIn y a.month a.number) a.at s) a.span.length a.span.now)
          _ (to_z w16 c.loop-year.year-bits) _ c.loop-year.invariant.none
          (λ p. false≢true (sym c.if-in_year.false ∙ c.in_year.ensures.1 p)) next;
    }

pub returns : goal.returns
returns c =
    let a = c.args in
    let none = c.loop-year.invariant.none in
    let test = c.loop-year-test.false in (
      λ t. absurd (false≢true t),
      λ w.
          let below = w.1 in
          let above = w.2 in
          let high : w.0 <ℤ to_z w16 c.loop-year.year-bits = grind (arith, ints) in
          let low : to_z w16 (of_z w16 a.first) ≤ℤ w.0 = omega (arith, ints) in
          absurd (none w.0 low high w.3),
    )
