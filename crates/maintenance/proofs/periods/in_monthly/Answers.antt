use Rattle.std.proofs.Common.{rules, tests, ◌≤◌, ℕ}
use Rattle.std.proofs.lemmas.Iterator.{cases_from_any, YieldsList-from_slice}
use Rattle.maintenance.specs.Days.{IsOnDay}
use Rattle.maintenance.specs.Starts.{IsMonthlyDay}
use Rattle.maintenance.specs.Force.{IsWithinLength}
use Rattle.maintenance.proofs.Anyone.{found_decides}
use Rattle.maintenance.proofs.periods.in_monthly.Goals as goal

pub returns : goal.returns
returns c =
    let a = c.args in
    let P : ℕ → Type 0 = λ month. IsWithinLength (λ s. (a.span.since ≤ s) × IsOnDay a.span.offset (IsMonthlyDay a.number month) a.at s) a.span.length a.span.now in
    found_decides P c.any.result a.months.now
    (cases_from_any _ _ _ P (λ x. P x → ⊥) c.any.ensures.ran (YieldsList-from_slice a.months.now cc) (λ x q k. search (rules, tests)) (λ x q k. search (rules, tests)))
