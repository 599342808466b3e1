use Rattle.std.proofs.Common.{ℤ, ◌≤◌, ◌≤ℤ◌, ◌<ℤ◌}
use Rattle.maintenance.specs.Days.{IsOnDay}
use Rattle.local_time.specs.Dates.{IsDayIn}
use Rattle.maintenance.specs.Force.{IsWithinLength}
use Rattle.maintenance.proofs.periods.in_years.Given as goal

abbrev pub invariant-loop-year : goal.invariant-loop-year
invariant-loop-year l = record {
  begun : l.first ≤ℤ l.year;
  none : (year : ℤ) → l.first ≤ℤ year → year <ℤ l.year → IsWithinLength (λ s. (l.span.since ≤ s) × IsOnDay l.span.offset (IsDayIn year l.month l.number) l.at s) l.span.length l.span.now → ⊥;
}
