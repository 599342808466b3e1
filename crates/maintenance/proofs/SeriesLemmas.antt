-- Seconds of a series, by how late the tested second is.
use Rattle.std.proofs.Common.{◌≡◌, ℕ, ◌+◌, ◌-◌, ◌*◌, ◌≤◌, ◌<◌, ℤ, pos, ◌+ℤ◌, arith}
use Rattle.std.proofs.lemmas.Int.{ints}
use Rattle.maintenance.specs.Series.{IsInSeries}
use Rattle.maintenance.specs.Force.{IsWithinLength}

pub series_holds : (first : ℤ) (step since length now late times : ℕ) → first +ℤ pos (times * step + late) ≡ pos now → late < length → since + late ≤ now → IsWithinLength (IsInSeries first step since) length now
series_holds first step since length now late times e short old =
    (now - late, (omega arith, times, omega (arith, ints)), omega arith, omega arith)

pub series_late : (first : ℤ) (step since length now number late : ℕ) → first +ℤ pos number ≡ pos now → ((times : ℕ) → times * step ≤ number → times * step + late ≤ number) → IsWithinLength (IsInSeries first step since) length now → (late < length) × (since + late ≤ now)
series_late first step since length now number late e least h =
    let it = h.1.2 in
    let reached = h.2 in
    let old = h.1.0 in
    let short = h.3 in
    let far = least h.1.1 (omega (arith, ints)) in
    (omega (arith, ints), omega (arith, ints))
