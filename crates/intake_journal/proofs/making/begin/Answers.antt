use Rattle.std.proofs.Common.{ℕ, ◌≤◌, List, length, ap, arith}
use Rattle.gated_file.proofs.Moments.{if_some, started, goes_on, stays}
use Rattle.intake_journal.proofs.Openings.{stays_short}
use Rattle.intake_journal.proofs.making.begin.Goals as goal

pub returns-in_err-write_at-clause-any_moment : goal.returns-in_err-write_at-clause-any_moment
returns-in_err-write_at-clause-any_moment g c = if_some (g.D.Disk.tells c.args.disk.now).bytes _ (λ b is short only.
    let tells = g.D.Disk.tells in
    let P : List ℕ → Type 0 = λ f. length f ≤ 9 in
    let d0 = tells c.args.disk.now in let d1 = tells c.write_at.new.self in
    let s0 = started P d0 (g.met.D.Disk.lawful c.args.disk.now) (λ f now. omega (arith, ap length (only f now), short)) in
    let s1 = goes_on P d0 d0 d1 s0 c.write_at.ensures.time (stays_short b d0 d1 short only c.write_at.ensures.crash) in
    s1.moments)

pub returns-clause-any_moment : goal.returns-clause-any_moment
returns-clause-any_moment g c = if_some (g.D.Disk.tells c.args.disk.now).bytes _ (λ b is short only.
    let tells = g.D.Disk.tells in
    let P : List ℕ → Type 0 = λ f. length f ≤ 9 in
    let d0 = tells c.args.disk.now in let d1 = tells c.write_at.new.self in
    let s0 = started P d0 (g.met.D.Disk.lawful c.args.disk.now) (λ f now. omega (arith, ap length (only f now), short)) in
    let s1 = goes_on P d0 d0 d1 s0 c.write_at.ensures.time (stays_short b d0 d1 short only c.write_at.ensures.crash) in
    let s2 = stays P d0 d1 (tells c.sync.new.self) s1 c.sync.ensures.time c.sync.ensures.crash in
    s2.moments)
