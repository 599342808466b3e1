use Rattle.std.proofs.Common.{◌+◌, Some, ◌≡◌, sym, subst}
use Rattle.outside.specs.Disk.{Only, overwritten}
use Rattle.gated_file.specs.Around.{IsAround}
use Rattle.gated_file.proofs.Moments.{if_some, told_of, started, goes_on, stays}
use Rattle.gated_file.proofs.Torn.{around, staged, block_crash, gate_crash}
use Rattle.gated_file.proofs.disk_calls.keep.Goals as goal

pub returns-in_err-write_at-clause-any_moment : goal.returns-in_err-write_at-clause-any_moment
returns-in_err-write_at-clause-any_moment g c = if_some (g.D.Disk.tells c.args.disk.now).bytes _ (λ b is inside only.
    let tells = g.D.Disk.tells in
    let gate = c.args.gate in let block = c.args.block.now in
    let P = IsAround b gate block in
    let d0 = tells c.args.disk.now in let d1 = tells c.write_at.new.self in
    let s0 = started P d0 (g.met.D.Disk.lawful c.args.disk.now) (λ f now. subst P (sym (only f now)) (around b gate block inside)) in
    let s1 = goes_on P d0 d0 d1 s0 c.write_at.ensures.time (block_crash b gate block inside d0 d1 only c.write_at.ensures.crash) in
    s1.moments)

pub returns-in_err-sync-clause-any_moment : goal.returns-in_err-sync-clause-any_moment
returns-in_err-sync-clause-any_moment g c = if_some (g.D.Disk.tells c.args.disk.now).bytes _ (λ b is inside only.
    let tells = g.D.Disk.tells in
    let gate = c.args.gate in let block = c.args.block.now in
    let P = IsAround b gate block in
    let d0 = tells c.args.disk.now in let d1 = tells c.write_at.new.self in
    let s0 = started P d0 (g.met.D.Disk.lawful c.args.disk.now) (λ f now. subst P (sym (only f now)) (around b gate block inside)) in
    let s1 = goes_on P d0 d0 d1 s0 c.write_at.ensures.time (block_crash b gate block inside d0 d1 only c.write_at.ensures.crash) in
    let s2 = stays P d0 d1 (tells c.sync.new.self) s1 c.sync.ensures.time c.sync.ensures.crash in
    s2.moments)

pub returns-in_err-write_at-2-clause-any_moment : goal.returns-in_err-write_at-2-clause-any_moment
returns-in_err-write_at-2-clause-any_moment g c = if_some (g.D.Disk.tells c.args.disk.now).bytes _ (λ b is inside only.
    let tells = g.D.Disk.tells in
    let gate = c.args.gate in let block = c.args.block.now in
    let P = IsAround b gate block in
    let d0 = tells c.args.disk.now in let d1 = tells c.write_at.new.self in
    let s0 = started P d0 (g.met.D.Disk.lawful c.args.disk.now) (λ f now. subst P (sym (only f now)) (around b gate block inside)) in
    let s1 = goes_on P d0 d0 d1 s0 c.write_at.ensures.time (block_crash b gate block inside d0 d1 only c.write_at.ensures.crash) in
    let s2 = stays P d0 d1 (tells c.sync.new.self) s1 c.sync.ensures.time c.sync.ensures.crash in
    let holds : d1.bytes ≡ Some (staged b gate block inside) = told_of d0.bytes b (λ f. d1.bytes ≡ Some (overwritten f (gate + 1) block)) is c.in_ok-write_at.ensures.written in
    let durable = told_of d1.bytes (staged b gate block inside) (λ f. Only f (tells c.sync.new.self)) holds c.in_ok-sync.ensures.durable in
    let s3 = goes_on P d0 (tells c.sync.new.self) (tells c.write_at-2.new.self) s2 c.write_at-2.ensures.time (gate_crash b gate block inside (tells c.sync.new.self) (tells c.write_at-2.new.self) durable c.write_at-2.ensures.crash) in
    s3.moments)

pub returns-clause-any_moment : goal.returns-clause-any_moment
returns-clause-any_moment g c = if_some (g.D.Disk.tells c.args.disk.now).bytes _ (λ b is inside only.
    let tells = g.D.Disk.tells in
    let gate = c.args.gate in let block = c.args.block.now in
    let P = IsAround b gate block in
    let d0 = tells c.args.disk.now in let d1 = tells c.write_at.new.self in
    let s0 = started P d0 (g.met.D.Disk.lawful c.args.disk.now) (λ f now. subst P (sym (only f now)) (around b gate block inside)) in
    let s1 = goes_on P d0 d0 d1 s0 c.write_at.ensures.time (block_crash b gate block inside d0 d1 only c.write_at.ensures.crash) in
    let s2 = stays P d0 d1 (tells c.sync.new.self) s1 c.sync.ensures.time c.sync.ensures.crash in
    let holds : d1.bytes ≡ Some (staged b gate block inside) = told_of d0.bytes b (λ f. d1.bytes ≡ Some (overwritten f (gate + 1) block)) is c.in_ok-write_at.ensures.written in
    let durable = told_of d1.bytes (staged b gate block inside) (λ f. Only f (tells c.sync.new.self)) holds c.in_ok-sync.ensures.durable in
    let s3 = goes_on P d0 (tells c.sync.new.self) (tells c.write_at-2.new.self) s2 c.write_at-2.ensures.time (gate_crash b gate block inside (tells c.sync.new.self) (tells c.write_at-2.new.self) durable c.write_at-2.ensures.crash) in
    let s4 = stays P d0 (tells c.write_at-2.new.self) (tells c.sync-2.new.self) s3 c.sync-2.ensures.time c.sync-2.ensures.crash in
    s4.moments)
