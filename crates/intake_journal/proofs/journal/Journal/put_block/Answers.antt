use Rattle.std.proofs.Common.{◌≡◌, ◌≢◌, false, ℕ, ◌+◌, ◌-◌, ◌≤◌, ◌∙◌, length, IfSome, sym, ap, subst, arith}
use Rattle.outside.specs.Disk.{LeavesOnly}
use Rattle.intake_journal.specs.Kept.{longest_journal, kept, groups_of, base_in}
use Rattle.intake_journal.specs.Settled.{IsWithin, IsSettled}
use Rattle.intake_journal.specs.Block.{opened_bytes, added_all, KeepsNoneOrAll, passes_with_all}
use Rattle.intake_journal.specs.declared.state.State.TheVariants.{Reading, Broken}
use Rattle.intake_journal.proofs.Adding.{ready_of, settled_of}
use Rattle.intake_journal.proofs.Blocks.{count_all_small}
use Rattle.intake_journal.proofs.Room.{room_within}
use Rattle.intake_journal.proofs.AddingAll.{kept_after_all, base_after_all, ready_after_all, moments_after_all, base_moments_all}
use Rattle.intake_journal.proofs.journal.Journal.put_block.Goals as goal

pub returns-in-Ok-clause-kept : goal.returns-in-Ok-clause-kept
returns-in-Ok-clause-kept g c =
    let tells = g.D.Disk.tells in
    let j = c.self.inside in let old = tells j.disk in let new = tells c.keep.new.disk in let groups = c.args.block.now in
    let read : j.state ≢ Reading = λ e. c.requires.read (sym (ap (λ v. v.state) c.self.view_is) ∙ e) in
    let going : j.state ≢ Broken = λ e. c.requires.going (sym (ap (λ v. v.state) c.self.view_is) ∙ e) in
    let within : j.at + length (opened_bytes groups) + 1 ≤ longest_journal =
    room_within j.at j.entries j.max_entries j.max_bytes groups (subst (λ v. passes_with_all v groups ≡ false) (sym c.self.view_is) c.requires.room) c.self.invariant.0.2 in
    let readable = c.behind_gate.ensures.readable in
    let shape = c.behind_gate.ensures.shape in
    let ready = ready_of j.state old j.first j.at j.entries read going c.self.invariant.1 in
    let done = kept_after_all old new j.first j.at j.entries groups readable within ready c.behind_gate.result.now shape c.in-Ok.ensures.kept in
    subst (λ v. IfSome (tells v.disk).bytes (λ b. IfSome new.bytes (λ f. groups_of (kept f) ≡ added_all v.at groups (groups_of (kept b))))) c.self.view_is done

-- behind the groups the journal is as before them
pub invariant_of-self : goal.invariant_of-self
invariant_of-self g c =
    let tells = g.D.Disk.tells in
    let j = c.self.inside in let old = tells j.disk in let new = tells c.keep.new.disk in let groups = c.args.block.now in
    let read : j.state ≢ Reading = λ e. c.requires.read (sym (ap (λ v. v.state) c.self.view_is) ∙ e) in
    let going : j.state ≢ Broken = λ e. c.requires.going (sym (ap (λ v. v.state) c.self.view_is) ∙ e) in
    let within : j.at + length (opened_bytes groups) + 1 ≤ longest_journal =
    room_within j.at j.entries j.max_entries j.max_bytes groups (subst (λ v. passes_with_all v groups ≡ false) (sym c.self.view_is) c.requires.room) c.self.invariant.0.2 in
    let readable = c.behind_gate.ensures.readable in
    let shape = c.behind_gate.ensures.shape in
    let ready = ready_of j.state old j.first j.at j.entries read going c.self.invariant.1 in
    let done = ready_after_all old new j.first j.at j.entries groups readable within ready c.behind_gate.result.now shape c.in-Ok.ensures.kept c.keep.ensures.told c.in-Ok.ensures.durable in
    let place : j.at + length (opened_bytes groups) ≡ j.at + (c.size.result - 1) = omega (arith, c.size.ensures.value) in
    let small : IsWithin (j.at + (c.size.result - 1)) (j.entries + c.entries.result) j.max_bytes =
    (omega (arith, within, place), omega (arith, c.self.invariant.0.1, count_all_small groups, c.entries.ensures.value, place), c.self.invariant.0.2) in
    let settled = settled_of j.state new j.first _ _ read done in
    let counted = subst (λ (n : ℕ). IsSettled j.state new j.first (j.at + length (opened_bytes groups)) (j.entries + n)) (sym c.entries.ensures.value) settled in
    (small, subst (λ (n : ℕ). IsSettled j.state new j.first n (j.entries + c.entries.result)) place counted, λ e. absurd (read e))

pub returns-in-Ok-clause-any_moment : goal.returns-in-Ok-clause-any_moment
returns-in-Ok-clause-any_moment g c =
    let tells = g.D.Disk.tells in
    let j = c.self.inside in let old = tells j.disk in let new = tells c.keep.new.disk in let groups = c.args.block.now in
    let read : j.state ≢ Reading = λ e. c.requires.read (sym (ap (λ v. v.state) c.self.view_is) ∙ e) in
    let going : j.state ≢ Broken = λ e. c.requires.going (sym (ap (λ v. v.state) c.self.view_is) ∙ e) in
    let within : j.at + length (opened_bytes groups) + 1 ≤ longest_journal =
    room_within j.at j.entries j.max_entries j.max_bytes groups (subst (λ v. passes_with_all v groups ≡ false) (sym c.self.view_is) c.requires.room) c.self.invariant.0.2 in
    let readable = c.behind_gate.ensures.readable in
    let shape = c.behind_gate.ensures.shape in
    let ready = ready_of j.state old j.first j.at j.entries read going c.self.invariant.1 in
    let around = moments_after_all old new j.first j.at j.entries groups readable within ready c.behind_gate.result.now shape c.keep.ensures.any_moment in
    subst (λ v. IfSome (tells v.disk).bytes (λ b. LeavesOnly (tells v.disk) new (KeepsNoneOrAll (groups_of (kept b)) v.at groups))) c.self.view_is around

pub returns-in-Err-clause-any_moment : goal.returns-in-Err-clause-any_moment
returns-in-Err-clause-any_moment g c =
    let tells = g.D.Disk.tells in
    let j = c.self.inside in let old = tells j.disk in let new = tells c.keep.new.disk in let groups = c.args.block.now in
    let read : j.state ≢ Reading = λ e. c.requires.read (sym (ap (λ v. v.state) c.self.view_is) ∙ e) in
    let going : j.state ≢ Broken = λ e. c.requires.going (sym (ap (λ v. v.state) c.self.view_is) ∙ e) in
    let within : j.at + length (opened_bytes groups) + 1 ≤ longest_journal =
    room_within j.at j.entries j.max_entries j.max_bytes groups (subst (λ v. passes_with_all v groups ≡ false) (sym c.self.view_is) c.requires.room) c.self.invariant.0.2 in
    let readable = c.behind_gate.ensures.readable in
    let shape = c.behind_gate.ensures.shape in
    let ready = ready_of j.state old j.first j.at j.entries read going c.self.invariant.1 in
    let around = moments_after_all old new j.first j.at j.entries groups readable within ready c.behind_gate.result.now shape c.keep.ensures.any_moment in
    subst (λ v. IfSome (tells v.disk).bytes (λ b. LeavesOnly (tells v.disk) new (KeepsNoneOrAll (groups_of (kept b)) v.at groups))) c.self.view_is around

pub returns-in-Ok-clause-same_base : goal.returns-in-Ok-clause-same_base
returns-in-Ok-clause-same_base g c =
    let tells = g.D.Disk.tells in
    let j = c.self.inside in let old = tells j.disk in let new = tells c.keep.new.disk in let groups = c.args.block.now in
    let read : j.state ≢ Reading = λ e. c.requires.read (sym (ap (λ v. v.state) c.self.view_is) ∙ e) in
    let going : j.state ≢ Broken = λ e. c.requires.going (sym (ap (λ v. v.state) c.self.view_is) ∙ e) in
    let within : j.at + length (opened_bytes groups) + 1 ≤ longest_journal =
    room_within j.at j.entries j.max_entries j.max_bytes groups (subst (λ v. passes_with_all v groups ≡ false) (sym c.self.view_is) c.requires.room) c.self.invariant.0.2 in
    let readable = c.behind_gate.ensures.readable in
    let shape = c.behind_gate.ensures.shape in
    let ready = ready_of j.state old j.first j.at j.entries read going c.self.invariant.1 in
    let done = base_after_all old new j.first j.at j.entries groups readable within ready c.behind_gate.result.now shape c.in-Ok.ensures.kept in
    subst (λ v. IfSome (tells v.disk).bytes (λ b. IfSome new.bytes (λ f. base_in f ≡ base_in b))) c.self.view_is done

pub returns-in-Ok-clause-base_at_any_moment : goal.returns-in-Ok-clause-base_at_any_moment
returns-in-Ok-clause-base_at_any_moment g c =
    let tells = g.D.Disk.tells in
    let j = c.self.inside in let old = tells j.disk in let new = tells c.keep.new.disk in let groups = c.args.block.now in
    let read : j.state ≢ Reading = λ e. c.requires.read (sym (ap (λ v. v.state) c.self.view_is) ∙ e) in
    let going : j.state ≢ Broken = λ e. c.requires.going (sym (ap (λ v. v.state) c.self.view_is) ∙ e) in
    let within : j.at + length (opened_bytes groups) + 1 ≤ longest_journal =
    room_within j.at j.entries j.max_entries j.max_bytes groups (subst (λ v. passes_with_all v groups ≡ false) (sym c.self.view_is) c.requires.room) c.self.invariant.0.2 in
    let readable = c.behind_gate.ensures.readable in
    let shape = c.behind_gate.ensures.shape in
    let ready = ready_of j.state old j.first j.at j.entries read going c.self.invariant.1 in
    let around = base_moments_all old new j.first j.at j.entries groups readable within ready c.behind_gate.result.now shape c.keep.ensures.any_moment in
    subst (λ v. IfSome (tells v.disk).bytes (λ b. LeavesOnly (tells v.disk) new (λ f. base_in f ≡ base_in b))) c.self.view_is around

pub returns-in-Err-clause-base_at_any_moment : goal.returns-in-Err-clause-base_at_any_moment
returns-in-Err-clause-base_at_any_moment g c =
    let tells = g.D.Disk.tells in
    let j = c.self.inside in let old = tells j.disk in let new = tells c.keep.new.disk in let groups = c.args.block.now in
    let read : j.state ≢ Reading = λ e. c.requires.read (sym (ap (λ v. v.state) c.self.view_is) ∙ e) in
    let going : j.state ≢ Broken = λ e. c.requires.going (sym (ap (λ v. v.state) c.self.view_is) ∙ e) in
    let within : j.at + length (opened_bytes groups) + 1 ≤ longest_journal =
    room_within j.at j.entries j.max_entries j.max_bytes groups (subst (λ v. passes_with_all v groups ≡ false) (sym c.self.view_is) c.requires.room) c.self.invariant.0.2 in
    let readable = c.behind_gate.ensures.readable in
    let shape = c.behind_gate.ensures.shape in
    let ready = ready_of j.state old j.first j.at j.entries read going c.self.invariant.1 in
    let around = base_moments_all old new j.first j.at j.entries groups readable within ready c.behind_gate.result.now shape c.keep.ensures.any_moment in
    subst (λ v. IfSome (tells v.disk).bytes (λ b. LeavesOnly (tells v.disk) new (λ f. base_in f ≡ base_in b))) c.self.view_is around
