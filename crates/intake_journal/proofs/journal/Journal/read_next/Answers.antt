use Rattle.std.proofs.Common.{◌≡◌, ◌≢◌, ℕ, ◌+◌, ◌∙◌, List, [], length, Option, IfSome, sym, ap, subst, arith, rules}
use Rattle.zbx_types.specs.declared.entries.Entry.{Entry}
use Rattle.intake_journal.specs.Kept.{Groups, Damaged, with_group, kept_from}
use Rattle.intake_journal.specs.Ahead.{IsAhead}
use Rattle.intake_journal.specs.Found.{IsFound}
use Rattle.intake_journal.specs.Settled.{IsSettled, IsWithin}
use Rattle.intake_journal.specs.declared.format.Group.{Group}
use Rattle.intake_journal.specs.declared.reading.Found.TheVariants.{End, Damage, Next}
use Rattle.intake_journal.specs.declared.state.State.TheVariants.{Ready, Broken}
use Rattle.intake_journal.proofs.Steps.{still_reading, end_kept, damage_kept, next_kept, told_both, settled_next, ready_kept, still_alike, ready_alike, further_alike, set_ready}
use Rattle.intake_journal.proofs.journal.Journal.read_next.Goals as goal

pub returns-then-eq-2-clause-next : goal.returns-then-eq-2-clause-next
returns-then-eq-2-clause-next g c =
    let j = c.self.inside in
    let ready : j.state ≡ Ready = search rules in
    let nothing = ready_kept j.state (g.D.Disk.tells j.disk) j.first j.at j.entries c.self.invariant.1 ready in
    let state : c.args.self.now.state ≡ Ready = sym (ap (λ v. v.state) c.self.view_is) ∙ ready in
    (set_ready c.args.self.now state, subst (λ v. IfSome (g.D.Disk.tells v.disk).bytes (λ b. kept_from v.at b ≡ Groups [])) c.self.view_is nothing)

pub returns-in-Ok-End-clause-next : goal.returns-in-Ok-End-clause-next
returns-in-Ok-End-clause-next g c =
    let j = c.self.inside in
    let going : j.state ≢ Broken = search rules in
    let unready : j.state ≢ Ready = search rules in
    let reading = still_reading j.state unready going in
    let found = rw c.in-Ok-End.field-0-is at c.in-Ok-End.ensures.told in
    let nothing = told_both j.state (g.D.Disk.tells j.disk) j.first j.at j.entries (IsFound End j.at) (λ b. kept_from j.at b ≡ Groups []) c.self.invariant.1 reading found (λ b is f. end_kept j.at b is.gate f) in
    (ready_alike _ c.args.self.now c.self.view_is c.look.new.disk, subst (λ v. IfSome (g.D.Disk.tells v.disk).bytes (λ b. kept_from v.at b ≡ Groups [])) c.self.view_is nothing)

pub returns-in-Ok-Damage-clause-next : goal.returns-in-Ok-Damage-clause-next
returns-in-Ok-Damage-clause-next g c =
    let j = c.self.inside in
    let going : j.state ≢ Broken = search rules in
    let unready : j.state ≢ Ready = search rules in
    let reading = still_reading j.state unready going in
    let found = rw c.in-Ok-Damage.field-0-is at c.in-Ok-Damage.ensures.told in
    let place : j.at ≡ c.args.self.now.at = ap (λ v. v.at) c.self.view_is in
    let damage = told_both j.state (g.D.Disk.tells j.disk) j.first j.at j.entries (IsFound Damage j.at) (λ b. kept_from j.at b ≡ Damaged j.at) c.self.invariant.1 reading found (λ b is f. damage_kept j.at b is.gate f) in
    (still_alike _ c.args.self.now c.self.view_is c.look.new.disk, place, subst (λ v. IfSome (g.D.Disk.tells v.disk).bytes (λ b. kept_from v.at b ≡ Damaged j.at)) c.self.view_is damage)

pub returns-in-Ok-Next-clause-next : goal.returns-in-Ok-Next-clause-next
returns-in-Ok-Next-clause-next g c =
    let j = c.self.inside in
    let entries = c.in-Ok-Next.entries in
    let going : j.state ≢ Broken = search rules in
    let unready : j.state ≢ Ready = search rules in
    let reading = still_reading j.state unready going in
    let found = rw c.in-Ok-Next.field-0-is at c.in-Ok-Next.ensures.told in
    let size : c.from.result ≡ c.in-Ok-Next.size = c.from.ensures in
    let count : length c.as_slice.result.now ≡ length entries = ap (λ (xs : List Entry). length xs) c.as_slice.ensures in
    let place : j.at ≡ c.args.self.now.at = ap (λ v. v.at) c.self.view_is in
    let group : Group = record { at = j.at; entries = entries } in
    let next = told_both j.state (g.D.Disk.tells j.disk) j.first j.at j.entries (IsFound (Next entries c.in-Ok-Next.size) j.at) (λ b. kept_from j.at b ≡ with_group group (kept_from (j.at + (c.from.result + 9)) b)) c.self.invariant.1 reading found
    (λ b is f. next_kept j.at c.in-Ok-Next.size entries b is.gate f ∙ ap (λ (n : ℕ). with_group group (kept_from (j.at + (n + 9)) b)) (sym size)) in
    (further_alike _ c.args.self.now c.self.view_is c.look.new.disk (j.at + (c.from.result + 9)) (length c.as_slice.result.now) (length entries) count, place, subst (λ v. IfSome (g.D.Disk.tells v.disk).bytes (λ b. kept_from v.at b ≡ with_group group (kept_from (j.at + (c.from.result + 9)) b))) c.self.view_is next)

pub invariant_of-self-in-Ok-Next : goal.invariant_of-self-in-Ok-Next
invariant_of-self-in-Ok-Next g c =
    let j = c.self.inside in
    let entries = c.in-Ok-Next.entries in
    let going : j.state ≢ Broken = search rules in
    let unready : j.state ≢ Ready = search rules in
    let reading = still_reading j.state unready going in
    let ensured = rw c.in-Ok-Next.field-0-is at c.in-Ok-Next.ensures in
    let size : c.from.result ≡ c.in-Ok-Next.size = c.from.ensures in
    let count : length c.as_slice.result.now ≡ length entries = ap (λ (xs : List Entry). length xs) c.as_slice.ensures in
    let small : IsWithin (j.at + (c.from.result + 9)) (j.entries + length c.as_slice.result.now) j.max_bytes =
    (omega (arith, ensured.within, size), omega (arith, ensured.within, size, count, c.self.invariant.0), c.self.invariant.0.2) in
    let settled = settled_next (g.D.Disk.tells j.disk) (g.D.Disk.tells c.look.new.disk) c.look.ensures.before j.state j.first j.at j.entries c.in-Ok-Next.size entries c.self.invariant.1 reading ensured.told in
    let alike : (c.in-Ok-Next.size + 9 ≡ c.from.result + 9) × (length entries ≡ length c.as_slice.result.now) = (omega arith, sym count) in
    let state = λ (n m : ℕ). IsSettled j.state (g.D.Disk.tells c.look.new.disk) j.first (j.at + n) (j.entries + m) in (
      small,
      subst (λ (m : ℕ). state (c.from.result + 9) m) alike.1 (subst (λ (n : ℕ). state n (length entries)) alike.0 settled),
      λ _. subst (λ (o : Option (List ℕ)). IsAhead c.look.new.ahead o) (sym c.look.ensures.before.same) ensured.ahead,
    )
