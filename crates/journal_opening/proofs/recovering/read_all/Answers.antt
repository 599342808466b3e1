use Rattle.std.proofs.Common.{rules, ◌≡◌, ◌∙◌, ◌+◌, ap, sym, subst, arith, Ok, Err, length}
use Rattle.std.specs.Prelude.{IfSome}
use Rattle.intake_journal.specs.Bytes.{entries_bytes}
use Rattle.intake_journal.specs.declared.format.Group.{Group}
use Rattle.journal_opening.specs.Recovered.{StopsReading}
use Rattle.intake_journal.specs.Next.{ReadsNext}
use Rattle.intake_journal.specs.Settled.{Journaled}
use Rattle.gated_file.proofs.Before.{reads_both}
use Rattle.journal_opening.proofs.JournalReads.{begins_reading, reads_more, reads_all, stops}
use Rattle.journal_opening.proofs.recovering.read_all.Goals as goal

pub returns-in-Ok-None-clause-read : goal.returns-in-Ok-None-clause-read
returns-in-Ok-None-clause-read g c =
    let i = c.loop.invariant in
    let next = subst (λ o. ReadsNext (g.D.Disk.tells c.loop.journal.disk).bytes c.loop.journal c.read_next.new.self (Ok o)) c.in-Ok-None.field-0-is c.in-Ok-None.ensures.next in
    reads_all _ _ c.loop.journal c.read_next.new.self c.loop.numbering i.before.same i.read next

pub returns-in-Err-clause-why : goal.returns-in-Err-clause-why
returns-in-Err-clause-why g c =
    let i = c.loop.invariant in
    subst (StopsReading c.args.journal.now.first (g.D.Disk.tells c.args.journal.now.disk).bytes (g.D.Disk.tells c.args.journal.now.disk).faults (g.D.Disk.tells c.read_next.new.self.disk).faults) (sym c.status_of.ensures)
    (stops c.args.journal.now.first _ _ i.read.groups c.loop.journal c.read_next.new.self c.in-Err.error _ _ _ i.before.same i.state i.read.found c.in-Err.ensures.next i.later (λ is. c.in-Err.ensures.fault (ap Err is)))

pub loop-preserved : goal.loop-preserved
loop-preserved g c =
    let i = c.loop.invariant in
    let e = c.read_next.ensures in
    let next = subst (λ o. ReadsNext (g.D.Disk.tells c.loop.journal.disk).bytes c.loop.journal c.read_next.new.self (Ok o)) c.in-Ok-Some.field-0-is c.in-Ok-Some.ensures.next in
    let group = c.in-Ok-Some.group in
    let place : c.read_next.new.self.at ≡ c.loop.journal.at + length (entries_bytes group.entries) + 9 =
    subst (λ o. IfSome o (λ (h : Group). c.read_next.new.self.at ≡ c.loop.journal.at + length (entries_bytes h.entries) + 9)) c.in-Ok-Some.field-0-is c.in-Ok-Some.ensures.place in
    record {
      before = reads_both _ _ _ i.before e.before;
      later = omega (arith, i.later, e.later);
      state = ap (λ (j : Journaled _). j.state) next.0 ∙ i.state;
      read = reads_more _ _ c.loop.journal c.read_next.new.self c.loop.numbering c.add.new.self group i.before.same i.read next place c.in-Ok.ensures;
    }

pub loop-init : goal.loop-init
loop-init g c = record {
  before = search rules;
  later = omega arith;
  state = c.requires.reading;
  read = begins_reading _ c.args.journal.now c.args.numbering c.requires.first c.requires.none c.requires.numbered;
}

pub add-requires : goal.add-requires
add-requires g c = c.loop.invariant.read.numbered.counted
