use Rattle.std.proofs.Common.{◌≡◌, false, length, Option, None, rules, sym, subst}
use Rattle.std.specs.Prelude.{is_some}
use Rattle.alert_queue.specs.declared.types.NoteMark.{NoteMark}
use Rattle.alert_marks.specs.declared.types.AddError.{AddError}
use Rattle.alert_sessions.specs.OnDisk.{IsOnDisk}
use Rattle.alert_sessions.proofs.Settling.{call_none, call_kept, call_refused}
use Rattle.alert_sessions.proofs.Marking.{free_note}
use Rattle.alert_sessions.proofs.Keeping.{not_some, disk_kept, disk_refused}
use Rattle.alert_sessions.proofs.state.State.settle.Goals as goal

pub invariant_of-self-in-None : goal.invariant_of-self-in-None
invariant_of-self-in-None g c =
    let i = c.self.inside in
    let going : is_some i.stopped ≡ false = search rules in (
      call_none g.N.CallName.start i.queue c.done.new.self g.N.CallName.kept i.marks.list i.failures.total i.successes.total c.count.new.failures.total c.count.new.successes.total
          c.args.note c.args.ok c.args.now (is_some i.stopped) c.done.result going (c.has_open.ensures.0 c.if-not-has_open.false) c.self.invariant.0 c.done.ensures.mark c.done.ensures.queue c.count.ensures.book c.count.ensures.other c.in-None.is,
      c.self.invariant.1,
    )

pub add-requires-clause-free : goal.add-requires-clause-free
add-requires-clause-free g c =
    let i = c.self.inside in
    let going : is_some i.stopped ≡ false = search rules in
    free_note g.N.CallName.start i.queue g.N.CallName.kept i.marks.list i.failures.total i.successes.total c.args.note (is_some i.stopped) c.self.invariant.0 going (c.has_open.ensures.0 c.if-not-has_open.false)

pub invariant_of-self-in-Ok : goal.invariant_of-self-in-Ok
invariant_of-self-in-Ok g c =
    let i = c.self.inside in
    let going : is_some i.stopped ≡ false = search rules in
    let tells = g.D.Disk.tells in
    let new = c.add.new.self in
    let mark : NoteMark = record { note = c.args.note; mark = c.in-Some.mark } in
    let least = length g.N.CallName.kept in
    let none : i.stopped ≡ None = not_some i.stopped going in
    let on = subst (λ (o : Option AddError). IsOnDisk g.N.CallName.disk (tells i.marks.disk) least i.marks.list i.marks.is_broken o) none c.self.invariant.1 in (
      call_kept g.N.CallName.start i.queue c.done.new.self g.N.CallName.kept i.marks.list i.failures.total i.successes.total c.count.new.failures.total c.count.new.successes.total
          c.args.note c.args.ok c.args.now (is_some i.stopped) c.done.result going (c.has_open.ensures.0 c.if-not-has_open.false) c.self.invariant.0 c.done.ensures.mark c.done.ensures.queue c.count.ensures.book c.count.ensures.other
          c.in-Some.mark new.list c.in-Some.is c.in-Ok.ensures.ok,
      subst (λ (o : Option AddError). IsOnDisk g.N.CallName.disk (tells new.disk) least new.list new.is_broken o) (sym none)
          (disk_kept tells g.N.CallName.disk least i.marks new mark on c.add.ensures.told c.add.ensures.later c.add.ensures.any_moment c.in-Ok.ensures.ok c.in-Ok.ensures.durable
          (c.add.ensures.going (λ same. absurd (let is = c.in-Ok.is in cc)))),
    )

pub invariant_of-self-in-Err : goal.invariant_of-self-in-Err
invariant_of-self-in-Err g c =
    let i = c.self.inside in
    let going : is_some i.stopped ≡ false = search rules in
    let tells = g.D.Disk.tells in
    let new = c.add.new.self in
    let mark : NoteMark = record { note = c.args.note; mark = c.in-Some.mark } in
    let least = length g.N.CallName.kept in
    let none : i.stopped ≡ None = not_some i.stopped going in
    let on = subst (λ (o : Option AddError). IsOnDisk g.N.CallName.disk (tells i.marks.disk) least i.marks.list i.marks.is_broken o) none c.self.invariant.1 in (
      call_refused g.N.CallName.start i.queue c.done.new.self g.N.CallName.kept i.marks.list i.failures.total i.successes.total c.count.new.failures.total c.count.new.successes.total
          c.args.note c.args.ok c.args.now (is_some i.stopped) c.done.result going (c.has_open.ensures.0 c.if-not-has_open.false) c.self.invariant.0 c.done.ensures.mark c.done.ensures.queue c.count.ensures.book c.count.ensures.other
          c.in-Some.mark new.list c.in-Some.is c.in-Err.ensures.err,
      disk_refused tells g.N.CallName.disk least i.marks new mark on c.add.ensures.told c.add.ensures.later c.add.ensures.any_moment c.in-Err.error c.add.result c.in-Err.is (g.met.D.Disk.lawful new.disk) c.in-Err.ensures.err
          c.add.ensures.fault c.add.ensures.same,
    )
