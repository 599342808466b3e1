use Rattle.std.proofs.Common.{◌≡◌, ◌∙◌, ◌<◌, ◌-◌, ℕ, Option, length, true, false, None, refl, sym, ap, subst, arith, rules}
use Rattle.std.specs.Prelude.{is_ok}
use Rattle.std.proofs.lemmas.List.{get_or_default}
use Rattle.alert_run.specs.declared.types.Note.{Note}
use Rattle.alert_queue.specs.Queues.{IsOver}
use Rattle.server_jobs.specs.Tries.{note_at, no_note}
use Rattle.server_jobs.specs.Turning.{Continues}
use Rattle.server_jobs.proofs.Crashes.{moments_none, moments_with}
use Rattle.server_jobs.proofs.Going.{going_none, lighter, going_ok, worked_err, all_done}
use Rattle.server_jobs.proofs.working.work.Goals as goal

pub loop-number-init : goal.loop-number-init
loop-number-init g c = record {
  goes = going_none c.args.media.now c.args.notes.now c.args.queue.now (g.W.Spawner.tells c.args.hand.now.spawner) c.args.marks.now.list c.requires.fresh c.requires.known;
  going = c.requires.going;
  keeps = c.requires.keeps;
  later = omega arith;
  told = refl;
  moments = moments_none (g.D.Disk.tells c.args.marks.now.disk) c.args.marks.now.list (g.met.D.Disk.lawful c.args.marks.now.disk) c.requires.keeps;
}

pub loop-number-smaller : goal.loop-number-smaller
loop-number-smaller g c =
    let media = c.args.media.now in let notes = c.args.notes.now in let start = c.args.queue.now in let queue = c.loop-number.queue in
    let s0 = g.W.Spawner.tells c.args.hand.now.spawner in let s1 = g.W.Spawner.tells c.loop-number.hand.spawner in
    let before = c.args.marks.now.list in let list = c.loop-number.marks.list in
    let v = c.loop-number.invariant in
    let n = c.in-Some.number in let b = c.in-Some.ensures in
    let inside : n - 1 < length notes = omega (arith, b.first.known, b.first.numbered, ap length v.goes.homes_are, c.requires.count) in
    let note : Note = c.index-notes-number.result in
    let is : note_at notes n ≡ note = sym (c.index-notes-number.is ∙ get_or_default notes (n - 1) note no_note inside) in
    let s2 = g.W.Spawner.tells c.try_note.new.hand.spawner in
    lighter media notes start queue s0 s1 before list v.goes n c.next.new.queue b note is s2 c.try_note.new.queue c.in-Ok.mark c.in-Ok.ensures.ends

pub loop-number-preserved : goal.loop-number-preserved
loop-number-preserved g c =
    let media = c.args.media.now in let notes = c.args.notes.now in let start = c.args.queue.now in let queue = c.loop-number.queue in
    let s0 = g.W.Spawner.tells c.args.hand.now.spawner in let s1 = g.W.Spawner.tells c.loop-number.hand.spawner in
    let before = c.args.marks.now.list in let list = c.loop-number.marks.list in
    let v = c.loop-number.invariant in
    let n = c.in-Some.number in let b = c.in-Some.ensures in
    let inside : n - 1 < length notes = omega (arith, b.first.known, b.first.numbered, ap length v.goes.homes_are, c.requires.count) in
    let note : Note = c.index-notes-number.result in
    let is : note_at notes n ≡ note = sym (c.index-notes-number.is ∙ get_or_default notes (n - 1) note no_note inside) in
    let s2 = g.W.Spawner.tells c.try_note.new.hand.spawner in
    let ok : is_ok c.add_mark.result ≡ true = search rules in
    let more = c.add_mark.new.marks.list in
    let d0 = g.D.Disk.tells c.args.marks.now.disk in let d1 = g.D.Disk.tells c.loop-number.marks.disk in let d2 = g.D.Disk.tells c.add_mark.new.marks.disk in
    record {
      goes = going_ok media notes start queue s0 s1 before list v.goes n c.next.new.queue b note is s2 c.try_note.new.queue c.in-Ok.mark c.in-Ok.ensures.ends more c.add_mark.result c.add_mark.ensures.list ok;
      going = c.in_ok-add_mark.ensures.going;
      keeps = c.in_ok-add_mark.ensures.durable;
      later = omega (arith, v.later, c.add_mark.ensures.later);
      told = c.add_mark.ensures.told ∙ v.told;
      moments = moments_with d0 d1 d2 list more n c.in-Ok.mark c.add_mark.result v.told ok c.add_mark.ensures.list v.moments c.in_ok-add_mark.ensures.ok_moment;
    }

pub returns-in_err-add_mark-clause-works : goal.returns-in_err-add_mark-clause-works
returns-in_err-add_mark-clause-works g c =
    let media = c.args.media.now in let notes = c.args.notes.now in let start = c.args.queue.now in let queue = c.loop-number.queue in
    let s0 = g.W.Spawner.tells c.args.hand.now.spawner in let s1 = g.W.Spawner.tells c.loop-number.hand.spawner in
    let before = c.args.marks.now.list in let list = c.loop-number.marks.list in
    let v = c.loop-number.invariant in
    let n = c.in-Some.number in let b = c.in-Some.ensures in
    let inside : n - 1 < length notes = omega (arith, b.first.known, b.first.numbered, ap length v.goes.homes_are, c.requires.count) in
    let note : Note = c.index-notes-number.result in
    let is : note_at notes n ≡ note = sym (c.index-notes-number.is ∙ get_or_default notes (n - 1) note no_note inside) in
    let s2 = g.W.Spawner.tells c.try_note.new.hand.spawner in
    let bad : is_ok c.add_mark.result ≡ false = search rules in
    worked_err media notes start queue s0 s1 before list v.goes n c.next.new.queue b note is s2 c.try_note.new.queue c.in-Ok.mark c.in-Ok.ensures.ends c.add_mark.new.marks.list c.add_mark.result c.add_mark.ensures.list bad c.in_err-add_mark.ensures.refused

pub returns-clause-all : goal.returns-clause-all
returns-clause-all g c =
    let media = c.args.media.now in let notes = c.args.notes.now in let start = c.args.queue.now in let queue = c.loop-number.queue in
    let s0 = g.W.Spawner.tells c.args.hand.now.spawner in let s1 = g.W.Spawner.tells c.loop-number.hand.spawner in
    let before = c.args.marks.now.list in let list = c.loop-number.marks.list in
    let v = c.loop-number.invariant in
    let none : c.next.result ≡ None = search rules in
    let over : IsOver queue = subst (λ (o : Option ℕ). Continues queue c.next.new.queue o) none c.next.ensures in
    all_done media notes start queue s0 s1 before list v.goes over c.requires.count
