use Rattle.std.proofs.Common.{sym, subst}
use Rattle.journal_opening.specs.Recovered.{GoesOn, IsUnread}
use Rattle.journal_opening.proofs.JournalReads.{is_recovered, unread_opening, unread_reading}
use Rattle.journal_opening.proofs.Leaving.{read_later}
use Rattle.journal_opening.proofs.recovering.recover.Goals as goal

pub returns-in-Ok-read_behind-clause-recovered : goal.returns-in-Ok-read_behind-clause-recovered
returns-in-Ok-read_behind-clause-recovered g c =
    let o = c.in-Ok.ensures in
    let read = c.in-Ok-read_behind.ensures in
    is_recovered g.D.Disk.tells c.args.disk c.in-Ok.journal c.read_behind.new.journal o.told o.opened o.base o.place c.read_behind.ensures.before c.in-Ok-read_behind.numbering read.good read.read

pub returns-in-Err-read_behind-clause-why : goal.returns-in-Err-read_behind-clause-why
returns-in-Err-read_behind-clause-why g c =
    let o = c.in-Ok.ensures in
    let tells = g.D.Disk.tells in
    subst (λ d. IsUnread (tells c.args.disk).bytes (tells c.args.disk).faults (tells d).faults c.in-Err-read_behind.status) (sym c.end.ensures)
    (unread_reading tells c.args.disk c.in-Ok.journal c.read_behind.new.journal o.told o.opened o.base o.place c.read_behind.ensures.before c.in-Err-read_behind.status o.later c.in-Err-read_behind.ensures.why)

pub returns-in-Err-clause-why : goal.returns-in-Err-clause-why
returns-in-Err-clause-why g c =
    let tells = g.D.Disk.tells in
    let e = c.in-Err.ensures in
    subst (IsUnread (tells c.args.disk).bytes (tells c.args.disk).faults (tells c.in-Err.disk).faults) (sym c.status_of.ensures)
    (unread_opening (tells c.args.disk).bytes (tells c.args.disk).faults (tells c.in-Err.disk).faults c.in-Err.error e.not_ours e.unfinished e.damaged e.no_base e.fault)

pub returns-in-Err-read_behind-clause-gives_back : goal.returns-in-Err-read_behind-clause-gives_back
returns-in-Err-read_behind-clause-gives_back g c =
    let tells = g.D.Disk.tells in
    let o = c.in-Ok.ensures in
    subst (λ d. GoesOn (tells c.args.disk) (tells d)) (sym c.end.ensures)
    (read_later (tells c.args.disk) (tells c.in-Ok.journal.disk) (tells c.read_behind.new.journal.disk) (g.met.D.Disk.lawful c.in-Ok.journal.disk) o.told o.later o.any_moment
    c.read_behind.ensures.before c.read_behind.ensures.later)
