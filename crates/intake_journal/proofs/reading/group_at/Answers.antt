use Rattle.std.proofs.Common.{◌≡◌, ◌+◌, ◌-◌, ◌≤◌, length, take, drop, true, false, sym, ◌∙◌}
use Rattle.std.specs.Prelude.{nat_lt}
use Rattle.intake_journal.specs.Format.{entries_of}
use Rattle.intake_journal.specs.Kept.{fits}
use Rattle.gated_file.proofs.Moments.{if_some, told_of}
use Rattle.intake_journal.proofs.Look.{is_open, unfit_found, unread_found, next_found, fit_inside}
use Rattle.intake_journal.proofs.reading.group_at.Goals as goal

pub returns-then-not-fits-clause-told : goal.returns-then-not-fits-clause-told
returns-then-not-fits-clause-told g c = if_some (g.D.Disk.tells c.args.disk.now).bytes _ (λ b is head.
    let at = c.args.at in let size = c.args.size in let count = c.args.count in
    let more = told_of (g.D.Disk.tells c.args.disk.now).bytes b (λ b. c.in_ok-more.more ≡ nat_lt size (length b - (at + 9))) is c.in_ok-more.ensures.told in
    let test : fits at size count (length b - (at + 9)) ≡ false = sym (c.fits.ensures.room (length b - (at + 9)) more) ∙ c.if-not-fits.true in
    unfit_found at b size count (is_open at b size count head) test)

pub returns-in-Some-clause-told : goal.returns-in-Some-clause-told
returns-in-Some-clause-told g c = if_some (g.D.Disk.tells c.args.disk.now).bytes _ (λ b is head.
    let at = c.args.at in let size = c.args.size in let count = c.args.count in
    let more = told_of (g.D.Disk.tells c.args.disk.now).bytes b (λ b. c.in_ok-more.more ≡ nat_lt size (length b - (at + 9))) is c.in_ok-more.ensures.told in
    let test : fits at size count (length b - (at + 9)) ≡ true = sym (c.fits.ensures.room (length b - (at + 9)) more) ∙ c.if-not-fits.false in
    let enough : at + 9 + size ≤ length b = fit_inside at b size count test in
    let read = told_of (g.D.Disk.tells c.has_more.new.disk).bytes b (λ b. at + 9 + size ≤ length b → c.in_ok-entries.field-0 ≡ entries_of count (take size (drop (at + 9) b))) (c.in_ok-more.ensures.before.same ∙ is) c.in_ok-entries.ensures.told enough in
    next_found at b size count c.in-Some.entries (is_open at b size count head) test (sym read ∙ c.in-Some.is))

pub returns-in-None-clause-told : goal.returns-in-None-clause-told
returns-in-None-clause-told g c = if_some (g.D.Disk.tells c.args.disk.now).bytes _ (λ b is head.
    let at = c.args.at in let size = c.args.size in let count = c.args.count in
    let more = told_of (g.D.Disk.tells c.args.disk.now).bytes b (λ b. c.in_ok-more.more ≡ nat_lt size (length b - (at + 9))) is c.in_ok-more.ensures.told in
    let test : fits at size count (length b - (at + 9)) ≡ true = sym (c.fits.ensures.room (length b - (at + 9)) more) ∙ c.if-not-fits.false in
    let enough : at + 9 + size ≤ length b = fit_inside at b size count test in
    let read = told_of (g.D.Disk.tells c.has_more.new.disk).bytes b (λ b. at + 9 + size ≤ length b → c.in_ok-entries.field-0 ≡ entries_of count (take size (drop (at + 9) b))) (c.in_ok-more.ensures.before.same ∙ is) c.in_ok-entries.ensures.told enough in
    unread_found at b size count (is_open at b size count head) (sym read ∙ c.in-None.is))
