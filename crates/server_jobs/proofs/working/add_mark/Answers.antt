use Rattle.alert_marks.proofs.Marking.{on_both}
use Rattle.server_jobs.proofs.Crashes.{with_front_all}
use Rattle.server_jobs.proofs.working.add_mark.Goals as goal

pub returns-in-Some-clause-ok_moment : goal.returns-in-Some-clause-ok_moment
returns-in-Some-clause-ok_moment g c =
    let tells = g.D.Disk.tells in
    let d0 = tells c.args.marks.now.disk in let d1 = tells c.add.new.self.disk in
    on_both c.add.result _ _ _ (λ is again. with_front_all d0 d1 c.args.marks.now.list c.add.new.self.list (record { note = c.args.number; mark = c.in-Some.mark }) is (c.add.ensures.any_moment c.requires.going))
    c.add.ensures.ok c.add.ensures.ok
