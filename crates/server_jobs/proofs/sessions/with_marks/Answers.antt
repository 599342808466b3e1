use Rattle.std.proofs.Common.{◌≡◌, List, None, length, IfSome, sym, subst, rules}
use Rattle.outside.specs.Disk.{LeavesOnly}
use Rattle.alert_queue.specs.declared.types.NoteMark.{NoteMark}
use Rattle.server_jobs.specs.Numbering.{ahead_of}
use Rattle.server_jobs.specs.Working.{KeepsSome}
use Rattle.server_jobs.proofs.Crashes.{moments_none, moments_some}
use Rattle.server_jobs.proofs.Starting.{within_ahead}
use Rattle.server_jobs.proofs.sessions.with_marks.Goals as goal

pub work_within-requires-clause-within : goal.work_within-requires-clause-within
work_within-requires-clause-within g c κs within =
    let none : ahead_of (length c.args.notes) c.args.marks.list ≡ None = search rules in
    within_ahead c.args.marks.list (length c.args.notes) none

pub returns-in-Some-clause-any_moment : goal.returns-in-Some-clause-any_moment
returns-in-Some-clause-any_moment g c =
    let d = g.D.Disk.tells c.args.marks.disk in let list = c.args.marks.list in
    let progress : c.ended.result.progress ≡ c.args.marks.disk = search rules in
    let marks : c.ended.result.marks ≡ list = search rules in
    subst (λ x. IfSome d.bytes (λ _. LeavesOnly d (g.D.Disk.tells x) (KeepsSome c.ended.result.marks))) (sym progress)
    (subst (λ (l : List NoteMark). IfSome d.bytes (λ _. LeavesOnly d d (KeepsSome l))) (sym marks) (moments_some d d list (moments_none d list ((g.met.D.Disk g.world.𝓛 g.world.𝓜 g.world.𝓡 ((λ s x. x), (λ x. x), (λ x. x), λ x. x)).lawful c.args.marks.disk) c.requires.keeps)))
