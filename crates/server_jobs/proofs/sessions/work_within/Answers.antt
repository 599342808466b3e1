use Rattle.std.proofs.Common.{◌≡◌, ◌≢◌, List, map, IfSome, sym, subst, rules}
use Rattle.outside.specs.Disk.{LeavesOnly}
use Rattle.outside.specs.Spawning.{SpawnerTells}
use Rattle.alert_marks.specs.Marks.{EachKeeps}
use Rattle.alert_queue.specs.Queues.{Queued}
use Rattle.alert_queue.specs.declared.types.NoteMark.{NoteMark}
use Rattle.alert_sessions.specs.declared.hands.Hand.{Hand}
use Rattle.alert_sessions.specs.declared.orders.Orders.{Orders}
use Rattle.server_words.specs.declared.status.Status.{Status}
use Rattle.server_words.specs.declared.status.Status.TheVariants as status
use Rattle.server_jobs.specs.Working.{EndsTries, KeepsSome}
use Rattle.server_jobs.specs.Sessions.{WorkTogetherIfAny, AreOrders, stopped_for}
use Rattle.server_jobs.proofs.Together.{unmarked, works_together, ends_together, kept_together, moments_together}
use Rattle.server_jobs.proofs.sessions.work_within.Goals as goal

pub work_in_sessions-worked-requires-clause-unmarked : goal.work_in_sessions-worked-requires-clause-unmarked
work_in_sessions-worked-requires-clause-unmarked g c κs within =
    let media = c.args.media.now in let notes = c.args.notes in let before = c.args.marks.list in
    let queue : Queued = c.in-Ok.queue in let orders : Orders = c.in-Ok.orders in
    let is : AreOrders media notes before queue orders = subst (λ (l : List NoteMark). AreOrders media notes l queue orders) c.list.ensures c.in-Ok.ensures in
    unmarked media notes before queue orders is

pub returns-clause-works : goal.returns-clause-works
returns-clause-works g c =
    let ss : List SpawnerTells = map {A = Hand g.row.W.Denot g.row.C.Denot} (λ h. g.W.Spawner.tells h.spawner) c.args.hands.now in
    let ss' : List SpawnerTells = map {A = Hand g.row.W.Denot g.row.C.Denot} (λ h. g.W.Spawner.tells h.spawner) c.work_in_sessions-worked.new.hands in
    let media = c.args.media.now in let notes = c.args.notes in let before = c.args.marks.list in
    let queue : Queued = c.in-Ok.queue in let orders : Orders = c.in-Ok.orders in
    let is : AreOrders media notes before queue orders = subst (λ (l : List NoteMark). AreOrders media notes l queue orders) c.list.ensures c.in-Ok.ensures in
    let worked = c.work_in_sessions-worked.result in
    let marks : c.ended-2.result.marks ≡ worked.marks.list = search rules in
    subst (λ (l : List NoteMark). WorkTogetherIfAny media notes ss ss' before l) (sym marks)
    (works_together media notes before queue orders is worked.marks.list worked.stopped ss ss' c.work_in_sessions-worked.ensures.worked)

pub returns-clause-why : goal.returns-clause-why
returns-clause-why g c =
    let ss : List SpawnerTells = map {A = Hand g.row.W.Denot g.row.C.Denot} (λ h. g.W.Spawner.tells h.spawner) c.args.hands.now in
    let ss' : List SpawnerTells = map {A = Hand g.row.W.Denot g.row.C.Denot} (λ h. g.W.Spawner.tells h.spawner) c.work_in_sessions-worked.new.hands in
    let media = c.args.media.now in let notes = c.args.notes in let before = c.args.marks.list in
    let queue : Queued = c.in-Ok.queue in let orders : Orders = c.in-Ok.orders in
    let is : AreOrders media notes before queue orders = subst (λ (l : List NoteMark). AreOrders media notes l queue orders) c.list.ensures c.in-Ok.ensures in
    let worked = c.work_in_sessions-worked.result in
    let opening = g.D.Disk.tells c.args.marks.disk in let disk = g.D.Disk.tells worked.marks.disk in
    let marks : c.ended-2.result.marks ≡ worked.marks.list = search rules in
    let progress : c.ended-2.result.progress ≡ worked.marks.disk = search rules in
    let ended : c.ended-2.result.status ≡ stopped_for worked.stopped = search rules in
    subst (λ (l : List NoteMark). EndsTries notes before l opening.faults (g.D.Disk.tells c.ended-2.result.progress).faults ss ss' c.ended-2.result.status) (sym marks)
    (subst (λ x. EndsTries notes before worked.marks.list opening.faults (g.D.Disk.tells x).faults ss ss' c.ended-2.result.status) (sym progress)
    (subst (λ (s : Status). EndsTries notes before worked.marks.list opening.faults disk.faults ss ss' s) (sym ended)
    (ends_together media notes before queue orders is c.requires.once c.requires.within worked.marks.list worked.stopped ss ss' c.work_in_sessions-worked.ensures.worked opening disk _ _ c.work_in_sessions-worked.ensures.disk)))

pub returns-clause-keeps : goal.returns-clause-keeps
returns-clause-keeps g c other =
    let worked = c.work_in_sessions-worked.result in
    let opening = g.D.Disk.tells c.args.marks.disk in let disk = g.D.Disk.tells worked.marks.disk in
    let marks : c.ended-2.result.marks ≡ worked.marks.list = search rules in
    let progress : c.ended-2.result.progress ≡ worked.marks.disk = search rules in
    let ended : c.ended-2.result.status ≡ stopped_for worked.stopped = search rules in
    subst (λ (l : List NoteMark). EachKeeps (g.D.Disk.tells c.ended-2.result.progress) l) (sym marks)
    (subst (λ x. EachKeeps (g.D.Disk.tells x) worked.marks.list) (sym progress)
    (kept_together opening disk _ worked.marks.list _ worked.stopped c.work_in_sessions-worked.ensures.disk (subst (λ (s : Status). s ≢ status.DiskFault) ended other)))

pub returns-clause-any_moment : goal.returns-clause-any_moment
returns-clause-any_moment g c =
    let worked = c.work_in_sessions-worked.result in
    let opening = g.D.Disk.tells c.args.marks.disk in let disk = g.D.Disk.tells worked.marks.disk in
    let marks : c.ended-2.result.marks ≡ worked.marks.list = search rules in
    let progress : c.ended-2.result.progress ≡ worked.marks.disk = search rules in
    subst (λ (l : List NoteMark). IfSome opening.bytes (λ _. LeavesOnly opening (g.D.Disk.tells c.ended-2.result.progress) (KeepsSome l))) (sym marks)
    (subst (λ x. IfSome opening.bytes (λ _. LeavesOnly opening (g.D.Disk.tells x) (KeepsSome worked.marks.list))) (sym progress)
    (moments_together opening disk _ worked.marks.list _ worked.stopped c.work_in_sessions-worked.ensures.disk))
