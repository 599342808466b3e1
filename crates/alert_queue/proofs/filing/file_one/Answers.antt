use Rattle.std.proofs.Common.{◌≡◌, ◌<◌, arith, sym, ap, subst}
use Rattle.std.proofs.lemmas.List.{get_or_default}
use Rattle.alert_queue.specs.Lanes.{Laned, IsDue}
use Rattle.alert_queue.specs.Queues.{no_lane}
use Rattle.alert_queue.proofs.Filings.{waits_due, fewer_due}
use Rattle.alert_queue.proofs.filing.file_one.Goals as goal

pub returns-clause-fewer : goal.returns-clause-fewer
returns-clause-fewer c =
    let filed = c.requires.filed in
    let place = c.args.place in
    fewer_due c.args.now c.args.lanes.now c.index-lanes-place.result place c.args.ready.now c.args.waiting.now c.refile.new.ready c.refile.new.waiting
    c.requires.early filed c.requires.inside c.requires.due c.index-lanes-place.is c.refile.ensures
