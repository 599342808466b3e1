use Rattle.std.proofs.Common.{◌≡◌, ◌<◌, ◌-◌, ◌∙◌, List, slice_set, slice_index_or, sym, ap, subst, arith}
use Rattle.alert_queue.specs.Lanes.{Laned, settled}
use Rattle.alert_queue.specs.Queues.{no_lane, AreAtHome}
use Rattle.alert_queue.proofs.Filings.{read_is, home_settled}
use Rattle.alert_queue.proofs.queue.finish.Goals as goal

pub returns-clause-at_home : goal.returns-clause-at_home
returns-clause-at_home c =
    let lanes = c.args.lanes.now.items in
    let place = slice_index_or c.args.homes.now (c.args.note - 1) 0 in
    let old = c.index_mut.result.now in
    let read : old ≡ slice_index_or lanes place no_lane = read_is lanes place old c.requires.tried.first.there c.index_mut.ensures.value in
    subst (λ (l : Laned). AreAtHome c.args.homes.now (slice_set lanes place l)) (sym c.settle-mark.ensures.lane)
    (home_settled c.args.homes.now lanes place old c.args.ok c.args.now c.requires.tried.first.there read c.requires.at_home)
