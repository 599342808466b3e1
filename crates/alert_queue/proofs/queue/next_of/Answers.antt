use Rattle.std.proofs.Common.{◌≡◌, ◌∙◌, ◌<◌, arith}
use Rattle.alert_queue.proofs.Filings.{least_is_due, least_moment, is_busy}
use Rattle.alert_queue.proofs.queue.next_of.Goals as goal

pub returns-then-key-lt-NONE : goal.returns-then-key-lt-NONE
returns-then-key-lt-NONE c =
    least_is_due c.args.lanes.now c.args.homes.now c.args.ready.now c.args.waiting.now c.args.now c.place-place.result c.first.result c.index-lanes-place.result
    c.requires.filed c.requires.at_home c.requires.rest c.place-place.ensures.inside c.place-place.ensures.least (omega (arith, c.key.ensures)) c.index-lanes-place.is c.first.ensures.first

pub returns-then-at-lt-NONE : goal.returns-then-at-lt-NONE
returns-then-at-lt-NONE c =
    least_moment c.args.lanes.now c.args.homes.now c.args.ready.now c.args.waiting.now c.args.now c.place-place.result c.place-place-2.result c.moment_of.result
    c.requires.filed c.requires.rest c.place-place.ensures.least (omega (arith, c.key.ensures)) c.place-place-2.ensures.inside c.place-place-2.ensures.least (c.moment_of.ensures ∙ c.key-at.ensures) (omega (arith, c.moment_of.ensures))

pub returns-then-left-gt0 : goal.returns-then-left-gt0
returns-then-left-gt0 c =
    is_busy c.args.lanes.now c.args.homes.now c.args.ready.now c.args.waiting.now c.args.now c.place-place.result c.place-place-2.result c.args.left
    c.requires.filed c.place-place.ensures.least (omega (arith, c.key.ensures)) c.place-place-2.ensures.least (omega (arith, c.key-at.ensures)) c.requires.left (omega arith)
