use Rattle.std.proofs.Common.{◌∙◌, ap}
use Rattle.footprint.specs.Feet.{feet_of, told_by}
use Rattle.syncer_gate.specs.Chosen.{chosen}
use Rattle.syncer_gate.specs.Marks.{is_open, is_pending}
use Rattle.std.specs.List.{list_any}
use Rattle.trigger_state.specs.Stages.{Stage}
use Rattle.book.proofs.Claiming.{some_claimed, few_claimed, none_claimed, idle_claimed}
use Rattle.book.proofs.inputs.take_batch.Goals as goal

pub returns-clause-some : goal.returns-clause-some
returns-clause-some g c =
    some_claimed g.S.StartName.start (told_by c.feet.result.now) c.args.entries.now c.args.claims.now c.claim.new.self c.args.looks c.args.limit c.in_ok-taken.taken (c.feet.ensures ∙ ap (λ (s : Stage). feet_of s.conf) c.requires.conf)
    c.in_ok-taken.ensures.batch c.in_ok-taken.ensures.gate c.claim.ensures.alike c.in_ok-taken.ensures.step

pub returns-clause-few : goal.returns-clause-few
returns-clause-few g c = few_claimed (told_by c.feet.result.now) c.args.entries.now c.args.claims.now c.args.looks c.args.limit c.in_ok-taken.taken c.in_ok-taken.ensures.batch

pub returns-clause-none : goal.returns-clause-none
returns-clause-none g c = none_claimed c.args.claims.now c.claim.new.self (chosen (told_by c.feet.result.now) c.args.claims.now c.args.entries.now c.args.looks c.args.limit) c.in_ok-taken.taken c.in_ok-taken.ensures.batch c.in_ok-taken.ensures.gate

pub returns-clause-idle : goal.returns-clause-idle
returns-clause-idle g c = idle_claimed c.in_ok-taken.taken (list_any is_open c.args.claims.now.marks) (list_any is_pending c.args.claims.now.marks) c.in_ok-taken.ensures.idle
