use Rattle.std.proofs.Common.{◌∙◌, sym}
use Rattle.entry_step.proofs.Parting.{holds_again, worked_out, was_counted}
use Rattle.entry_step.proofs.parts.work_out.Goals as goal

pub returns-in_err-made-clause-scratch : goal.returns-in_err-made-clause-scratch
returns-in_err-made-clause-scratch g c =
    holds_again c.args.ready.now c.args.entries.now c.args.part.now c.in_ok-part.part c.exchange.new.part c.args.scratch.now c.exchange.new.self c.requires.scratch c.in_ok-part.ensures.copy c.exchange.ensures.replaced c.exchange.ensures.taken
    c.step_all-made.new.cells c.exchange-2.new.self c.requires.workable c.step_all-made.ensures.some c.exchange-2.ensures.replaced

pub returns : goal.returns
returns g c = record {
  scratch = holds_again c.args.ready.now c.args.entries.now c.args.part.now c.in_ok-part.part c.exchange.new.part c.args.scratch.now c.exchange.new.self c.requires.scratch c.in_ok-part.ensures.copy c.exchange.ensures.replaced c.exchange.ensures.taken
      c.step_all-made.new.cells c.exchange-2.new.self c.requires.workable c.step_all-made.ensures.some c.exchange-2.ensures.replaced;
  cache = c.exchange-2.ensures.cache ∙ c.step_all-made.ensures.cache ∙ c.exchange.ensures.cache;
  part_cache = c.exchange-2.ensures.part_cache ∙ c.exchange.ensures.part_cache ∙ c.in_ok-part.ensures.cache;
  made = worked_out c.args.ready.now c.args.entries.now c.args.part.now c.in_ok-part.part c.exchange.new.part c.args.scratch.now c.exchange.new.self c.requires.scratch c.in_ok-part.ensures.copy c.exchange.ensures.replaced c.exchange.ensures.taken
      c.step_all-made.new.cells c.exchange-2.new.part c.in_ok-made.field-0 c.in_ok-made.ensures.made c.exchange-2.ensures.taken;
  counted = was_counted c.args.ready.now c.args.entries.now c.args.part.now c.in_ok-part.part c.exchange.new.part c.args.scratch.now c.exchange.new.self c.requires.scratch c.in_ok-part.ensures.copy c.exchange.ensures.replaced c.exchange.ensures.taken
      c.args.steps.now c.step_all-made.new.steps c.in_ok-made.ensures.counted;
}

pub exchange-requires : goal.exchange-requires
exchange-requires g c = c.in_ok-part.ensures.cache ∙ c.requires.cache
