use Rattle.std.proofs.Common.{◌∙◌}
use Rattle.std.specs.Arc.{arc_value}
use Rattle.book.proofs.Batches.{all_popped}
use Rattle.book.proofs.Claiming.{blank_made}
use Rattle.book.specs.Progress.{IsBlank}
use Rattle.book.proofs.inputs.scratch_of.Goals as goal

pub returns-in-Some-clause-cells : goal.returns-in-Some-clause-cells
returns-in-Some-clause-cells g c = (all_popped (IsBlank g.S.StartName.start.stage g.S.StartName.cache) c.args.spare.now.items c.pop.new.self.items c.in-Some.scratch c.in-Some.ensures.items c.requires.spare).1

pub returns-in-Some-clause-spare : goal.returns-in-Some-clause-spare
returns-in-Some-clause-spare g c = (all_popped (IsBlank g.S.StartName.start.stage g.S.StartName.cache) c.args.spare.now.items c.pop.new.self.items c.in-Some.scratch c.in-Some.ensures.items c.requires.spare).0

pub returns-in_ok-share-in-None-clause-cells : goal.returns-in_ok-share-in-None-clause-cells
returns-in_ok-share-in-None-clause-cells g c = blank_made g.S.StartName.start.stage c.args.ready.now c.conf.result.now (arc_value c.in_ok-share-in-None.field-0) g.S.StartName.cache c.new.result c.conf.ensures c.requires.conf (c.in_ok-share-in-None.ensures ∙ c.requires.cache) c.new.ensures.holds c.new.ensures.cache
