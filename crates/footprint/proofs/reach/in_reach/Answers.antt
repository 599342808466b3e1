use Rattle.std.proofs.Common.{◌∙◌, sym, ap}
use Rattle.zbx_types.specs.Reach.{reaches}
use Rattle.footprint.proofs.TableLemmas.{reach_is}
use Rattle.footprint.proofs.reach.in_reach.Goals as goal

pub returns : goal.returns
returns c = c.reaches.ensures ∙ ap (λ tags. reaches c.args.rule.now.matching c.args.rule.now tags) c.as_slice.ensures ∙ sym (reach_is c.args.rule.now c.args.trigger.now)
