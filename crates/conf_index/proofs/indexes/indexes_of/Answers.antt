use Rattle.std.proofs.Common.{subst, sym}
use Rattle.preprocess.specs.Visits.{ArePatternsOf}
use Rattle.conf_index.proofs.indexes.indexes_of.Goals as goal

pub returns-in-Ok : goal.returns-in-Ok
returns-in-Ok c = record {
  by_name = c.in_ok-items.ensures.by_name;
  by_key = c.in_ok-items.ensures.by_key;
  by_item = c.in-Ok.ensures.by_item;
  by_trigger = c.in-Ok.ensures.by_trigger;
  by_recovery = c.in-Ok.ensures.by_recovery;
  by_place = c.requires;
  by_text = c.in_ok-patterned.ensures;
  by_call = c.in-Ok.ensures.by_call;
  asked = c.in-Ok.ensures.asked;
  timed_are = c.in-Ok.ensures.timed;
  all_are = c.in-Ok.ensures.all;
  by_step = subst (ArePatternsOf c.args.conf.now) (sym c.requires) c.in_ok-stepped.ensures;
  by_chain = c.in_ok-items.ensures.by_chain;
  offset = c.in_ok-near.ensures;
  by_dependent = c.in-Ok.ensures.by_dependent;
  by_reach = c.in-Ok.ensures.by_reach;
  by_foot = c.in_ok-items.ensures.by_foot;
  by_rule = c.in-Ok.ensures.by_rule;
}
