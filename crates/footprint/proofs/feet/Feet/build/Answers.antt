use Rattle.footprint.proofs.TableLemmas.{table_rises}
use Rattle.footprint.specs.Feet.{foot_has_item, foot_has_trigger, foot_has_mark, foot_meets_mark}
use Rattle.footprint.proofs.feet.Feet.build.Goals as goal

pub invariant_of-result : goal.invariant_of-result
invariant_of-result c = (
  table_rises c.args.conf.now.items (foot_has_item c.args.conf.now) c.in_ok-items.items.items c.in_ok-items.ensures,
  table_rises c.args.conf.now.triggers (foot_has_trigger c.args.conf.now) c.in_ok-triggers.triggers.items c.in_ok-triggers.ensures,
  table_rises c.args.conf.now.correlations (foot_has_mark c.args.conf.now) c.in_ok-marks.marks.own.items c.in_ok-marks.ensures.own,
  table_rises c.args.conf.now.correlations (foot_meets_mark c.args.conf.now) c.in_ok-marks.marks.met.items c.in_ok-marks.ensures.met,
)
