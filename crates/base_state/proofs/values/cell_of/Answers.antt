use Rattle.std.proofs.Common.{rules, ◌≡◌, ◌∙◌}
use Rattle.base_laws.specs.Bases.{read_value}
use Rattle.base_state.proofs.Histories.{none_yet, one_more}
use Rattle.base_state.proofs.values.cell_of.Goals as goal

pub loop-value-init : goal.loop-value-init
loop-value-init c = record {
  keep = search rules;
  values = none_yet c.args.keep c.new-cell.result.keep c.args.now c.new-cell.result.values c.new-cell.ensures.exact.values;
  of = c.new-cell.ensures.of c.args.cache.now;
}

pub loop-value-preserved : goal.loop-value-preserved
loop-value-preserved c =
    let made : c.in_ok-stored.stored ≡ read_value c.args.value_type c.value-item.result = search rules in record {
      keep = c.put.ensures.keep ∙ c.loop-value.invariant.keep;
      values = one_more c.args.keep c.args.now c.args.value_type c.args.values.now c.requires c.loop-value.value-index c.value-item.result c.loop-value-test.true c.value-item.is
          c.in_ok-stored.stored c.loop-value.cell.keep c.loop-value.cell.values c.put.new.cell.values made c.loop-value.invariant.keep c.loop-value.invariant.values c.in_ok-put.ensures.trimmed;
      of = c.put.ensures.of;
    }
