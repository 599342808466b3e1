use Rattle.std.proofs.Common.{rules, ◌≡◌, None}
use Rattle.zbx_types.specs.Ids.{at_id}
use Rattle.base_state.proofs.Histories.{no_keep}
use Rattle.base_state.proofs.values.put_at.Goals as goal

pub returns-in-None-by_id-2 : goal.returns-in-None-by_id-2
returns-in-None-by_id-2 c = record {
  puts = λ item kept there at.
      let none : at_id c.args.keeps.now c.args.id ≡ None = search rules in
      absurd (no_keep c.args.conf.now c.args.keeps.now c.args.id item c.requires.keeps there none);
  of = λ h. h;
}
