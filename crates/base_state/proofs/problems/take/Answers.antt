use Rattle.std.proofs.Common.{rules, ◌≡◌, ◌≢◌, ◌≤◌, ◌-◌, length}
use Rattle.zbx_types.specs.Records.{event_of}
use Rattle.trigger_state.specs.Stages.{home}
use Rattle.base_state.proofs.Housing.{past_housed}
use Rattle.base_state.proofs.problems.take.Goals as goal

pub returns-then-index-len : goal.returns-then-index-len
returns-then-index-len c =
    let is : c.home-id.result ≡ home c.args.stage.now (event_of c.args.rec.now) = search rules in
    let some : c.home-id.result ≢ 0 = search rules in
    let past : length c.args.rows.now.items ≤ c.home-id.result - 1 = search rules in
    past_housed c.args.stage.now c.args.rows.now.items c.args.rec.now c.home-id.result is some past
