use Rattle.std.proofs.Common.{◌∙◌, ap, not, filter, refl, List, arith}
use Rattle.zbx_types.specs.Records.{same_event}
use Rattle.trigger_state.specs.Problems.{event_in}
use Rattle.trigger_state.specs.declared.problems.Open.{Open}
use Rattle.trigger_state.proofs.Rows.{row_back, row_absent}
use Rattle.trigger_state.proofs.absorbing.close.Goals as goal

pub returns-then-place-len : goal.returns-then-place-len
returns-then-place-len c =
    row_back c.args.rows.now.items c.args.home c.replace-row.new.dest c.index_mut.result.now c.without.result (λ (os : List Open). filter (λ o. not (same_event (event_in o) c.args.event)) os)
    (omega (arith, c.args.rows.now.ok.0)) c.index_mut.ensures.value (c.without.ensures ∙ ap (λ (os : List Open). filter (λ o. not (same_event (event_in o) c.args.event)) os) c.replace-row.ensures.value)

pub returns-else-place-len : goal.returns-else-place-len
returns-else-place-len c = row_absent c.args.rows.now.items c.args.home (λ (os : List Open). filter (λ o. not (same_event (event_in o) c.args.event)) os) (omega (arith, c.args.rows.now.ok.0)) refl
