use Rattle.std.proofs.Common.{◌∙◌}
use Rattle.sender_json.proofs.Kept.{state-held}
use Rattle.sender_json.proofs.element.read_agent_element.Goals as goal

pub returns-clause-ok : goal.returns-clause-ok
returns-clause-ok c =
    let read = c.in_ok-parts.ensures.ok in
    (read.0, read.1, c.in_ok-asked.ensures read.0 read.2, c.is_one.ensures ∙ state-held c.in_ok-parts.parts.state read.0 read.2.state)
