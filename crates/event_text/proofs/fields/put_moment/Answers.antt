use Rattle.event_text.proofs.LineLemmas.{moment_text-parts}
use Rattle.event_text.proofs.fields.put_moment.Goals as goal

pub returns : goal.returns
returns c = rw (← c.moment.view_is, moment_text-parts c.moment.inside.sec c.moment.inside.ns c.moment.invariant) c.put_seconds.ensures
