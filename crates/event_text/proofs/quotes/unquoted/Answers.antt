use Rattle.std.proofs.Common.{sym, ap, ◌∙◌, option_map}
use Rattle.event_text.specs.Forms.{joined}
use Rattle.event_text.proofs.QuoteLemmas.{never_closed}
use Rattle.event_text.proofs.quotes.unquoted.Goals as goal

pub returns : goal.returns
returns c = sym (ap (option_map (joined c.loop-part.made)) (never_closed c.loop-part.rest.now c.in_default.ensures)) ∙ c.loop-part.invariant.so_far
