use Rattle.event_text.proofs.FormLemmas.{split_up_to}
use Rattle.event_text.proofs.quotes.split_at_mark.Goals as goal

pub returns : goal.returns
returns c = split_up_to c.args.text.now c.args.mark.now c.split_once.result c.requires c.split_once.ensures.cases
