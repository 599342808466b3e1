use Rattle.book_opening.proofs.Growing.{if_ok}
use Rattle.book_opening.proofs.present.Present.take.Goals as goal

pub returns-clause-made : goal.returns-clause-made
returns-clause-made g c =
    if_ok c.take_on.result _ _ (λ made goes log later sound epochs present. goes log later sound epochs (c.in_ok-renew.ensures g.S.StartName.flat g.S.StartName.base log present)) c.take_on.ensures.made
