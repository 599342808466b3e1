use Rattle.outside.proofs.WorkLemmas.{value_put}
use Rattle.outside.proofs.work_frames.put_value.Goals as goal

pub returns-clause-text : goal.returns-clause-text
returns-clause-text c =
    value_put _ _ _ _ _ _ _ _ _ _ _ _ c.drawn-host.ensures c.drawn-key.ensures c.drawn-value.ensures c.draw.ensures c.draw-2.ensures c.draw-3.ensures
    c.in_ok-put_numbered.ensures c.in_ok-put_numbered-2.ensures c.in_ok-put_numbered-3.ensures c.in_ok-extend.ensures.ok
