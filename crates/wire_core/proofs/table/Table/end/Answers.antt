use Rattle.std.proofs.Common.{sym, ◌∙◌}
use Rattle.wire_core.specs.Peers.{fresh}
use Rattle.wire_core.proofs.PeerLaws.{AreKept-without, gone_there, gone_nowhere}
use Rattle.wire_core.proofs.table.Table.end.Goals as goal

pub invariant_of-self : goal.invariant_of-self
invariant_of-self c =
    rw (c.forget.ensures, gone_there _ _ _ (fresh 0 0) c.self.invariant.apart (sym c.in-Some.ensures)) (AreKept-without _ _ c.self.invariant)

pub returns-in-Some : goal.returns-in-Some
returns-in-Some c = rw (← c.self.view_is) (c.forget.ensures ∙ gone_there _ _ _ (fresh 0 0) c.self.invariant.apart (sym c.in-Some.ensures))

pub returns-in_default : goal.returns-in_default
returns-in_default c = rw (← c.self.view_is) (gone_nowhere _ _ (sym c.in_default.ensures))
