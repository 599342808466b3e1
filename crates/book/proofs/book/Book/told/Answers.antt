use Rattle.std.proofs.Common.{◌≡◌, [], subst}
use Rattle.book.specs.Book.{BookView, lines_upto}
use Rattle.book_opening.specs.Outgoing.{HasAll}
use Rattle.book_opening.proofs.Comparing.{front_all}
use Rattle.book.proofs.book.Book.told.Goals as goal

pub returns : goal.returns
returns g c =
    subst (λ (b : BookView). b.unwritten ≡ [] → HasAll g.S.StartName.base.lines g.S.StartName.outbox b.sink (lines_upto g.S.StartName.flat g.S.StartName.base g.S.StartName.kept b.entries b.frontier)) c.self.view_is
    (front_all g.S.StartName.base.lines g.S.StartName.outbox _ _ c.self.inside.unwritten c.self.invariant.front c.self.invariant.left) c.requires
