use Rattle.std.proofs.Common.{sym, subst}
use mathlib.Core.List.{IsPrefix}
use Rattle.book.specs.Book.{Begun, BookView}
use Rattle.book.proofs.Books.{front_of_all}
use Rattle.book.proofs.book.Book.into_outbox.Goals as goal

pub returns-clause-front : goal.returns-clause-front
returns-clause-front g c = λ all pre.
    let run : Begun = record { flat = g.S.StartName.flat; base = g.S.StartName.base; kept = g.S.StartName.kept; outbox = g.S.StartName.outbox } in
    front_of_all run c.self.inside.progress.entries all c.self.inside.frontier _
    (subst (λ (b : BookView). IsPrefix b.entries all) (sym c.self.view_is) pre) c.self.invariant.lawful c.self.invariant.enough c.self.invariant.front
