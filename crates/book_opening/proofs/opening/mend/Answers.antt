use Rattle.std.proofs.Common.{rules, ◌≡◌, ◌≤◌, ◌<◌, ◌+◌, ◌^◌, length, take, drop, min, Some, None, refl, ap, ◌∙◌, subst, arith}
use Rattle.std.specs.Prelude.{IfSome}
use Rattle.outside.specs.Others.{first_other}
use Rattle.book_opening.proofs.Comparing.{front_uncut, front_cut, nothing_other, found_zero}
use Rattle.book_opening.proofs.opening.mend.Goals as goal

pub returns-in_default-clause-mended : goal.returns-in_default-clause-mended
returns-in_default-clause-mended g c = λ all counted compared.
    let none : c.args.other ≡ None = search rules in
    let small : c.held-held.result < 2 ^ 64 = search rules in
    let size = c.held-held.ensures.size in
    let some = c.if-held-before.false in
    let most = c.if-lines-held.false in
    let least : c.args.before ≤ (g.O.Sink.tells c.args.outbox.now).held = omega arith in
    let enough : (g.O.Sink.tells c.args.outbox.now).held ≤ c.args.before + length all = omega arith in
    front_uncut c.args.before _ _ all refl refl c.held-held.ensures.told least enough
    (subst (λ o. IfSome (g.O.Sink.tells c.args.outbox.now).bytes (λ b. o ≡ first_other c.args.before all (drop c.args.before b))) none compared.place)

pub returns-clause-mended : goal.returns-clause-mended
returns-clause-mended g c = λ all counted compared.
    let outbox = g.O.Sink.tells c.args.outbox.now in
    let cut = g.O.Sink.tells c.cut.new.self in
    let at = c.in-Some.at in
    let some : c.args.other ≡ Some at = search rules in
    let before = c.args.before in
    let within = subst (λ o. IfSome o (λ place. (before ≤ place) × (place < outbox.held) × (place < before + length all))) some compared.within in
    front_cut before outbox cut all at (subst (λ o. IfSome o (λ b. cut.bytes ≡ Some (take at b))) c.differs.ensures.bytes c.in_ok-cut.ensures.bytes) (c.in_ok-cut.ensures.size ∙ ap (min at) c.differs.ensures.size)
    within.0 within.1 within.2 (subst (λ o. IfSome outbox.bytes (λ b. o ≡ first_other before all (drop before b))) some compared.place)

pub returns-then-lines-held-clause-ahead : goal.returns-then-lines-held-clause-ahead
returns-then-lines-held-clause-ahead g c = λ held count all is counted.
    let small : c.held-held.result < 2 ^ 64 = search rules in
    let same : held ≡ c.held-held.result = cc in
    let lines : count ≡ c.args.lines = cc in
    let less = c.if-lines-held.true in
    (same ∙ c.held-held.ensures.size, omega arith, omega arith)

pub returns-in_default-clause-mendable : goal.returns-in_default-clause-mendable
returns-in_default-clause-mendable g c =
    let none : c.args.other ≡ None = search rules in
    nothing_other (g.O.Sink.tells c.args.outbox.now).bytes c.args.other none

pub returns-clause-mendable : goal.returns-clause-mendable
returns-clause-mendable g c =
    let some : c.args.other ≡ Some c.in-Some.at = search rules in
    let none : c.in_ok-differs.field-0 ≡ None = search rules in
    found_zero (g.O.Sink.tells c.args.outbox.now).bytes _ c.in-Some.at c.args.other c.in_ok-differs.field-0 some refl none c.in_ok-differs.ensures.place
