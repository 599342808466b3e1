use Rattle.std.proofs.Common.{rules, arith, ◌≡◌, ◌≤◌, ◌<◌, ◌+◌, ◌^◌, [], true, false, length, sym, ◌∙◌, subst}
use Rattle.std.specs.Prelude.{is_some}
use Rattle.book_opening.specs.Opening.{IsCompared}
use Rattle.book_opening.proofs.Comparing.{compared_kept, compared_behind, compared_same, compared_more, none_of, empty_list, by_both}
use Rattle.book_opening.proofs.opening.other_in.Goals.{then-is_some-via-then-is_some, then-is_some-via-else-is_some+then-held-seen, then-is_some-via-else-is_some+else-held-seen+then-is_empty}
use Rattle.book_opening.proofs.opening.other_in.Goals as goal

pub returns-then-is_some-clause-other : goal.returns-then-is_some-clause-other
returns-then-is_some-clause-other g c = λ before all counted compared.
    let outbox = g.O.Sink.tells c.args.outbox.now in
    elim c.then-is_some.branch [
      | then-is_some-via-then-is_some w ↦
          (let some : is_some c.args.other ≡ true = sym c.is_some.ensures ∙ w.if-is_some.true in
          compared_kept before outbox all c.args.lines.now c.args.other some compared)
      | then-is_some-via-else-is_some+then-held-seen w ↦
          (let none : is_some c.args.other ≡ false = sym c.is_some.ensures ∙ w.if-is_some.false in
          let size = w.held.ensures.size in
          let most = w.if-held-seen.true in
          let few : outbox.held ≤ before + length all = omega arith in
          compared_behind before outbox all c.args.lines.now c.args.other none w.held.ensures.told few compared)
      | then-is_some-via-else-is_some+else-held-seen+then-is_empty w ↦
          (let none : c.args.lines.now ≡ [] = empty_list c.args.lines.now (sym w.is_empty.ensures ∙ w.if-is_empty.true) in
          compared_same before outbox all c.args.lines.now c.args.other none compared)
    ]

pub returns-clause-other : goal.returns-clause-other
returns-clause-other g c = by_both c.differs.result _ _ _ (λ found place within before all counted compared.
    let outbox = g.O.Sink.tells c.args.outbox.now in
    let none : is_some c.args.other ≡ false = search rules in
    let small : c.held.result < 2 ^ 64 = search rules in
    let size = c.held.ensures.size in
    let more = c.if-held-seen.false in
    let at : c.args.seen ≡ before + length all = omega arith in
    compared_more before outbox all c.args.lines.now c.args.seen found at place within (subst (λ o. IsCompared before outbox all o) (none_of c.args.other none) compared)) c.differs.ensures.place c.differs.ensures.within
