use Rattle.std.proofs.Common.{rules, ◌≡◌, take, drop, Some}
use Rattle.std.proofs.lemmas.Option.{IfSome_then}
use Rattle.outside.specs.Others.{first_other}
use Rattle.outside.proofs.OtherLemmas.{whole}
use Rattle.wire_mio.proofs.reread.compare.Goals as goal

pub returns-in-Some-clause-compared : goal.returns-in-Some-clause-compared
returns-in-Some-clause-compared g c =
    let place = c.in-Some.place in let count = c.in-Ok-Some.count in
    let content = rw c.in-Ok-Some.field-0-is at c.in-Ok-Some.ensures.content in (
      search rules,
      search rules,
      IfSome_then (g.W.Write.contents c.args.writer.now) content (λ b same.
          let shown : first_other c.args.at (take count c.args.bytes.now) (take count (drop c.args.at b)) ≡ Some place = search rules in
          whole count c.args.at c.args.bytes.now (drop c.args.at b) place shown),
    )
