use Rattle.std.proofs.Common.{arith, ◌≡◌, ◌++◌, ◌∙◌, sym, ap, append_assoc, length, take, drop}
use Rattle.std.proofs.lemmas.List.{take-append-drop, length-take-le}
use Rattle.std.proofs.Math.Seq.{take-append_seam}
use Rattle.book_opening.specs.Outgoing.{Grew}
use Rattle.book_opening.proofs.Growing.{grew_more, grew_kept}
use Rattle.book_opening.proofs.writing.write_all.Goals as goal

pub loop-rest-preserved : goal.loop-rest-preserved
loop-rest-preserved g c =
    let w = c.loop-rest.invariant.written in
    let piece = take c.in-Ok.count c.loop-rest.rest.now in
    let after = drop c.in-Ok.count c.loop-rest.rest.now in
    let parts = ap (λ r. w.0 ++ r) (sym (take-append-drop c.in-Ok.count c.loop-rest.rest.now)) in
    let regrouped = sym (append_assoc w.0 piece after) in
    let few : length piece ≡ c.in-Ok.count = length-take-le c.in-Ok.count c.loop-rest.rest.now c.in-Ok.ensures.bound in
    let step : Grew (g.K.Sink.tells c.loop-rest.sink) (g.K.Sink.tells c.write.new.self) piece = record { bytes = c.in-Ok.ensures.bytes; size = omega (arith, c.in-Ok.ensures.size, few) } in
    record {
      later = omega (arith, c.loop-rest.invariant.later, c.write.ensures.cause.later);
      written = (w.0 ++ piece, rw c.split_at.ensures.back (w.1 ∙ (parts ∙ regrouped)), grew_more _ _ _ w.0 piece w.2 step);
    }

pub returns-in-Err-clause-written : goal.returns-in-Err-clause-written
returns-in-Err-clause-written g c =
    let w = c.loop-rest.invariant.written in
    let front : take (length w.0) c.args.bytes.now ≡ w.0 = rw w.1 (take-append_seam w.0 c.loop-rest.rest.now) in
    (length w.0, rw front (grew_kept _ _ _ w.0 w.2 c.in-Err.ensures.bytes c.in-Err.ensures.failed))
