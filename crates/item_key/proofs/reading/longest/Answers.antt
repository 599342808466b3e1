use Rattle.std.proofs.Common.{arith, refl, ◌≡◌, Some, take, ◌+◌, ◌∙◌, sym}
use Rattle.item_key.proofs.Runs.{seen_start, seen_goes, seen_ends, seen_stops, moved, stopped}
use Rattle.item_key.proofs.reading.longest.Goals as goal
use Rattle.item_key.proofs.reading.longest.Goals.{then-may_end, else-may_end}
use Rattle.byte_grammar.specs.Runs.{run}
use Rattle.item_key.specs.Machine.{place_of}

pub loop-byte-init : goal.loop-byte-init
unfolding run
loop-byte-init c = record { count = refl; place = refl; seen = seen_start c.args.text.now }

pub returns-in-None : goal.returns-in-None
returns-in-None c = seen_stops c.args.text.now c.loop-byte.byte-index c.loop-byte.longest (omega arith) c.loop-byte.invariant.seen (stopped _ _ c.loop-byte.place (omega arith) c.loop-byte.invariant.place (sym c.next.ensures.steps ∙ c.in-None.is))

pub loop-byte-preserved : goal.loop-byte-preserved
loop-byte-preserved c =
    let p : place_of (take (c.loop-byte.byte-index + 1) c.args.text.now) ≡ Some c.in-Some.now = moved _ _ c.loop-byte.place c.in-Some.now (omega arith) c.loop-byte.invariant.place (sym c.next.ensures.steps ∙ c.in-Some.is) in
    record {
      count = omega arith;
      place = p;
      seen = elim c.if-may_end.branch [
        | then-may_end w ↦ rw (w.longest-is, c.loop-byte.invariant.count) (seen_ends c.args.text.now c.loop-byte.byte-index c.loop-byte.longest c.in-Some.now c.loop-byte.invariant.seen p (sym c.may_end.ensures.answer ∙ w.if-may_end.true))
        | else-may_end w ↦ rw w.longest-is (seen_goes c.args.text.now c.loop-byte.byte-index c.loop-byte.longest c.in-Some.now c.loop-byte.invariant.seen p (sym c.may_end.ensures.answer ∙ w.if-may_end.false))
      ];
    }
