use Rattle.std.proofs.Common.{rules, ◌≡◌, ◌<◌, ◌+◌, ◌∙◌, sym, ap, ℕ, List, length, take, drop, Option, Some, None, IfSome, subst, arith}
use Rattle.std.proofs.lemmas.Option.{IfSome_then}
use Rattle.std.proofs.lemmas.List.{length-drop, length-take}
use Rattle.outside.specs.Others.{first_other}
use Rattle.wire_mio.proofs.Rereading.{Left, found, goes_on, ended}
use Rattle.wire_mio.proofs.reread.find_other.Goals as goal

pub returns-in-Other-clause-place : goal.returns-in-Other-clause-place
returns-in-Other-clause-place g c =
    let l = c.loop-place in
    let front : c.split_at.result.0.now ≡ take c.min-most.result l.rest.now = search rules in
    let compared = rw (c.in-Other.is, front) at c.in_ok-compare.ensures.compared in
    let other = subst (λ (o : Option (List ℕ)). IfSome o (λ b. first_other l.place (take c.min-most.result l.rest.now) (drop l.place b) ≡ Some c.in-Other.found)) l.invariant.same compared.2 in
    IfSome_then (g.W.Write.contents c.args.writer.now) (found (g.W.Write.contents c.args.writer.now) c.args.at l.place c.min-most.result c.in-Other.found c.args.bytes.now l.rest.now l.invariant.left other) (λ b is _. is)

pub loop-place-preserved : goal.loop-place-preserved
loop-place-preserved g c =
    let l = c.loop-place in let n = c.in-Same.count in
    let front : c.split_at.result.0.now ≡ take c.min-most.result l.rest.now = search rules in
    let compared = rw (c.in-Same.is, front) at c.in_ok-compare.ensures.compared in
    let same = subst (λ (o : Option (List ℕ)). IfSome o (λ b. first_other l.place (take n (take c.min-most.result l.rest.now)) (take n (drop l.place b)) ≡ None)) l.invariant.same compared.2 in
    let rest : c.split_at-in-Same.result.1.now ≡ drop n l.rest.now = search rules in
    let left = goes_on (g.W.Write.contents c.args.writer.now) c.args.at l.place c.min-most.result n c.args.bytes.now l.rest.now compared.1 l.invariant.left same in
    record {
      left = subst (λ (xs : List ℕ). IfSome (g.W.Write.contents c.args.writer.now) (Left c.args.at c.args.bytes.now (l.place + n) xs)) (sym rest) left;
      later = omega (arith, l.invariant.later);
      ends = omega (arith, l.invariant.ends, compared.1, ap length rest, length-drop n l.rest.now, length-take c.min-most.result l.rest.now);
      same = c.compare.ensures.same ∙ l.invariant.same;
    }

pub returns-after-loop-place-clause-place : goal.returns-after-loop-place-clause-place
returns-after-loop-place-clause-place g c =
    let l = c.loop-place in
    let done : l.place < c.args.held → length l.rest.now ≡ 0 = search rules in
    ended (g.W.Write.contents c.args.writer.now) c.args.held c.args.at l.place c.args.bytes.now l.rest.now done l.invariant.left
