use Rattle.std.proofs.Common.{◌≡◌, ℕ, ◌-◌, ◌+◌, ◌++◌, [], List, length, take, drop, ap, sym, ◌∙◌, subst, arith, length-append}
use Rattle.std.proofs.lemmas.List.{take_all}
use Rattle.std.proofs.lemmas.Grind.{common_steps}
use Rattle.dependency_graph.specs.Walks.{once, once_behind, linked_by, walk, walked}
use Rattle.dependency_graph.proofs.Once.{IsAmong, once_behind-again, once-added}
use Rattle.dependency_graph.proofs.Levels.{level, level-met, walked-more, walked-still}
use Rattle.dependency_graph.proofs.walks.walk.Goals as goal

pub loop-level-init : goal.loop-level-init
unfolding walk
loop-level-init c =
    let links = c.args.links.now in
    let places = c.args.places.now in
    let begun : c.meet_all.new.queue ≡ once places = c.in_ok-meet_all.ensures.queue ∙ ap (λ q. q ++ once_behind q places) c.new-queue.ensures in
    let all : length links - 0 ≡ length links = omega arith in
    let P : List ℕ → Type 0 = λ q. once q ≡ q in
    record {
      rest = ap (λ q. walked links (length links - 0) q) begun ∙ ap (λ n. walked links n (once places)) all;
      once = subst P (sym begun) (once_behind-again [] places);
      met = λ k no. absurd (let h : ⊥ = cc in h);
      start = omega arith;
      table = c.in_ok-meet_all.ensures.table;
      size = grind (arith, common_steps);
    }

pub loop-level-preserved : goal.loop-level-preserved
loop-level-preserved c =
    let links = c.args.links.now in
    let queue = c.loop-level.queue in
    let start = c.loop-level.start in
    let added = linked_by links (drop start queue) in
    let made : c.meet_linked.new.queue ≡ queue ++ once_behind queue added = c.in_ok-meet_linked.ensures.queue in
    let P : List ℕ → Type 0 = λ q. once q ≡ q in
    let Q : List ℕ → Type 0 = λ q. IsAmong (linked_by links (take c.len-end.result q)) q in
    let R : ℕ → Type 0 = λ n. IsAmong (linked_by links (take n (queue ++ once_behind queue added))) (queue ++ once_behind queue added) in
    record {
      rest = ap (walked links (length links - (c.loop-level._level + 1))) (made ∙ sym (level links queue start c.loop-level.invariant.once c.loop-level.invariant.met))
          ∙ sym (walked-more links (length links) c.loop-level._level queue c.loop-level-test.true) ∙ c.loop-level.invariant.rest;
      once = subst P (sym made) (once-added queue added c.loop-level.invariant.once);
      met = subst Q (sym made) (subst R (sym c.len-end.ensures) (level-met links queue start c.loop-level.invariant.met));
      start = omega (arith, c.len-end.ensures, ap length made, length-append queue (once_behind queue added));
      table = c.in_ok-meet_linked.ensures.table;
      size = c.meet_linked.ensures.size ∙ c.loop-level.invariant.size;
    }

pub returns-then-start-end-clause-walk : goal.returns-then-start-end-clause-walk
returns-then-start-end-clause-walk c =
    let links = c.args.links.now in
    let queue = c.loop-level.queue in
    let P : List ℕ → Type 0 = λ q. IsAmong (linked_by links q) queue in
    let all : take c.loop-level.start queue ≡ queue = take_all c.loop-level.start queue (omega (arith, c.if-start-end.true, c.len-end.ensures)) in
    sym (walked-still links (length links - c.loop-level._level) queue c.loop-level.invariant.once (subst P all c.loop-level.invariant.met)) ∙ c.loop-level.invariant.rest
