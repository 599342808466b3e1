use Rattle.std.proofs.Common.{◌+◌, ◌++◌, ◌∷◌, [], drop, get_or, ap, sym, ◌∙◌}
use Rattle.std.proofs.lemmas.List.{drop_more}
use Rattle.dependency_graph.specs.Walks.{once_behind}
use Rattle.dependency_graph.proofs.Once.{once_behind-more}
use Rattle.dependency_graph.proofs.walks.meet_all.Goals as goal

pub loop-place-preserved : goal.loop-place-preserved
loop-place-preserved c =
    let places = c.args.places.now in
    let at = c.loop-place.place-index in
    let queue = c.loop-place.queue in
    record {
      queue = once_behind-more queue c.meet.new.queue (get_or places at 0 ∷ []) (drop (at + 1) places) c.in_ok-meet.ensures.queue
          ∙ ap (λ xs. queue ++ once_behind queue xs) (sym (drop_more places at 0 c.loop-place-test.true))
          ∙ c.loop-place.invariant.queue;
      table = c.in_ok-meet.ensures.table;
      size = c.meet.ensures.size ∙ c.loop-place.invariant.size;
    }
