use Rattle.std.proofs.Common.{◌≡◌, length, map, get_or, ap, ◌∙◌}
use Rattle.std.proofs.lemmas.List.{length-map}
use Rattle.dependency_graph.specs.Tables.{next_depth}
use Rattle.dependency_graph.proofs.Settled.{one_round}
use Rattle.dependency_graph.proofs.chains.by_rounds.Goals as goal

pub loop-round-preserved : goal.loop-round-preserved
loop-round-preserved c =
    let links = c.args.links.now in
    let depths = c.loop-round.depths in
    let made : c.in_ok-depths.depths ≡ map (next_depth depths) links = c.in_ok-depths.ensures ∙ ap (λ ds. map (next_depth ds) links) c.as_slice.ensures in
    record {
      size = ap length made ∙ length-map links (next_depth depths);
      each = λ k. ap (λ ds. get_or ds k 0) made ∙ one_round links depths c.loop-round._round c.loop-round.invariant.each k;
    }
