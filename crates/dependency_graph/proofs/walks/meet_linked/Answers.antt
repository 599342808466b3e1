use Rattle.std.proofs.Common.{◌≡◌, ◌+◌, ◌<◌, ◌++◌, [], length, drop, get_or, ap, sym, ◌∙◌, arith}
use Rattle.std.proofs.lemmas.List.{drop_more, get_or-take, get_or_read}
use Rattle.dependency_graph.specs.Walks.{once_behind, linked_by}
use Rattle.dependency_graph.proofs.Once.{once_behind-more}
use Rattle.dependency_graph.proofs.Levels.{front_kept, front_within}
use Rattle.dependency_graph.proofs.walks.meet_linked.Goals as goal

pub loop-at-preserved : goal.loop-at-preserved
loop-at-preserved c =
    let links = c.args.links.now in
    let first = c.args.queue.now in
    let at = c.loop-at.at in
    let queue = c.loop-at.queue in
    let within : at < length first = omega (arith, c.loop-at-test.true, c.len-end.ensures) in
    let place = get_or c.as_slice.result.now at 0 in
    let read : place ≡ get_or first at 0 =
    ap (λ q. get_or q at 0) c.as_slice.ensures ∙ sym (get_or-take (length first) queue at 0 within) ∙ ap (λ q. get_or q at 0) c.loop-at.invariant.front in
    let met : get_or queue at 0 < length c.loop-at.met.items =
    c.loop-at.invariant.table.below at 0 (omega (arith, within, front_within first queue c.loop-at.invariant.front)) in
    let known : place < length links = omega (arith, met, ap (λ q. get_or q at 0) c.as_slice.ensures, c.loop-at.invariant.size, c.requires.size) in
    let item : c.as_slice-in-loop-at.result.now ≡ get_or links (get_or first at 0) [] =
    c.as_slice-in-loop-at.ensures ∙ get_or_read links place c.index-links-place.result known c.index-links-place.is [] ∙ ap (λ t. get_or links t []) read in
    let rest = linked_by links (drop (at + 1) first) in
    record {
      queue = once_behind-more queue c.meet_all.new.queue c.as_slice-in-loop-at.result.now rest c.in_ok-meet_all.ensures.queue
          ∙ ap (λ xs. queue ++ once_behind queue (xs ++ rest)) item
          ∙ ap (λ ts. queue ++ once_behind queue (linked_by links ts)) (sym (drop_more first at 0 within))
          ∙ c.loop-at.invariant.queue;
      front = front_kept first queue c.meet_all.new.queue (once_behind queue c.as_slice-in-loop-at.result.now) c.loop-at.invariant.front c.in_ok-meet_all.ensures.queue;
      table = c.in_ok-meet_all.ensures.table;
      size = c.meet_all.ensures.size ∙ c.loop-at.invariant.size;
    }
