use Rattle.std.proofs.Common.{◌≡◌, ◌<◌, ◌+◌, ◌-◌, ◌∷◌, ◌∙◌, refl, ap, arith, get_or, set, length, length-set}
use Rattle.std.specs.Vec.Iter.{into_iter_items}
use Rattle.book.proofs.Batches.{keep_more}
use Rattle.book.proofs.inputs.keep.Goals as goal

pub loop-list-preserved : goal.loop-list-preserved
loop-list-preserved c =
    let v = c.in-Some.list in
    let rest = into_iter_items c.next.new.self in
    let is : into_iter_items c.loop-list.list-iterator ≡ v ∷ rest = c.in-Some.ensures.steps.0 in
    let fewer = c.in-Some.ensures.steps.1 in
    let count = ap length is in
    let before = c.loop-list.invariant.counted in
    let left = c.loop-list.invariant.left in
    let d = c.index-entries-place.result in
    let e = get_or c.args.entries.now c.loop-list.place d in
    let inside : c.loop-list.place < length c.args.entries.now = omega (arith, count, left) in
    let bounds = c.requires.within c.loop-list.place d inside in
    record {
      counted = omega (arith, fewer, count, before);
      left = omega (arith, count, left);
      size = length-set c.loop-list.made.items (e.number - (c.args.before + 1)) v ∙ c.loop-list.invariant.size;
      kept = λ n l. keep_more c.args.before c.loop-list.made.items (set c.loop-list.made.items (e.number - (c.args.before + 1)) v) c.args.entries.now c.loop-list.place n d v rest (into_iter_items c.loop-list.list-iterator) inside refl (bounds.0, omega (arith, bounds.1, c.loop-list.invariant.size)) l is ∙ c.loop-list.invariant.kept n l;
    }
