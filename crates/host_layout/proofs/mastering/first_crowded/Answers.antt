use Rattle.std.proofs.Common.{◌≡◌, ◌+◌, ◌∙◌, Some, true, false, sym, ap, arith}
use Rattle.std.specs.Prelude.{◌==◌, if◌then◌else◌}
use Rattle.host_layout.specs.Masters.{is_crowded}
use Rattle.host_layout.specs.Counting.{count_in}
use Rattle.host_layout.proofs.Finding.{here, behind}
use Rattle.host_layout.proofs.Fellows.{crowded_now, counted_more}
use Rattle.host_layout.proofs.mastering.first_crowded.Goals as goal

pub returns-then-branch : goal.returns-then-branch
returns-then-branch c =
    let items = c.args.items.now in
    let item = c.index-items-place.result in
    let t : is_crowded items (c.loop-place.place + 1) ≡ true =
    crowded_now items c.loop-place.place item (count_in c.loop-place.dependents) (omega arith) c.index-items-place.is c.loop-place.invariant.counted ∙ sym c.in_ok-add.ensures.full ∙ c.if-branch.true in
    ap (λ n. Some n) c.in_ok-id_of.ensures ∙ sym (here (is_crowded items) items c.loop-place.place (omega arith) t) ∙ c.loop-place.invariant.found

pub loop-place-preserved : goal.loop-place-preserved
loop-place-preserved c =
    let items = c.args.items.now in
    let item = c.index-items-place.result in
    let t : is_crowded items (c.loop-place.place + 1) ≡ false =
    crowded_now items c.loop-place.place item (count_in c.loop-place.dependents) (omega arith) c.index-items-place.is c.loop-place.invariant.counted ∙ sym c.in_ok-add.ensures.full ∙ c.if-branch.false in
    record {
      found = behind (is_crowded items) items c.loop-place.place (omega arith) t ∙ c.loop-place.invariant.found;
      counted = λ m z.
          c.in_ok-add.ensures.counted c.if-branch.false m z
          ∙ ap (λ n. n + (if item.master == m then 1 else 0)) (c.loop-place.invariant.counted m z)
          ∙ sym (counted_more items c.loop-place.place item m (omega arith) c.index-items-place.is);
    }
