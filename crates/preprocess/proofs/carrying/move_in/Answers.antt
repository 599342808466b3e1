use Rattle.std.proofs.Common.{◌∙◌, map, refl, arith}
use Rattle.value_cache.specs.Cells.{CellView}
use Rattle.preprocess.proofs.Moving.{moved_on, intact_on, all_moved, count_values, count_cells}
use Rattle.preprocess.proofs.carrying.move_in.Goals as goal

pub move_one-requires : goal.move_one-requires
move_one-requires c =
    let many = count_cells c.loop-place.made.items c.args.made.now.items c.args.olds.now c.loop-place.invariant.keeps c.requires.count in
    omega (arith, many, c.loop-place-test.true)

pub loop-place-init : goal.loop-place-init
loop-place-init c = record { keeps = refl; values = refl; intact = λ p id l e. refl; of = λ cache h k. h; left = λ cache h. h }

pub loop-place-preserved : goal.loop-place-preserved
loop-place-preserved c =
    let was = c.args.cells.now.items in
    let many = count_values c.loop-place.made.items c.args.made.now.items c.args.olds.now c.loop-place.invariant.keeps c.requires.count in
    record {
      keeps = c.move_one.ensures.keeps ∙ c.loop-place.invariant.keeps;
      values =
          moved_on c.args.now c.loop-place.place c.args.olds.now was c.loop-place.cells.items (map (λ (x : CellView). x.values) c.loop-place.made.items) (map (λ (x : CellView). x.values) c.move_one.new.made.items)
          _ _ c.loop-place-test.true many refl c.loop-place.invariant.intact c.move_one.ensures.values c.loop-place.invariant.values;
      intact =
          intact_on c.loop-place.place c.args.olds.now was c.loop-place.cells.items c.move_one.new.cells.items _ _ c.requires.apart c.loop-place-test.true refl
          c.move_one.ensures.others c.loop-place.invariant.intact;
      of = λ cache h k. c.move_one.ensures.of cache (c.loop-place.invariant.of cache h k) (c.loop-place.invariant.left cache k);
      left = λ cache h. c.move_one.ensures.left cache (c.loop-place.invariant.left cache h);
    }

pub returns-clause-values : goal.returns-clause-values
returns-clause-values c =
    let many = count_values c.loop-place.made.items c.args.made.now.items c.args.olds.now c.loop-place.invariant.keeps c.requires.count in
    all_moved c.args.now c.loop-place.place c.args.olds.now c.args.cells.now.items (map (λ (x : CellView). x.values) c.loop-place.made.items) (omega (arith, c.loop-place-test.false)) many c.loop-place.invariant.values

pub returns-clause-of : goal.returns-clause-of
returns-clause-of c = c.loop-place.invariant.of
