use Rattle.std.proofs.Common.{ap, ◌∙◌, arith}
use Rattle.std.specs.Fmt.{char_count}
use Rattle.std.proofs.lemmas.List.{drop_all}
use Rattle.event_text.proofs.CutLemmas.{count_drop, count_within, count_none}
use Rattle.event_text.proofs.fronts.char_count.Goals as goal

pub overflow_add-count : goal.overflow_add-count
overflow_add-count c =
    let step = count_drop c.args.text.now c.loop-byte.byte-index c.loop-byte-test.true in
    let within = count_within c.args.text.now in
    omega (arith, step, within)

pub loop-byte-preserved : goal.loop-byte-preserved
loop-byte-preserved c =
    let step = count_drop c.args.text.now c.loop-byte.byte-index c.loop-byte-test.true in
    omega (arith, step)

pub returns : goal.returns
returns c =
    let none = ap char_count (drop_all c.loop-byte.byte-index c.args.text.now c.loop-byte-test.false) ∙ count_none in
    omega (arith, none)
