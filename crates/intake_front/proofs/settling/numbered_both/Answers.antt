use Rattle.std.proofs.Common.{◌+◌, ◌++◌, List, length, ap, arith, length-append}
use Rattle.zbx_types.specs.declared.entries.Numbered.{Numbered}
use Rattle.intake_front.specs.Intake.{numbered_from}
use Rattle.intake_front.proofs.Numbers.{both_from, length_numbered}
use Rattle.intake_front.proofs.settling.numbered_both.Goals as goal

pub number-requires-2 : goal.number-requires-2
number-requires-2 c =
    let none = c.new-made.result in
    let first = c.args.first + length none in
    omega (arith, c.requires, ap (λ (l : List Numbered). length l) c.new-made.ensures, ap (λ (l : List Numbered). length l) c.in_ok-number.ensures, length-append none (numbered_from first c.args.ticks.now), length_numbered first c.args.ticks.now)

pub returns : goal.returns
returns c = both_from c.args.first c.new-made.result c.number.new.made c.number-2.new.made c.args.ticks.now c.args.group.now c.new-made.ensures c.in_ok-number.ensures c.in_ok-number-2.ensures
