use Rattle.std.proofs.Common.{◌≡◌, ◌++◌, ◌-◌, length}
use Rattle.footprint.specs.Feet.{chain}
use Rattle.footprint.proofs.tables.chain.Given as goal

abbrev pub invariant-loop-step : goal.invariant-loop-step
invariant-loop-step l = l.row ++ chain l.conf (length l.conf.items - l._step) l.at ≡ chain l.conf (length l.conf.items) l.fn.item
