use Rattle.std.proofs.Common.{◌*◌, ◌/◌, ◌≤◌, ◌<◌, sym, arith}
use Rattle.std.proofs.lemmas.Nat.{div-add-mod', le-div}
use Rattle.std.proofs.Math.Nat.{mul-le-mul_right}
use Rattle.maintenance.proofs.series.rest.Goals as goal

pub returns-else-step-eq0-clause-multiple : goal.returns-else-step-eq0-clause-multiple
returns-else-step-eq0-clause-multiple c = (c.args.number / c.args.step, sym (div-add-mod' c.args.number c.args.step))

pub returns-else-step-eq0-clause-least : goal.returns-else-step-eq0-clause-least
returns-else-step-eq0-clause-least c = λ times h.
    let some : 0 < c.args.step = omega arith in
    let few : times ≤ c.args.number / c.args.step = le-div times c.args.number c.args.step some h in
    let whole = div-add-mod' c.args.number c.args.step in
    let less : times * c.args.step ≤ c.args.number / c.args.step * c.args.step = mul-le-mul_right {m = times} {n = c.args.number / c.args.step} c.args.step few in
    omega arith
