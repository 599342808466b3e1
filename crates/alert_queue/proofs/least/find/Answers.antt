use Rattle.std.proofs.Common.{◌≡◌, ◌≤◌, ◌+◌, ◌-◌, ◌*◌, ℕ, slice_index, arith, subst, sym}
use Rattle.alert_queue.proofs.Trees.{root_least}
use Rattle.alert_queue.proofs.least.find.Goals as goal

pub returns-clause-least : goal.returns-clause-least
returns-clause-least c j below =
    let nodes = c.args.nodes.now in
    let size = c.args.size in
    let is : size + (c.loop-at.at - size) ≡ c.loop-at.at = omega arith in
    let least : slice_index nodes 1 ≤ slice_index nodes (size + j) = root_least size nodes c.requires (2 * size) (size + j) (omega arith) (omega (arith, c.requires.some)) (omega arith) in
    subst (λ (n : ℕ). slice_index nodes n ≤ slice_index nodes (size + j)) (sym is) (subst (λ (n : ℕ). n ≤ slice_index nodes (size + j)) (sym c.loop-at.invariant.least) least)
