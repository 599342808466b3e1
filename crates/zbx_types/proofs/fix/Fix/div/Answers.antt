use Rattle.std.proofs.Common.{rules, ◌∙◌, sym, FitsSigned}
use Rattle.std.specs.Int.{w128}
use Rattle.std.proofs.lemmas.Int.{to_z-of_z}
use Rattle.zbx_types.proofs.ArithmeticLemmas.{scaled_fits, quotient_fits, taken_in_range, quotient_is}
use Rattle.zbx_types.proofs.fix.Fix.div.Goals as goal

pub returns : goal.returns
returns c =
    let a = c.self.inside.raw in
    let b = c.other.inside.raw in
    let a_in : FitsSigned w128 a = search rules in
    let b_in : FitsSigned w128 b = search rules in
    let scaled = scaled_fits a c.self.invariant in
    let quotient = quotient_fits a b c.self.invariant in
    let taken = simp to_z-of_z at c.of_raw.ensures in
    rw (← c.self.view_is, ← c.other.view_is) (taken_in_range _ _ taken ∙ sym (quotient_is a b c.if-other-eq0.false))
