use Rattle.std.proofs.Common.{rules, FitsSigned}
use Rattle.std.specs.Int.{w128}
use Rattle.std.proofs.lemmas.Int.{to_z-of_z}
use Rattle.std.specs.Str.{IsUtf8}
use Rattle.zbx_types.proofs.ReadAgain.{written-IsUtf8}
use Rattle.zbx_types.proofs.fix.Fix.write.Goals as goal

pub unreachable-requires : goal.unreachable-requires
unreachable-requires c =
    let z = c.self.inside.raw in
    let fits : FitsSigned w128 z = search rules in
    let text = simp to_z-of_z at c.in_ok-bytes.ensures in
    let valid : IsUtf8 c.as_slice.result.now = rw (c.as_slice.ensures, text) (written-IsUtf8 z c.self.invariant) in
    c.in-Err.ensures.cases.0 valid
