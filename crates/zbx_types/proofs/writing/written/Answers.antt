use Rattle.std.proofs.Common.{◌≡◌, ◌++◌, [], ◌∷◌, ◌∙◌, ap, unsigned_abs, FitsSigned}
use Rattle.std.specs.Int.{w128}
use Rattle.std.proofs.lemmas.Int.{to_z-of_z}
use Rattle.zbx_types.specs.Written.{written_unsigned}
use Rattle.zbx_types.proofs.WrittenLemmas.{written-negative, written-positive}
use Rattle.zbx_types.proofs.writing.written.Goals as goal
use Rattle.zbx_types.proofs.writing.written.Goals.{then-millionths-lt0+in_ok-extend, else-millionths-lt0}

pub returns : goal.returns
returns c =
    let z = c.args.millionths in
    let fits : FitsSigned w128 z = c.ranges.millionths in
    let magnitude = simp to_z-of_z at c.unsigned_abs.ensures.value in
    let put : c.put_unsigned.new.out ≡ c.if-millionths-lt0.text ++ written_unsigned (unsigned_abs z) =
    c.in_ok-put_unsigned.ensures ∙ ap (λ m. c.if-millionths-lt0.text ++ written_unsigned m) magnitude in
    elim c.if-millionths-lt0.branch [
      | then-millionths-lt0+in_ok-extend w ↦
          let minus = simp to_z-of_z at w.if-millionths-lt0.true in
          written-negative z _ _ minus (w.text-is ∙ w.in_ok-extend.ensures.ok ∙ ap (λ s. s ++ 45 ∷ []) c.new-text.ensures) put
      | else-millionths-lt0 w ↦
          let plus = simp to_z-of_z at w.if-millionths-lt0.false in
          written-positive z _ _ plus (w.text-is ∙ c.new-text.ensures) put
    ]
