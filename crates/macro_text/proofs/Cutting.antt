-- The front of a text that goes past a limit.
use Rattle.std.proofs.Common.{◌≡◌, ℕ, ◌+◌, ◌-◌, ◌<◌, ◌≤◌, List, ◌++◌, length, take, sym, ◌∙◌, ap, arith, length-append}
use Rattle.std.proofs.Math.Seq.{take-append-add}
use Rattle.std.proofs.lemmas.List.{take-append-le}

both : (made more : List ℕ) (most : ℕ) → most < length made + length more → most < length (made ++ more)
both made more most l = omega (arith, length-append made more)

-- a text's front is its first part, and of the second one as much as there is room
pub cut_within : (made more rest : List ℕ) (most : ℕ) → length made ≤ most → most < length made + length more → made ++ take (most - length made) more ≡ take most (made ++ more ++ rest)
cut_within made more rest most within longer =
    let e : length made + (most - length made) ≡ most = omega arith in
    let l : most < length (made ++ more) = both made more most longer in
    sym (take-append-add made more (most - length made))
    ∙ ap (λ n. take n (made ++ more)) e
    ∙ sym (take-append-le most (made ++ more) rest (omega (arith, l)))

-- it goes past the limit with what stands behind
pub longer : (made more rest : List ℕ) (most : ℕ) → most < length made + length more → most < length (made ++ more ++ rest)
longer made more rest most l = omega (arith, both made more most l, length-append (made ++ more) rest)
