use Rattle.std.proofs.Common.{◌≡◌, ◌+◌, ◌∙◌, ℕ, List, [], ◌∷◌, ◌++◌, length, map, refl, sym, ap, arith, length-append}
use Rattle.zbx_types.specs.Ids.{ids_from}
use Rattle.zbx_types.specs.declared.entries.Numbered.{Numbered}
use Rattle.event_cases.proofs.claims.entries.Goals as goal

one_more : (k : ℕ) (xs : List Numbered) (x : Numbered) → map (λ (e : Numbered). e.number) xs ≡ ids_from k xs → x.number ≡ k + length xs → map (λ (e : Numbered). e.number) (xs ++ x ∷ []) ≡ ids_from k (xs ++ x ∷ [])
one_more k [] x off at = let q : x.number ≡ k = omega arith in rw q refl
one_more k (y ∷ xs) x off at =
    let a : y.number ≡ k = cc in
    let t : map (λ (e : Numbered). e.number) xs ≡ ids_from (k + 1) xs = cc in
    let r = one_more (k + 1) xs x t (omega arith) in
    rw (a, r) refl

pub loop-place-preserved : goal.loop-place-preserved
loop-place-preserved c =
    let x : Numbered = record { number = c.args.first + c.loop-place.place; entry = c.entry.result } in
    record {
      size = ap length c.in_ok-push.ensures.ok ∙ length-append c.loop-place.made (x ∷ []) ∙ omega (arith, c.loop-place.invariant.size);
      numbers =
          ap (map (λ (e : Numbered). e.number)) c.in_ok-push.ensures.ok
          ∙ one_more c.args.first c.loop-place.made x c.loop-place.invariant.numbers (omega (arith, c.loop-place.invariant.size))
          ∙ sym (ap (ids_from c.args.first) c.in_ok-push.ensures.ok);
    }
