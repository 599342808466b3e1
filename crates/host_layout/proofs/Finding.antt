-- The first item, by its id, of which a test holds.
use Rattle.std.proofs.Common.{◌≡◌, ℕ, ◌+◌, ◌<◌, Bool, true, false, List, [], ◌∷◌, length, drop, get_or, refl, ap, sym, ◌∙◌, arith}
use Rattle.std.specs.Prelude.{Option, Some, cond, find}
use Rattle.std.proofs.lemmas.List.{drop_more}
use Rattle.zbx_types.specs.Ids.{ids_from}
use Rattle.zbx_types.specs.declared.items.Item.{Item}

there : {P : Type 0} (items : List Item) (place : ℕ) → place < length items → ((i : Item) → P) → P
there [] place h f = absurd (let no : ⊥ = omega (arith, h) in no)
there (i ∷ items) place h f = f i

rest : (test : ℕ → Bool) (items : List Item) (place : ℕ) → place < length items
    → find test (ids_from (place + 1) (drop place items)) ≡ cond (test (place + 1)) (Some (place + 1)) (find test (ids_from (place + 1 + 1) (drop (place + 1) items)))
rest test items place h = there items place h (λ i. ap (λ is. find test (ids_from (place + 1) is)) (drop_more items place i h))

-- it is this one
pub here : (test : ℕ → Bool) (items : List Item) (place : ℕ) → place < length items → test (place + 1) ≡ true → find test (ids_from (place + 1) (drop place items)) ≡ Some (place + 1)
here test items place h t = rest test items place h ∙ ap (λ b. cond b (Some (place + 1)) (find test (ids_from (place + 1 + 1) (drop (place + 1) items)))) t

-- it isn't
pub behind : (test : ℕ → Bool) (items : List Item) (place : ℕ) → place < length items → test (place + 1) ≡ false
    → find test (ids_from (place + 1 + 1) (drop (place + 1) items)) ≡ find test (ids_from (place + 1) (drop place items))
behind test items place h t = sym (rest test items place h ∙ ap (λ b. cond b (Some (place + 1)) (find test (ids_from (place + 1 + 1) (drop (place + 1) items)))) t)
