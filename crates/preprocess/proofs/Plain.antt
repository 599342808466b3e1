-- Steps without patterns.
use Rattle.std.proofs.Common.{◌≡◌, ℕ, zero, suc, List, [], ◌∷◌, true, not, true≢false, Option, Some, None, IfSome, slice_get, slice_index_or, refl, sym, ◌∙◌, ap, subst, is_some}
use Rattle.std.specs.List.{list_all}
use Rattle.std.proofs.lemmas.List.Sums.{AllPass-from_list_all}
use Rattle.zbx_types.specs.Ids.{at_id}
use Rattle.zbx_types.specs.declared.items.Item.{Item}
use Rattle.zbx_types.specs.declared.steps.StepSpec.{StepSpec}
use Rattle.preprocess.specs.Ways.{HasPattern, HavePatterns, is_plain, are_plain}
use Rattle.zbx_types.proofs.RowLemmas.{at_zero, at_suc}
use Rattle.preprocess.proofs.Visiting.{both}

plain_step : (patterns : List (List ℕ)) (step : StepSpec) → is_plain step ≡ true → HasPattern patterns step
plain_step patterns step p h = absurd (true≢false (sym p ∙ ap not h))

plain_steps : (patterns : List (List ℕ)) (steps : List StepSpec) → list_all is_plain steps ≡ true → HavePatterns patterns steps
plain_steps patterns steps p = λ k d l. plain_step patterns (slice_index_or steps k d) (AllPass-from_list_all is_plain steps p k d l)

plain_item : (items : List Item) (k : ℕ) (item : Item) → list_all are_plain items ≡ true → slice_get items k ≡ Some item → are_plain item ≡ true
plain_item [] k item p e = absurd (true≢false (sym (ap is_some e)))
plain_item (i ∷ items) zero item p e = let s : i ≡ item = cc in subst (λ x. are_plain x ≡ true) s (both (are_plain i) (list_all are_plain items) p).0
plain_item (i ∷ items) (suc k) item p e = plain_item items k item (both (are_plain i) (list_all are_plain items) p).1 e

-- any patterns do
pub plain_items : (patterns : List (List ℕ)) (items : List Item) → list_all are_plain items ≡ true → (id : ℕ) → IfSome (at_id items id) (λ item. HavePatterns patterns item.steps)
plain_items patterns items p zero = subst (λ o. IfSome o (λ item. HavePatterns patterns item.steps)) (sym (at_zero items)) tt
plain_items patterns items p (suc k) = subst (λ o. IfSome o (λ item. HavePatterns patterns item.steps)) (sym (at_suc items k)) (go (slice_get items k) refl)
  where
    go : (o : Option Item) → slice_get items k ≡ o → IfSome o (λ item. HavePatterns patterns item.steps)
    go None e = tt
    go (Some item) e = plain_steps patterns item.steps (plain_item items k item p e)
