-- The patterns of triggers and of steps are there.
use Rattle.std.proofs.Common.{◌≡◌, ℕ, zero, suc, ◌+◌, ◌<◌, ◌≤◌, List, [], ◌∷◌, Option, Some, None, length, get_or, take, slice_get, refl, sym, ◌∙◌, subst}
use Rattle.std.specs.Prelude.{All, IfSome}
use Rattle.std.proofs.lemmas.List.{take_all}
use Rattle.std.proofs.lemmas.List.Elements.{All-head, All-tail, All-more, All-same}
use Rattle.zbx_types.specs.Ids.{at_id}
use Rattle.zbx_types.specs.declared.conf.Conf.{Conf}
use Rattle.zbx_types.specs.declared.items.Item.{Item}
use Rattle.preprocess.specs.Ways.{HavePatterns}
use Rattle.preprocess.specs.Visits.{ArePatternsOf}
use Rattle.zbx_types.specs.declared.entries.Tag.{Tag}
use Rattle.event_text.specs.Titles.{HasPatterns, HasTitlePatterns, HasTagPatterns}
use Rattle.conf_index.specs.Patterned.{HasTexts, ArePatterned}
use Rattle.zbx_types.proofs.RowLemmas.{at_zero, at_suc}

pub all_more : {X : Type 0} (P : X → Type 0) (xs : List X) (i : ℕ) (d : X) → i < length xs → All P (take i xs) → P (get_or xs i d) → All P (take (i + 1) xs)
all_more P xs i d l h p = All-more P xs i d l h p

pub all_end : {X : Type 0} (P : X → Type 0) (xs : List X) (i : ℕ) → length xs ≤ i → All P (take i xs) → All P xs
all_end P xs i l h = All-same P xs (take i xs) (sym (take_all i xs l)) h

-- the patterns of a trigger
at_place : {X : Type 0} (P : X → Type 0) (xs : List X) (k : ℕ) → All P xs → IfSome (slice_get xs k) P
at_place P [] k h = tt
at_place P (x ∷ xs) zero h = All-head P x xs h
at_place P (x ∷ xs) (suc k) h = at_place P xs k (All-tail P x xs h)

by_its_id : {X : Type 0} (P : X → Type 0) (xs : List X) (id : ℕ) → All P xs → IfSome (at_id xs id) P
by_its_id P xs zero h = subst (λ o. IfSome o P) (sym (at_zero xs)) tt
by_its_id P xs (suc k) h = subst (λ o. IfSome o P) (sym (at_suc xs k)) (at_place P xs k h)

if_some : {X : Type 0} (P Q : X → Type 0) (o : Option X) → ((x : X) → P x → Q x) → IfSome o P → IfSome o Q
if_some P Q None f h = tt
if_some P Q (Some x) f h = f x h

pub title_patterns : (conf : Conf) (patterns : List (List ℕ)) (id : ℕ) → patterns ≡ conf.patterns → ArePatterned conf → HasTitlePatterns patterns conf id
unfolding ArePatterned HasTexts
title_patterns conf patterns id e h =
    subst (λ texts. HasTitlePatterns texts conf id) (sym e)
    (if_some (HasTexts conf.patterns) (λ trigger. HasPatterns conf.patterns trigger.title) (at_id conf.triggers id) (λ t has. has.0) (by_its_id (HasTexts conf.patterns) conf.triggers id h))

pub tag_patterns : (conf : Conf) (patterns : List (List ℕ)) (id : ℕ) → patterns ≡ conf.patterns → ArePatterned conf → HasTagPatterns patterns conf id
unfolding ArePatterned HasTexts
tag_patterns conf patterns id e h =
    subst (λ texts. HasTagPatterns texts conf id) (sym e)
    (if_some (HasTexts conf.patterns) (λ trigger. All (λ (tag : Tag). HasPatterns conf.patterns tag.value) trigger.tags) (at_id conf.triggers id) (λ t has. has.1) (by_its_id (HasTexts conf.patterns) conf.triggers id h))

-- the patterns of all steps are there
pub step_patterns : (conf : Conf) (texts : List (List ℕ)) → All (λ (item : Item). HavePatterns texts item.steps) conf.items → ArePatternsOf conf texts
step_patterns conf texts all id = go (at_id conf.items id) refl
  where
    at : (items : List Item) (k : ℕ) (item : Item) → All (λ (x : Item). HavePatterns texts x.steps) items → slice_get items k ≡ Some item → HavePatterns texts item.steps
    at [] k item h e = cc
    at (x ∷ items) zero item h e = let q : x ≡ item = cc in subst (λ (y : Item). HavePatterns texts y.steps) q (All-head (λ (y : Item). HavePatterns texts y.steps) x items h)
    at (x ∷ items) (suc k) item h e = at items k item (All-tail (λ (y : Item). HavePatterns texts y.steps) x items h) e

    by : (id : ℕ) (item : Item) → at_id conf.items id ≡ Some item → HavePatterns texts item.steps
    by zero item e = let z : None ≡ Some item = sym (at_zero conf.items) ∙ e in cc
    by (suc k) item e = at conf.items k item all (sym (at_suc conf.items k) ∙ e)

    go : (o : Option Item) → at_id conf.items id ≡ o → IfSome o (λ item. HavePatterns texts item.steps)
    go None e = tt
    go (Some item) e = by id item e
