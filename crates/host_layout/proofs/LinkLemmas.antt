-- The places that links lead to.
use Rattle.std.proofs.Common.{◌≡◌, ℕ, ◌<◌, Bool, List, [], ◌∷◌, length, get_or, map, All, Option, Some, None, refl, ap, sym, ◌∙◌, subst}
use Rattle.std.proofs.lemmas.List.{length-map, get_or-map}
use Rattle.std.specs.Prelude.{position}
use Rattle.std.specs.Option.{option_to_list}
use Rattle.std.specs.Str.{bytes_eq}
use Rattle.std.proofs.lemmas.List.Elements.{All-nil, All-cons, All-append, All-map, All-same}
use Rattle.std.proofs.lemmas.List.Quantifiers.{position-Some}
use Rattle.dependency_graph.specs.Walks.{walk}
use Rattle.dependency_graph.proofs.Levels.{walked-still}
use Rattle.config_read.specs.declared.raw.RawHost.{RawHost}
use Rattle.host_layout.specs.Links.{template_named, templates_named, links_of}

position-within : {A : Type 0} (p : A → Bool) (xs : List A) (t : ℕ) → position p xs ≡ Some t → t < length xs
position-within p [] t e = absurd (let no : ⊥ = cc in no)
position-within p (x ∷ xs) t e = (position-Some p (x ∷ xs) t x e).0

-- one that is known stands in the list
named-within : (templates : List RawHost) (name : List ℕ) → All (λ t. t < length templates) (option_to_list (template_named templates name))
named-within templates name = go (template_named templates name) refl
  where
    go : (found : Option ℕ) → template_named templates name ≡ found → All (λ t. t < length templates) (option_to_list found)
    go None e = All-nil (λ t. t < length templates)
    go (Some t) e = All-cons (λ t. t < length templates) t [] (position-within (λ h. bytes_eq h.name name) templates t e) (All-nil (λ t. t < length templates))

pub templates_named-within : (templates : List RawHost) (names : List (List ℕ)) → All (λ t. t < length templates) (templates_named templates names)
templates_named-within templates [] = All-nil (λ t. t < length templates)
templates_named-within templates (name ∷ names) =
    All-append (λ t. t < length templates) (option_to_list (template_named templates name)) (templates_named templates names)
    (named-within templates name) (templates_named-within templates names)

-- each link leads into the list
pub links_of-closed : (templates : List RawHost) (links : List (List ℕ)) → links ≡ links_of templates → All (λ places. All (λ t. t < length links) places) links
links_of-closed templates links e =
    let size : length links ≡ length templates = ap length e ∙ length-map templates (λ t. templates_named templates t.templates) in
    let P : ℕ → List ℕ → Type 0 = λ n places. All (λ t. t < n) places in
    let Q : ℕ → Type 0 = λ n. All (P n) links in
    subst Q (sym size) (All-same (P (length templates)) links (links_of templates) e
    (All-map (P (length templates)) (λ t. templates_named templates t.templates) templates (λ k d within. templates_named-within templates (get_or templates k d).templates)))

-- none lead to none
pub walk-nil : (links : List (List ℕ)) → walk links [] ≡ []
unfolding walk
walk-nil links = walked-still links (length links) [] refl (λ k no. no)

-- the places of a host's templates, as they are held
pub host-places : (templates hosts : List RawHost) (at : ℕ) (host : RawHost) (links : List (List ℕ)) (places : List ℕ) → at < length hosts → host ≡ get_or hosts at host
    → links ≡ map (λ h. templates_named templates h.templates) hosts → places ≡ get_or links at places → places ≡ templates_named templates host.templates
host-places templates hosts at host links places within there made is =
    is ∙ ap (λ ls. get_or ls at places) made ∙ get_or-map (λ h. templates_named templates h.templates) hosts at host places within
    ∙ ap (λ h. templates_named templates h.templates) (sym there)

-- there are as many lists of places as templates
pub links_of-length : (templates : List RawHost) (links : List (List ℕ)) → links ≡ links_of templates → length links ≡ length templates
links_of-length templates links e = ap length e ∙ length-map templates (λ t. templates_named templates t.templates)
