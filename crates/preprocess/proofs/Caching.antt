-- Visits whose values stand in a cache.
use Rattle.std.proofs.Common.{◌≡◌, ◌≢◌, ◌<◌, ◌+◌, ℕ, length, drop, get_or, List, [], ◌∷◌, ◌++◌, Option, Some, None, IfSome, option_map, refl, ap, sym, ◌∙◌, subst}
use Rattle.std.proofs.lemmas.List.{map-append, drop_more}
use Rattle.std.proofs.lemmas.List.Elements.{filter_map-append, All-append, All-cons, All-nil, All-head, All-tail}
use Rattle.std.specs.List.{cons_option, AllByRecursion}
use Rattle.value_cache.specs.Cells.{CellView}
use Rattle.value_cache.specs.Tokens.{CacheId, TokenView, IsOf, AreOf}
use Rattle.preprocess.specs.Draft.{HasRoom, HaveRoom, stored_by, stored_of, stored_at}
use Rattle.preprocess.specs.Cached.{outcome_in, visit_in, token_by, visits_shown, tokens_shown}
use Rattle.preprocess.specs.declared.cached.CachedOutcome.{CachedOutcome}
use Rattle.preprocess.specs.declared.cached.CachedOutcome.TheVariants as cached
use Rattle.preprocess.specs.declared.cached.CachedVisit.{CachedVisit}
use Rattle.preprocess.specs.declared.visit.Visit.{Visit}
use Rattle.preprocess.proofs.Keeping.{other_visit}

-- one more
pub shown_more : (before after : List CachedVisit) (v : CachedVisit) (visit : Visit) → visit_in v ≡ visit → after ≡ before ++ v ∷ [] → visits_shown after ≡ visits_shown before ++ visit ∷ []
shown_more before after v visit is e = ap visits_shown e ∙ map-append visit_in before (v ∷ []) ∙ ap (λ x. visits_shown before ++ x ∷ []) is

own_token : (cache : CacheId) (o : Option TokenView) → IfSome o (IsOf cache) → AreOf cache (cons_option o [])
own_token cache None h = All-nil (IsOf cache)
own_token cache (Some t) h = All-cons (IsOf cache) t [] h (All-nil (IsOf cache))

pub of_more : (cache : CacheId) (before after : List CachedVisit) (v : CachedVisit) → IfSome (token_by v.outcome) (IsOf cache) → after ≡ before ++ v ∷ []
    → AreOf cache (tokens_shown before) → AreOf cache (tokens_shown after)
of_more cache before after v h e all =
    subst (λ vs. AreOf cache (tokens_shown vs)) (sym e)
    (subst (AreOf cache) (sym (filter_map-append (λ (w : CachedVisit). token_by w.outcome) before (v ∷ [])))
    (All-append (IsOf cache) (tokens_shown before) (cons_option (token_by v.outcome) []) all (own_token cache (token_by v.outcome) h)))

-- the first of some
first_of : (cache : CacheId) (o : Option TokenView) (ts : List TokenView) → AreOf cache (cons_option o ts) → IfSome o (IsOf cache) × AreOf cache ts
first_of cache None ts h = (tt, h)
first_of cache (Some t) ts h = (All-head (IsOf cache) t ts h, All-tail (IsOf cache) t ts h)

pub of_parts : (cache : CacheId) (v : CachedVisit) (rest : List CachedVisit) → AreOf cache (tokens_shown (v ∷ rest)) → IfSome (token_by v.outcome) (IsOf cache) × AreOf cache (tokens_shown rest)
of_parts cache v rest h = first_of cache (token_by v.outcome) (tokens_shown rest) h

-- the one at a place, and those behind it
pub of_on : (cache : CacheId) (visits : List CachedVisit) (i : ℕ) (v d : CachedVisit) → i < length visits → v ≡ get_or visits i d → AreOf cache (tokens_shown (drop i visits))
    → IfSome (token_by v.outcome) (IsOf cache) × AreOf cache (tokens_shown (drop (i + 1) visits))
of_on cache visits i v d l e h =
    of_parts cache v (drop (i + 1) visits) (subst (λ vs. AreOf cache (tokens_shown vs)) (drop_more visits i d l ∙ ap (λ (x : CachedVisit). x ∷ drop (i + 1) visits) (sym e)) h)

pub stored_on : (visits : List CachedVisit) (i id : ℕ) (v d : CachedVisit) → i < length visits → v ≡ get_or visits i d → v.item ≢ id
    → stored_at (visits_shown (drop (i + 1) visits)) id ≡ stored_at (visits_shown (drop i visits)) id
stored_on visits i id v d l e ne =
    sym (ap (λ vs. stored_at (visits_shown vs) id) (drop_more visits i d l ∙ ap (λ (x : CachedVisit). x ∷ drop (i + 1) visits) (sym e))
    ∙ ap stored_of (other_visit id (visit_in v) (visits_shown (drop (i + 1) visits)) ne))

-- what is stored is what the token shows
pub token_shows : (o : CachedOutcome) → option_map (λ t. t.value) (token_by o) ≡ stored_by (outcome_in o)
token_shows (cached.Stored token) = refl
token_shows cached.Discarded = refl
token_shows (cached.Failed why) = refl

-- room for each
pub rooms_shown : (cells : List CellView) (visits : List CachedVisit) → AllByRecursion (λ v. HasRoom cells v.item) visits → HaveRoom cells (visits_shown visits)
rooms_shown cells [] h = tt
rooms_shown cells (v ∷ visits) h = (h.0, rooms_shown cells visits h.1)
