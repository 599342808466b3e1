-- Places of origins.
use Rattle.std.proofs.Common.{◌≡◌, ◌∙◌, ◌<◌, ◌+◌, ℕ, Bool, true, false, cond, List, ◌∷◌, length, drop, get_or, Option, Some, None, refl, sym, ap}
use Rattle.std.specs.Option.{option_map, option_map_or, option_or}
use Rattle.std.proofs.lemmas.List.{at_drop_more}
use Rattle.zbx_types.specs.Records.{same_event}
use Rattle.zbx_types.specs.declared.conf.Conf.{Conf}
use Rattle.zbx_types.specs.declared.entries.EventId.{EventId}
use Rattle.trigger_state.specs.Naming.{noted}
use Rattle.trigger_state.specs.Origins.{place_of}
use Rattle.trigger_state.specs.Stages.{Origin, Stage, origin_of, home_by, rank_by, home, rank_of}
use Rattle.trigger_state.specs.declared.stage.Place.{Place}

home_found : (conf : Conf) (event : EventId) (place : Place) (o : Option Origin) → Some place ≡ option_map (place_of conf) o → place.home ≡ home_by conf event o
home_found conf event place None e = absurd (cc)
home_found conf event place (Some origin) e = ap (λ (p : Option Place). option_map_or (λ (q : Place). q.home) p 0) e

rank_found : (conf : Conf) (event : EventId) (place : Place) (o : Option Origin) → Some place ≡ option_map (place_of conf) o → place.rank ≡ rank_by conf event o
rank_found conf event place None e = absurd (cc)
rank_found conf event place (Some origin) e = ap (λ (p : Option Place). option_map_or (λ (q : Place). q.rank) p 0) e

-- what is looked up where an event has an origin
pub home_told : (inside stage : Stage) (event : EventId) (place : Place) → inside ≡ stage → Some place ≡ option_map (place_of inside.conf) (origin_of inside.origins event) → place.home ≡ home stage event
home_told inside stage event place same e = home_found inside.conf event place (origin_of inside.origins event) e ∙ ap (λ (s : Stage). home s event) same

pub rank_told : (inside stage : Stage) (event : EventId) (place : Place) → inside ≡ stage → Some place ≡ option_map (place_of inside.conf) (origin_of inside.origins event) → place.rank ≡ rank_of stage event
rank_told inside stage event place same e = rank_found inside.conf event place (origin_of inside.origins event) e ∙ ap (λ (s : Stage). rank_of s event) same

-- the first one counts
more_is : (conf : Conf) (origin : Origin) (b : Bool) (before : Option Place) (rest : Option Origin)
    → option_or (noted before b (place_of conf origin)) (option_map (place_of conf) rest) ≡ option_or before (option_map (place_of conf) (cond b (Some origin) rest))
more_is conf origin b (Some place) rest = refl
more_is conf origin true None rest = refl
more_is conf origin false None rest = refl

-- the places of origins with one more
pub place_more : (conf : Conf) (origins : List Origin) (i : ℕ) (origin : Origin) (event : EventId) (before after found : Option Place) → i < length origins → origin ≡ get_or origins i origin
    → after ≡ noted before (same_event origin.event event) (place_of conf origin) → option_or before (option_map (place_of conf) (origin_of (drop i origins) event)) ≡ found
    → option_or after (option_map (place_of conf) (origin_of (drop (i + 1) origins) event)) ≡ found
place_more conf origins i origin event before after found l is a e =
    let placed : List Origin → Option Place = λ os. option_or before (option_map (place_of conf) (origin_of os event)) in
    ap (λ p. option_or p (option_map (place_of conf) (origin_of (drop (i + 1) origins) event))) a
    ∙ more_is conf origin (same_event origin.event event) before (origin_of (drop (i + 1) origins) event)
    ∙ ap (λ (o : Origin). placed (o ∷ drop (i + 1) origins)) is ∙ sym (at_drop_more placed origins i origin l) ∙ e
