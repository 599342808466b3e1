-- The sources of a host, one after the other.
use Rattle.std.proofs.Common.{◌≡◌, ℕ, ◌+◌, ◌<◌, ◌≤◌, List, [], ◌∷◌, ◌++◌, length, take, get_or, map, ap, sym, ◌∙◌, append_assoc}
use Rattle.std.specs.Prelude.{codes, slice_get}
use Rattle.std.specs.Option.{option_to_list}
use Rattle.std.specs.List.{flat_map}
use Rattle.std.proofs.lemmas.Grind.{flat_map-append}
use Rattle.std.proofs.lemmas.List.{take_more, take_all, map_push}
use Rattle.dependency_graph.specs.Walks.{walk}
use Rattle.config_read.specs.declared.raw.RawHost.{RawHost}
use Rattle.config_read.specs.declared.raw.RawConf.{RawConf}
use Rattle.host_layout.specs.Places.{Placed}
use Rattle.host_layout.specs.Links.{placed_templates, links_of, templates_named, sources_of}
use Rattle.host_layout.specs.Sources.{placed_of}
use Rattle.host_layout.specs.declared.templates.sources.Source.{Source}
use Rattle.host_layout.proofs.PlacedElements.{placed_at, slice_get-placed}

-- the templates of a walk, as they stand in the document
abbrev pub placed_of_walk : RawConf → List ℕ → List (Placed RawHost)
placed_of_walk raw places = flat_map (λ t. option_to_list (slice_get (placed_templates raw) t)) places

-- one template more
pub sourced_more : (raw : RawConf) (places : List ℕ) (at : ℕ) (t : ℕ) (body : RawHost) (first : List (Placed RawHost)) (made after : List Source) (s : Source) → at < length places → t ≡ get_or places at 0
    → t < length raw.templates → body ≡ get_or raw.templates t body → placed_of s ≡ placed_at (codes "/templates") t body → after ≡ made ++ s ∷ []
    → map placed_of made ≡ first ++ placed_of_walk raw (take at places) → map placed_of after ≡ first ++ placed_of_walk raw (take (at + 1) places)
sourced_more raw places at t body first made after s within is known there is_placed a m =
    let one : placed_of_walk raw (t ∷ []) ≡ placed_at (codes "/templates") t body ∷ [] =
    ap (λ o. option_to_list o ++ []) (slice_get-placed (codes "/templates") raw.templates t body known)
    ∙ ap (λ b. placed_at (codes "/templates") t b ∷ []) (sym there) in
    ap (map placed_of) a ∙ map_push placed_of made s
    ∙ ap (λ x. map placed_of made ++ x ∷ []) is_placed
    ∙ ap (λ xs. xs ++ placed_at (codes "/templates") t body ∷ []) m
    ∙ append_assoc first (placed_of_walk raw (take at places)) (placed_at (codes "/templates") t body ∷ [])
    ∙ ap (λ xs. first ++ (placed_of_walk raw (take at places) ++ xs)) (sym one)
    ∙ ap (λ xs. first ++ xs) (sym (flat_map-append (λ t. option_to_list (slice_get (placed_templates raw) t)) (take at places) (t ∷ [])))
    ∙ ap (λ x. first ++ placed_of_walk raw (take at places ++ x ∷ [])) is
    ∙ ap (λ ts. first ++ placed_of_walk raw ts) (sym (take_more places at 0 within))

-- the host and all templates of its walk
pub sourced_all : (raw : RawConf) (place : ℕ) (host read : RawHost) (s : Source) (none first made : List Source) (links : List (List ℕ)) (own places : List ℕ) (at : ℕ) → none ≡ [] → first ≡ none ++ s ∷ []
    → placed_of s ≡ placed_at (codes "/hosts") place read → read ≡ host → links ≡ links_of raw.templates → own ≡ templates_named raw.templates read.templates → places ≡ walk links own
    → length places ≤ at → map placed_of made ≡ map placed_of first ++ placed_of_walk raw (take at places) → map placed_of made ≡ sources_of raw (placed_at (codes "/hosts") place host)
unfolding sources_of
sourced_all raw place host read s none first made links own places at empty one is_placed is linked named walked all m =
    m ∙ ap (λ ts. map placed_of first ++ placed_of_walk raw ts) (take_all at places all ∙ walked)
    ∙ ap (λ ss. map placed_of ss ++ placed_of_walk raw (walk links own)) (one ∙ ap (λ ss. ss ++ s ∷ []) empty)
    ∙ ap (λ p. p ∷ placed_of_walk raw (walk links own)) is_placed
    ∙ ap (λ ls. placed_at (codes "/hosts") place read ∷ placed_of_walk raw (walk ls own)) linked
    ∙ ap (λ o. placed_at (codes "/hosts") place read ∷ placed_of_walk raw (walk (links_of raw.templates) o)) named
    ∙ ap (sources_of raw) (ap (placed_at (codes "/hosts") place) is)
