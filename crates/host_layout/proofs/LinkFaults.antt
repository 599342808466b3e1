-- The first fault of links, source by source and link by link.
use Rattle.std.proofs.Common.{◌≡◌, ℕ, ◌+◌, ◌<◌, ◌≤◌, List, [], ◌∷◌, ◌++◌, length, drop, get_or, map, Option, Some, None, ap, sym, ◌∙◌, subst, append-nil}
use Rattle.std.specs.Prelude.{codes}
use Rattle.std.specs.Fmt.{decimal}
use Rattle.std.specs.Option.{option_or}
use Rattle.std.proofs.lemmas.List.{drop_more, drop_all}
use Rattle.zbx_types.specs.declared.causes.Cause.{Cause}
use Rattle.json_form.specs.Faults.{Fault}
use Rattle.config_read.specs.declared.raw.RawHost.{RawHost}
use Rattle.host_layout.specs.Places.{Placed, placed_from, fault_or, first_fault}
use Rattle.host_layout.specs.Links.{Link, placed_links}
use Rattle.host_layout.specs.Answers.{Tells}
use Rattle.host_layout.specs.declared.fault.FlatError.{FlatError}
use Rattle.host_layout.proofs.PlacedElements.{placed_at, placed_from-more}
use Rattle.host_layout.proofs.FirstFaults.{first_fault-append, tells_front}

abbrev pub link_of : Placed RawHost → List ℕ → Link
link_of s name = record { from = s.place; to = name }

-- the links of a source from a place on
abbrev pub links_from : Placed RawHost → ℕ → List (Placed Link)
links_from s at = placed_from (s.path ++ codes "/templates") at (map (link_of s) (drop at s.body.templates))

pub links_alone : (s : Placed RawHost) → placed_links (s ∷ []) ≡ links_from s 0
links_alone s = append-nil (links_from s 0)

links_from-more : (s : Placed RawHost) (at : ℕ) (name : List ℕ) → at < length s.body.templates → name ≡ get_or s.body.templates at name
    → links_from s at ≡ placed_at (s.path ++ codes "/templates") at (link_of s name) ∷ links_from s (at + 1)
links_from-more s at name within is =
    let F : List (List ℕ) → List (Placed Link) = λ names. placed_from (s.path ++ codes "/templates") at (map (link_of s) names) in
    ap F (drop_more s.body.templates at name within)
    ∙ ap (λ n. placed_at (s.path ++ codes "/templates") at (link_of s n) ∷ links_from s (at + 1)) (sym is)

-- a link without a fault is passed
pub link_passed : (check : Link → Option Cause) (s : Placed RawHost) (at : ℕ) (name : List ℕ) (whole : Option Fault) → at < length s.body.templates → name ≡ get_or s.body.templates at name
    → check (link_of s name) ≡ None → first_fault check (links_from s at) ≡ whole → first_fault check (links_from s (at + 1)) ≡ whole
link_passed check s at name whole within is none rest =
    sym (ap (first_fault check) (links_from-more s at name within is)
    ∙ ap (λ cause. fault_or cause (s.path ++ codes "/templates" ++ codes "/" ++ decimal at) (first_fault check (links_from s (at + 1)))) none)
    ∙ rest

-- the first link with a fault tells it
pub link_told : (check : Link → Option Cause) (s : Placed RawHost) (at : ℕ) (name : List ℕ) (cause : Cause) (whole : Option Fault) (e : FlatError) → at < length s.body.templates → name ≡ get_or s.body.templates at name
    → check (link_of s name) ≡ Some cause → first_fault check (links_from s at) ≡ whole
    → Tells e (Some (record { path = s.path ++ codes "/templates" ++ codes "/" ++ decimal at; cause = cause })) → Tells e whole
link_told check s at name cause whole e within is some rest told =
    let here : first_fault check (links_from s at) ≡ Some (record { path = s.path ++ codes "/templates" ++ codes "/" ++ decimal at; cause = cause }) =
    ap (first_fault check) (links_from-more s at name within is)
    ∙ ap (λ c. fault_or c (s.path ++ codes "/templates" ++ codes "/" ++ decimal at) (first_fault check (links_from s (at + 1)))) some in
    subst (Tells e) (sym here ∙ rest) told

-- behind the last link there is no fault
pub links_done : (check : Link → Option Cause) (s : Placed RawHost) (at : ℕ) (whole : Option Fault) → length s.body.templates ≤ at → first_fault check (links_from s at) ≡ whole → whole ≡ None
links_done check s at whole all rest =
    let F : List (List ℕ) → Option Fault = λ names. first_fault check (placed_from (s.path ++ codes "/templates") at (map (link_of s) names)) in
    sym rest ∙ ap F (drop_all at s.body.templates all)

-- the links of the sources from a place on
abbrev pub sources_from : List ℕ → List RawHost → ℕ → List (Placed Link)
sources_from path bodies place = placed_links (placed_from path place (drop place bodies))

sources_from-more : (check : Link → Option Cause) (path : List ℕ) (bodies : List RawHost) (place : ℕ) (body : RawHost) → place < length bodies → body ≡ get_or bodies place body
    → first_fault check (sources_from path bodies place) ≡ option_or (first_fault check (placed_links (placed_at path place body ∷ []))) (first_fault check (sources_from path bodies (place + 1)))
sources_from-more check path bodies place body within is =
    let p = placed_at path place body in
    ap (λ ps. first_fault check (placed_links ps)) (placed_from-more path bodies place body within)
    ∙ ap (λ b. first_fault check (placed_links (placed_at path place b ∷ placed_from path (place + 1) (drop (place + 1) bodies)))) (sym is)
    ∙ first_fault-append check (links_from p 0) (sources_from path bodies (place + 1))
    ∙ ap (λ ls. option_or (first_fault check ls) (first_fault check (sources_from path bodies (place + 1)))) (sym (links_alone p))

-- a source without a fault is passed
pub source_passed : (check : Link → Option Cause) (path : List ℕ) (bodies : List RawHost) (place : ℕ) (body : RawHost) (whole : Option Fault) → place < length bodies → body ≡ get_or bodies place body
    → first_fault check (placed_links (placed_at path place body ∷ [])) ≡ None → first_fault check (sources_from path bodies place) ≡ whole → first_fault check (sources_from path bodies (place + 1)) ≡ whole
source_passed check path bodies place body whole within is none rest =
    sym (sources_from-more check path bodies place body within is ∙ ap (λ f. option_or f (first_fault check (sources_from path bodies (place + 1)))) none) ∙ rest

-- the first source with a fault tells it
pub source_told : (check : Link → Option Cause) (path : List ℕ) (bodies : List RawHost) (place : ℕ) (body : RawHost) (whole : Option Fault) (e : FlatError) → place < length bodies → body ≡ get_or bodies place body
    → first_fault check (sources_from path bodies place) ≡ whole → Tells e (first_fault check (placed_links (placed_at path place body ∷ []))) → Tells e whole
source_told check path bodies place body whole e within is rest told =
    subst (Tells e) (sym (sources_from-more check path bodies place body within is) ∙ rest)
    (tells_front e (first_fault check (placed_links (placed_at path place body ∷ []))) (first_fault check (sources_from path bodies (place + 1))) told)

-- behind the last source there is no fault
pub sources_done : (check : Link → Option Cause) (path : List ℕ) (bodies : List RawHost) (place : ℕ) (whole : Option Fault) → length bodies ≤ place → first_fault check (sources_from path bodies place) ≡ whole → whole ≡ None
sources_done check path bodies place whole all rest =
    sym rest ∙ ap (λ bs. first_fault check (placed_links (placed_from path place bs))) (drop_all place bodies all)
