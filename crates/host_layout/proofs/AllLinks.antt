-- The faults of all links of a document.
use Rattle.std.proofs.Common.{◌≡◌, ℕ, ◌+◌, ◌<◌, List, [], ◌∷◌, ◌++◌, length, take, get_or, map, Option, None, ap, sym, ◌∙◌, subst}
use Rattle.std.specs.Prelude.{codes}
use Rattle.std.specs.Option.{option_or}
use Rattle.std.proofs.lemmas.Grind.{flat_map-append}
use Rattle.std.proofs.lemmas.List.{map_more}
use Rattle.zbx_types.specs.declared.causes.Cause.{Cause}
use Rattle.config_read.specs.declared.raw.RawHost.{RawHost}
use Rattle.config_read.specs.declared.raw.RawConf.{RawConf}
use Rattle.host_layout.specs.Places.{Placed, placed, first_fault}
use Rattle.host_layout.specs.Links.{Link, placed_links, placed_templates, placed_hosts, templates_named, unknown_link, cycle_link, unknown_links, cycles}
use Rattle.host_layout.specs.Linked.{link_faults}
use Rattle.host_layout.specs.Answers.{Tells}
use Rattle.host_layout.specs.declared.fault.FlatError.{FlatError}
use Rattle.host_layout.proofs.FirstFaults.{first_fault-append, tells_front}
use Rattle.host_layout.proofs.LinkFaults.{links_from}

placed_links-append : (xs ys : List (Placed RawHost)) → placed_links (xs ++ ys) ≡ placed_links xs ++ placed_links ys
placed_links-append xs ys = flat_map-append (λ s. links_from s 0) xs ys

-- one source more was linked
pub linked_more : (templates bodies : List RawHost) (at : ℕ) (body : RawHost) (before after : List (List ℕ)) (places : List ℕ) → at < length bodies → body ≡ get_or bodies at body
    → before ≡ map (λ b. templates_named templates b.templates) (take at bodies) → places ≡ templates_named templates body.templates → after ≡ before ++ places ∷ []
    → after ≡ map (λ b. templates_named templates b.templates) (take (at + 1) bodies)
linked_more templates bodies at body before after places within is b p a =
    a ∙ ap (λ r. r ++ places ∷ []) b
    ∙ ap (λ r. map (λ b. templates_named templates b.templates) (take at bodies) ++ r ∷ []) (p ∙ ap (λ b. templates_named templates b.templates) is)
    ∙ sym (map_more (λ b. templates_named templates b.templates) bodies at body within)

-- the first unknown name is that of the templates, or else that of the hosts
pub unknown_links-parts : (raw : RawConf) → unknown_links raw ≡ option_or (first_fault (unknown_link raw.templates) (placed_links (placed_templates raw))) (first_fault (unknown_link raw.templates) (placed_links (placed_hosts raw)))
unfolding unknown_links
unknown_links-parts raw =
    ap (first_fault (unknown_link raw.templates)) (placed_links-append (placed_templates raw) (placed_hosts raw))
    ∙ first_fault-append (unknown_link raw.templates) (placed_links (placed_templates raw)) (placed_links (placed_hosts raw))

-- the links of a list that the code looks at, with the templates that it holds
same_links : (check : List RawHost → Link → Option Cause) (path : List ℕ) (ts us bodies cs : List RawHost) → ts ≡ us → bodies ≡ cs
    → first_fault (check ts) (placed_links (placed path bodies)) ≡ first_fault (check us) (placed_links (placed path cs))
same_links check path ts us bodies cs e f =
    ap (λ t. first_fault (check t) (placed_links (placed path bodies))) e ∙ ap (λ b. first_fault (check us) (placed_links (placed path b))) f

pub known-links : (raw : RawConf) (ts templates hosts : List RawHost) → ts ≡ raw.templates → templates ≡ raw.templates → hosts ≡ raw.hosts
    → first_fault (unknown_link ts) (placed_links (placed (codes "/templates") templates)) ≡ None
    → first_fault (unknown_link ts) (placed_links (placed (codes "/hosts") hosts)) ≡ None → unknown_links raw ≡ None
known-links raw ts templates hosts e f g known known' =
    unknown_links-parts raw
    ∙ ap (λ x. option_or x (first_fault (unknown_link raw.templates) (placed_links (placed_hosts raw)))) (sym (same_links unknown_link (codes "/templates") ts raw.templates templates raw.templates e f) ∙ known)
    ∙ sym (same_links unknown_link (codes "/hosts") ts raw.templates hosts raw.hosts e g) ∙ known'

pub no_cycles : (raw : RawConf) (ts : List RawHost) → ts ≡ raw.templates → first_fault (cycle_link ts) (placed_links (placed (codes "/templates") ts)) ≡ None → cycles raw ≡ None
unfolding cycles
no_cycles raw ts e none = sym (same_links cycle_link (codes "/templates") ts raw.templates ts raw.templates e e) ∙ none

pub templates_told : (raw : RawConf) (ts templates : List RawHost) (error : FlatError) → ts ≡ raw.templates → templates ≡ raw.templates
    → Tells error (first_fault (unknown_link ts) (placed_links (placed (codes "/templates") templates))) → Tells error (link_faults raw)
templates_told raw ts templates error e f told =
    tells_front error (unknown_links raw) (cycles raw)
    (subst (Tells error) (sym (unknown_links-parts raw))
    (tells_front error (first_fault (unknown_link raw.templates) (placed_links (placed_templates raw))) (first_fault (unknown_link raw.templates) (placed_links (placed_hosts raw)))
    (subst (Tells error) (same_links unknown_link (codes "/templates") ts raw.templates templates raw.templates e f) told)))

pub hosts_told : (raw : RawConf) (ts templates hosts : List RawHost) (error : FlatError) → ts ≡ raw.templates → templates ≡ raw.templates → hosts ≡ raw.hosts
    → first_fault (unknown_link ts) (placed_links (placed (codes "/templates") templates)) ≡ None
    → Tells error (first_fault (unknown_link ts) (placed_links (placed (codes "/hosts") hosts))) → Tells error (link_faults raw)
hosts_told raw ts templates hosts error e f g known told =
    tells_front error (unknown_links raw) (cycles raw)
    (subst (Tells error)
    (same_links unknown_link (codes "/hosts") ts raw.templates hosts raw.hosts e g
    ∙ ap (λ x. option_or x (first_fault (unknown_link raw.templates) (placed_links (placed_hosts raw)))) (sym known ∙ same_links unknown_link (codes "/templates") ts raw.templates templates raw.templates e f)
    ∙ sym (unknown_links-parts raw))
    told)

pub cycles_told : (raw : RawConf) (ts : List RawHost) (error : FlatError) → ts ≡ raw.templates → unknown_links raw ≡ None
    → Tells error (first_fault (cycle_link ts) (placed_links (placed (codes "/templates") ts))) → Tells error (link_faults raw)
unfolding cycles
cycles_told raw ts error e known told =
    subst (Tells error)
    (same_links cycle_link (codes "/templates") ts raw.templates ts raw.templates e e ∙ ap (λ x. option_or x (cycles raw)) (sym known))
    told
