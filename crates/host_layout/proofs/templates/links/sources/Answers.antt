use Rattle.std.proofs.Common.{refl, ◌≡◌, ◌<◌, ℕ, List, length, get_or, ap, sym, ◌∙◌, subst, All, arith, map}
use Rattle.std.specs.Prelude.{codes}
use Rattle.config_read.specs.declared.raw.RawHost.{RawHost}
use Rattle.host_layout.specs.Links.{templates_named}
use Rattle.host_layout.proofs.PlacedElements.{slice_get-placed}
use Rattle.host_layout.specs.Sources.{placed_of}
use Rattle.host_layout.proofs.LinkLemmas.{links_of-closed, links_of-length, templates_named-within, host-places}
use Rattle.host_layout.proofs.Sourced.{sourced_more, sourced_all}
use Rattle.host_layout.proofs.templates.links.sources.Goals as goal

pub walk-requires-clause-closed : goal.walk-requires-clause-closed
walk-requires-clause-closed c = links_of-closed c.args.raw.now.templates c.deref.result.now (c.deref.ensures.value ∙ c.requires.links.templates)

-- the host that was read
host : (hosts slice : List RawHost) (at : ℕ) (read : RawHost) → slice ≡ hosts → read ≡ get_or slice at read → read ≡ get_or hosts at read
host hosts slice at read same is = is ∙ ap (λ hs. get_or hs at read) same

pub walk-requires-clause-within : goal.walk-requires-clause-within
walk-requires-clause-within c =
    let raw = c.args.raw.now in
    let size : length c.deref.result.now ≡ length raw.templates = links_of-length raw.templates c.deref.result.now (c.deref.ensures.value ∙ c.requires.links.templates) in
    let places : c.as_slice-2.result.now ≡ templates_named raw.templates c.index-as_slice-host.result.templates =
    c.as_slice-2.ensures ∙ host-places raw.templates raw.hosts c.args.host c.index-as_slice-host.result c.args.links.now.hosts.items c.index.result.now c.requires.host
    (host raw.hosts c.as_slice.result.now c.args.host c.index-as_slice-host.result c.as_slice.ensures c.index-as_slice-host.is) c.requires.links.hosts c.index.ensures in
    let P : ℕ → List ℕ → Type 0 = λ n ts. All (λ t. t < n) ts in
    subst (λ (n : ℕ). P n c.as_slice-2.result.now) (sym size) (subst (P (length raw.templates)) (sym places) (templates_named-within raw.templates c.index-as_slice-host.result.templates))

pub loop-place-preserved : goal.loop-place-preserved
loop-place-preserved c =
    let raw = c.args.raw.now in
    let places = c.as_slice-place-items.result.now in
    let at = c.loop-place.place-index in
    let t = get_or places at 0 in
    let size : length c.deref.result.now ≡ length raw.templates = links_of-length raw.templates c.deref.result.now (c.deref.ensures.value ∙ c.requires.links.templates) in
    let P : List ℕ → Type 0 = λ ts. All (λ t. t < length c.deref.result.now) ts in
    let below : All (λ t. t < length c.deref.result.now) places = subst P (sym c.as_slice-place-items.ensures) c.in_ok-templates.ensures.within in
    sourced_more raw places at t c.index-as_slice-place.result (map placed_of c.push.new.self) c.loop-place.made c.push-in-loop-place.new.self
    _
    c.loop-place-test.true refl (omega (arith, below at 0 c.loop-place-test.true, size))
    (host raw.templates c.as_slice-in-loop-place.result.now t c.index-as_slice-place.result c.as_slice-in-loop-place.ensures c.index-as_slice-place.is)
    refl c.in_ok-push-2.ensures.ok c.loop-place.invariant

pub returns : goal.returns
returns c =
    let raw = c.args.raw.now in
    let read = c.index-as_slice-host.result in
    let here : read ≡ get_or raw.hosts c.args.host read = host raw.hosts c.as_slice.result.now c.args.host read c.as_slice.ensures c.index-as_slice-host.is in
    let places : c.as_slice-2.result.now ≡ templates_named raw.templates read.templates =
    c.as_slice-2.ensures ∙ host-places raw.templates raw.hosts c.args.host read c.args.links.now.hosts.items c.index.result.now c.requires.host here c.requires.links.hosts c.index.ensures in
    rw (slice_get-placed (codes "/hosts") raw.hosts c.args.host read c.requires.host)
    (sourced_all raw c.args.host (get_or raw.hosts c.args.host read) read _ c.new-made.result c.push.new.self c.loop-place.made c.deref.result.now c.as_slice-2.result.now c.as_slice-place-items.result.now c.loop-place.place-index
    c.new-made.ensures c.in_ok-push.ensures.ok refl here (c.deref.ensures.value ∙ c.requires.links.templates) places
    (c.as_slice-place-items.ensures ∙ c.in_ok-templates.ensures.walk) c.loop-place-test.false c.loop-place.invariant)
