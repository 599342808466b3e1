use Rattle.std.proofs.Common.{◌≡◌, codes, sym, ◌∙◌, true≢false}
use Rattle.std.proofs.lemmas.Slice.Eq.{bytes_eq-Decides}
use Rattle.sender_json.specs.Requests.{gathered_by}
use Rattle.sender_json.proofs.Kept.{data-kept, text-stays, data-stays, request-not_data, host-not_data}
use Rattle.sender_json.proofs.reading.with_member.Goals as goal

pub returns-then-eq-clause-ok : goal.returns-then-eq-clause-ok
returns-then-eq-clause-ok g c =
    let name = c.args.name.now in
    let named : name ≡ codes "data" = (bytes_eq-Decides name (codes "data")).0 (sym c.eq.ensures ∙ c.if-eq.true) in
    let read = c.in_ok-elements.ensures.ok in (
      read.0,
      read.1,
      λ found h. record {
        request = text-stays (codes "request") name read.0 found c.args.top.request (λ e. request-not_data (e ∙ named)) h.request;
        host = text-stays (codes "host") name read.0 found c.args.top.host (λ e. host-not_data (e ∙ named)) h.host;
        elements = data-kept (gathered_by (g.G.Gatherer.of c.args.gatherer.now) g.E.Element.of) name read.0 found c.in_ok-elements.elements named read.2;
      },
    )

pub returns-clause-ok : goal.returns-clause-ok
returns-clause-ok g c =
    let name = c.args.name.now in
    let other : name ≡ codes "data" → ⊥ = λ h. true≢false (sym ((bytes_eq-Decides name (codes "data")).1 h) ∙ sym c.eq.ensures ∙ c.if-eq.false) in
    let read = c.in_ok-seen.ensures.ok in (
      read.0,
      read.1,
      λ found h. record {
        request = c.keep.ensures found read.0 h.request read.2;
        host = c.keep-2.ensures found read.0 h.host read.2;
        elements = data-stays (gathered_by (g.G.Gatherer.of c.args.gatherer.now) g.E.Element.of) name read.0 found c.args.top.elements other h.elements;
      },
    )
