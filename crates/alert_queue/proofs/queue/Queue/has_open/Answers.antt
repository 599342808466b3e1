use Rattle.std.proofs.Common.{◌≡◌, ◌↔◌, ◌∙◌, true, List, ℕ, ap, subst}
use Rattle.alert_queue.specs.Lanes.{Laned}
use Rattle.alert_queue.specs.Queues.{Queued, HasOpen}
use Rattle.alert_queue.proofs.queue.Queue.has_open.Goals as goal

pub returns : goal.returns
returns c =
    let i = c.self.inside in
    let lanes : List Laned = c.as_slice.result.now in
    let same : record { lanes = lanes; homes = c.as_slice-2.result.now; now = i.now } ≡ c.args.self.now =
    ap (λ (ls : List Laned). record { lanes = ls; homes = c.as_slice-2.result.now; now = i.now }) c.as_slice.ensures.value
    ∙ ap (λ (hs : List ℕ). record { lanes = i.lanes.items; homes = hs; now = i.now }) c.as_slice-2.ensures.value
    ∙ c.self.view_is in
    subst (λ (q : Queued). (c.has_open.result ≡ true) ↔ HasOpen q c.args.note) same (c.has_open.ensures i.now)
