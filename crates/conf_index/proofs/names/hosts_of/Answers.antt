use Rattle.std.proofs.Common.{◌≡◌, ◌<◌, length, get_or, ◌∙◌, ap, subst}
use Rattle.std.specs.HashMap.{get_by_text}
use Rattle.std.specs.Str.{bytes_eq}
use Rattle.conf_index.specs.Index.{noted}
use Rattle.conf_index.proofs.Naming.{first_more}
use Rattle.conf_index.proofs.names.hosts_of.Goals as goal

pub loop-place-preserved : goal.loop-place-preserved
loop-place-preserved c = λ q.
    let hosts : c.as_slice-host-items.result.now ≡ c.args.conf.now.hosts = c.as_slice-host-items.ensures in
    let within : c.loop-place.place < length c.args.conf.now.hosts = subst (λ hs. c.loop-place.place < length hs) hosts c.loop-place-test.true in
    let host : c.host-item.result ≡ get_or c.args.conf.now.hosts c.loop-place.place c.host-item.result = c.host-item.is ∙ ap (λ hs. get_or hs c.loop-place.place c.host-item.result) hosts in
    first_more (λ h. bytes_eq h.name q) c.args.conf.now.hosts c.loop-place.place c.host-item.result (get_by_text c.loop-place.ids q) (get_by_text c.note.new.ids q) within host (c.loop-place.invariant q)
    (c.in_ok-note.ensures q ∙ ap (noted (get_by_text c.loop-place.ids q) (bytes_eq c.host-item.result.name q)) c.in_ok-id_of.ensures)
