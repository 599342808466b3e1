use Rattle.std.proofs.Common.{◌≡◌, ◌==◌, ◌&&◌, ◌<◌, length, get_or, ◌∙◌, ap, subst}
use Rattle.std.specs.Str.{bytes_eq}
use Rattle.conf_index.specs.Index.{id_at, noted}
use Rattle.conf_index.proofs.Naming.{first_more}
use Rattle.conf_index.proofs.names.keys_of.Goals as goal

pub loop-place-preserved : goal.loop-place-preserved
loop-place-preserved c = λ h q.
    let items : c.as_slice-item-items.result.now ≡ c.args.conf.now.items = c.as_slice-item-items.ensures in
    let within : c.loop-place.place < length c.args.conf.now.items = subst (λ is. c.loop-place.place < length is) items c.loop-place-test.true in
    let item : c.item-item.result ≡ get_or c.args.conf.now.items c.loop-place.place c.item-item.result = c.item-item.is ∙ ap (λ is. get_or is c.loop-place.place c.item-item.result) items in
    first_more (λ i. (i.host == h) && bytes_eq i.key q) c.args.conf.now.items c.loop-place.place c.item-item.result (id_at c.loop-place.keys.items h q) (id_at c.note_key.new.keys.items h q) within item (c.loop-place.invariant h q)
    (c.in_ok-note_key.ensures h q ∙ ap (noted (id_at c.loop-place.keys.items h q) ((c.item-item.result.host == h) && bytes_eq c.item-item.result.key q)) c.in_ok-id_of.ensures)
