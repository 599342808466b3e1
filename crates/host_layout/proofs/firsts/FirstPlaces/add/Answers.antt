use Rattle.std.proofs.Common.{◌∙◌, ap, sym, Some, None, if◌then◌else◌}
use Rattle.std.specs.Str.{bytes_eq}
use Rattle.indexmap.proofs.CallerLemmas.{insert_entry-new}
use Rattle.std.specs.Option.{option_or}
use Rattle.host_layout.proofs.FirstNames.{at_name, added, absent}
use Rattle.host_layout.proofs.firsts.FirstPlaces.add.Goals as goal

pub returns : goal.returns
returns c sought =
    let m = c.args.self.now.first in
    let new = absent m.entries c.in_ok-name.name c.args.name.now c.in_ok-name.ensures.items (sym c.contains_key.ensures ∙ c.if-contains_key.false) in
    ap (λ es. at_name sought es) (c.in_ok-insert.ensures.entries ∙ insert_entry-new (λ x y. bytes_eq x.items y.items) m c.in_ok-name.name c.args.place new)
    ∙ added m.entries c.in_ok-name.name c.args.place sought
    ∙ ap (λ n. option_or (at_name sought m.entries) (if bytes_eq n sought then Some c.args.place else None)) c.in_ok-name.ensures.items
