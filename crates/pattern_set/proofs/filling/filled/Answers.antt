use Rattle.std.proofs.Common.{◌≡◌, ◌≤◌, ◌∙◌, ap, subst, sym, length, vec_items}
use Rattle.std.specs.String.{string_vec}
use Rattle.pattern_set.specs.Filling.{texts_of, filled_by}
use Rattle.pattern_set.proofs.FillingLemmas.{emptied, made_within}
use Rattle.pattern_set.proofs.filling.filled.Goals as goal

pub returns : goal.returns
returns c =
    let bytes : string_vec c.unwrap.result ≡ c.loop-rest.made =
    rw c.unwrap.ensures at c.from_utf8.ensures.ok in
    let whole : c.from.result ≡ filled_by (texts_of c.args.groups.now) c.args.output.now =
    c.from.ensures ∙ ap vec_items bytes ∙ emptied (texts_of c.args.groups.now) c.loop-rest.made.items c.loop-rest.rest.now _ c.loop-rest-test.ensures c.loop-rest.invariant.0 in
    made_within c.args.limit c.from.result _ whole (subst (λ t. length t ≤ c.args.limit) (sym (c.from.ensures ∙ ap vec_items bytes)) c.loop-rest.invariant.2)
