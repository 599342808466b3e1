use Rattle.std.proofs.Common.{◌∙◌, ap, reverse, subst, sym}
use Rattle.std.specs.List.{insert}
use Rattle.value_cache.specs.Histories.{placed, IsOrdered}
use Rattle.value_cache.specs.Tokens.{AreOf, values_of}
use Rattle.value_cache.proofs.Parts.{put_placed}
use Rattle.value_cache.proofs.Shown.{values_insert, values_take, values_drop, of_inserted}
use Rattle.value_cache.proofs.placing.put.Goals as goal

pub returns-clause-values : goal.returns-clause-values
returns-clause-values c =
    let ts = c.as_slice.result.now in let same = c.as_slice.ensures in
    let place = c.place_of-place.result in
    ap (λ xs. reverse (values_of xs)) (c.insert.ensures ∙ ap (λ ys. insert ys place c.args.token) (sym same))
    ∙ ap reverse (values_insert ts place c.args.token)
    ∙ put_placed c.args.token.value (values_of ts) place (subst (λ ys. IsOrdered (reverse (values_of ys))) (sym same) c.requires.ordered)
    (ap reverse (sym (values_drop place ts)) ∙ c.place_of-place.ensures.later) (ap reverse (sym (values_take place ts)) ∙ c.place_of-place.ensures.others)
    ∙ ap (λ ys. placed c.args.token.value (reverse (values_of ys))) same

pub returns-clause-of : goal.returns-clause-of
returns-clause-of c cache h k = subst (AreOf cache) (sym c.insert.ensures) (of_inserted cache c.args.tokens.now.items c.place_of-place.result c.args.token h k)
