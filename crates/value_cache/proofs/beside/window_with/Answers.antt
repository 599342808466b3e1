use Rattle.std.proofs.Common.{◌∙◌, ap, reverse, not, subst, sym}
use Rattle.std.proofs.lemmas.List.{take_rest}
use Rattle.value_cache.specs.Histories.{is_later, IsOrdered}
use Rattle.value_cache.specs.Tokens.{AreOf, values_of}
use Rattle.value_cache.specs.Windows.{seen_of, rest_of}
use Rattle.value_cache.proofs.Orders.{ordered_filter}
use Rattle.value_cache.proofs.Parts.{beside}
use Rattle.value_cache.proofs.Shown.{values_take, values_drop, values_length, of_taken, of_dropped, of_one}
use Rattle.value_cache.proofs.beside.window_with.Goals as goal

pub window-after-requires : goal.window-after-requires
window-after-requires c =
    subst IsOrdered (sym (ap (λ ts. reverse (values_of ts)) (take_rest c.args.tokens.now c.place_of-place.result) ∙ c.place_of-place.ensures.later)) (ordered_filter (λ x. is_later x c.args.token.now.value) (reverse (values_of c.args.tokens.now)) c.requires)

pub window-before-requires : goal.window-before-requires
window-before-requires c =
    subst IsOrdered (sym c.place_of-place.ensures.others) (ordered_filter (λ x. not (is_later x c.args.token.now.value)) (reverse (values_of c.args.tokens.now)) c.requires)

pub returns-clause-values : goal.returns-clause-values
returns-clause-values c =
    let ts = c.args.tokens.now in
    let place = c.place_of-place.result in
    beside c.args.range c.rest_of-range.result c.rest_of-range-2.result c.args.shift c.args.now place c.args.token.now.value (values_of ts)
    (values_of c.window-after.result.now) (values_of c.window-stored.result.now) (values_of c.window-before.result.now) c.requires
    (ap reverse (sym (values_drop place ts)) ∙ c.place_of-place.ensures.later) (ap reverse (sym (values_take place ts)) ∙ c.place_of-place.ensures.others)
    (c.window-after.ensures.values ∙ ap (λ xs. seen_of c.args.range c.args.shift c.args.now (reverse xs)) (ap values_of (take_rest ts place) ∙ values_drop place ts))
    (c.rest_of-range.ensures ∙ ap (rest_of c.args.range) (sym (values_length c.window-after.result.now)))
    (c.window-stored.ensures.values ∙ ap (λ xs. seen_of c.rest_of-range.result c.args.shift c.args.now (reverse (values_of xs))) c.from_ref.ensures.value)
    (c.rest_of-range-2.ensures ∙ ap (rest_of c.rest_of-range.result) (sym (values_length c.window-stored.result.now)))
    (c.window-before.ensures.values ∙ ap (λ xs. seen_of c.rest_of-range-2.result c.args.shift c.args.now (reverse xs)) (values_take place ts))

pub returns-clause-of : goal.returns-clause-of
returns-clause-of c cache h k =
    let ts = c.args.tokens.now in
    let place = c.place_of-place.result in (
      c.window-before.ensures.of cache (of_taken cache place ts h),
      c.window-stored.ensures.of cache (subst (AreOf cache) (sym c.from_ref.ensures.value) (of_one cache c.args.token.now k)),
      c.window-after.ensures.of cache (subst (AreOf cache) (sym (take_rest ts place)) (of_dropped cache place ts h)),
    )
