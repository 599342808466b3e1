use Rattle.std.proofs.Common.{sym, subst}
use Rattle.value_cache.specs.Cells.{CellView}
use Rattle.value_cache.specs.Tokens.{CacheId, IsOf}
use Rattle.value_cases.proofs.cells.behind.Goals as goal

pub shown-requires : goal.shown-requires
shown-requires c =
    let own = subst (λ (s : CacheId × CellView). IsOf s.0 c.args.token) (sym c.shelf.view_is) c.requires in
    c.window_slice.ensures.of c.shelf.inside.cache (c.insert_token.ensures.of c.shelf.inside.cache (c.reserve.ensures.of c.shelf.inside.cache c.shelf.invariant) own)

pub invariant_of-shelf-2 : goal.invariant_of-shelf-2
invariant_of-shelf-2 c =
    let own = subst (λ (s : CacheId × CellView). IsOf s.0 c.args.token) (sym c.shelf.view_is) c.requires in
    c.insert_token.ensures.of c.shelf.inside.cache (c.reserve.ensures.of c.shelf.inside.cache c.shelf.invariant) own
