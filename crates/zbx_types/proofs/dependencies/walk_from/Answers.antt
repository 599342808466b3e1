use Rattle.std.proofs.Common.{◌∙◌, sym, subst}
use Rattle.zbx_types.specs.Masters.{HasKeys}
use Rattle.zbx_types.proofs.MasterLemmas.{walk_begins, walk_goes, walk_ends}
use Rattle.zbx_types.proofs.dependencies.walk_from.Goals as goal

pub loop-place-init : goal.loop-place-init
loop-place-init c = record {
  keys = subst (λ n. HasKeys n c.enter.new.self.ids.keys c.enter.new.self.found.items) c.len-count.ensures c.in_ok-enter.ensures.keys;
  walks = walk_begins _ _ _ _ _ _ c.requires c.len-count.ensures c.new-2.ensures.items c.depends_of.ensures c.in_ok-enter.ensures.found;
}

pub returns-in_default-clause-finds : goal.returns-in_default-clause-finds
returns-in_default-clause-finds c = walk_ends _ _ c.loop-place.place _ (sym c.at.ensures ∙ c.in_default.is) c.loop-place.invariant.walks

pub loop-place-preserved : goal.loop-place-preserved
loop-place-preserved c = record {
  keys = subst (λ n. HasKeys n c.enter-in-loop-place.new.self.ids.keys c.enter-in-loop-place.new.self.found.items) c.len-count.ensures c.in_ok-enter-2.ensures.keys;
  walks = walk_goes _ _ _ c.loop-place.place c.in-Some.id _ _ _ c.requires c.len-count.ensures (sym c.at.ensures ∙ c.in-Some.is) c.depends_of-in-loop-place.ensures c.in_ok-enter-2.ensures.found c.loop-place.invariant.walks;
}
