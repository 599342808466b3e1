use Rattle.std.proofs.Common.{◌≡◌, ◌∷◌, [], List, length, arith, map, option_map, ap, sym, ◌∙◌, subst}
use Rattle.std.specs.Vec.Iter.{into_iter_items}
use Rattle.zbx_types.specs.Ids.{at_id}
use Rattle.value_cache.specs.Tokens.{AreOf}
use Rattle.preprocess.specs.Cached.{visit_in, visits_shown, tokens_shown}
use Rattle.preprocess.specs.Draft.{AreApart, HaveRoom, kept_of, kept_after, marks_after, visit_at}
use Rattle.preprocess.specs.declared.cached.CachedVisit.{CachedVisit}
use Rattle.preprocess.specs.declared.visit.Visit.{Visit}
use Rattle.preprocess.proofs.Caching.{of_parts}
use Rattle.preprocess.proofs.Keeping.{empty_list, kept_on, marks_on, room_on, kept_end, marks_end}
use Rattle.preprocess.proofs.draft.commit.Goals as goal

pub loop-visit-preserved : goal.loop-visit-preserved
loop-visit-preserved c =
    let w = c.in-Some.visit in
    let v : Visit = visit_in w in
    let left : List CachedVisit = into_iter_items c.next.new.self in
    let rest = visits_shown left in
    let rows = map kept_of c.loop-visit.cells.cells.items in
    let marks = c.loop-visit.cells.memories.items in
    let first : into_iter_items c.loop-visit.visit-iterator ≡ w ∷ left = c.in-Some.ensures.steps.0 in
    let is : visits_shown (into_iter_items c.loop-visit.visit-iterator) ≡ v ∷ rest = ap visits_shown first in
    let apart = subst AreApart is c.loop-visit.invariant.apart in
    let room = subst (HaveRoom c.loop-visit.cells.cells.items) is c.loop-visit.invariant.room in
    let fewer = c.in-Some.ensures.steps.1 in
    let count = ap length first in
    let before = c.loop-visit.invariant.counted in
    record {
      counted = omega (arith, fewer, count, before);
      apart = apart.1;
      room = room_on c.loop-visit.cells.cells.items c.put.new.cells.cells.items v rest c.put.ensures.others apart.0 room.1;
      kept = λ id. kept_on c.args.now v rest rows (map kept_of c.put.new.cells.cells.items) c.put.ensures.kept apart.0 id
          ∙ ap (λ (vs : List Visit). option_map (kept_after c.args.now (visit_at vs id)) (at_id rows id)) (sym is) ∙ c.loop-visit.invariant.kept id;
      marked = λ id. marks_on v rest marks c.put.new.cells.memories.items c.put.ensures.memories apart.0 id
          ∙ ap (λ (vs : List Visit). option_map (marks_after (visit_at vs id)) (at_id marks id)) (sym is) ∙ c.loop-visit.invariant.marked id;
      tokens = λ cache h. (of_parts cache w left (subst (λ vs. AreOf cache (tokens_shown vs)) first (c.loop-visit.invariant.tokens cache h))).1;
      of = λ cache h k. c.put.ensures.of cache (of_parts cache w left (subst (λ vs. AreOf cache (tokens_shown vs)) first (c.loop-visit.invariant.tokens cache h))).0 (c.loop-visit.invariant.of cache h k);
    }

pub returns-clause-becomes : goal.returns-clause-becomes
returns-clause-becomes c =
    let rows = map kept_of c.loop-visit.cells.cells.items in
    let marks = c.loop-visit.cells.memories.items in
    let is : visits_shown (into_iter_items c.loop-visit.visit-iterator) ≡ [] = ap visits_shown (empty_list (into_iter_items c.loop-visit.visit-iterator) (sym c.loop-visit.invariant.counted ∙ c.in-None.ensures.steps.0)) in
    record {
      cells = λ id. sym (kept_end c.args.now (at_id rows id))
          ∙ ap (λ (vs : List Visit). option_map (kept_after c.args.now (visit_at vs id)) (at_id rows id)) (sym is) ∙ c.loop-visit.invariant.kept id;
      memories = λ id. sym (marks_end (at_id marks id))
          ∙ ap (λ (vs : List Visit). option_map (marks_after (visit_at vs id)) (at_id marks id)) (sym is) ∙ c.loop-visit.invariant.marked id;
    }
