use Rattle.std.proofs.Common.{◌≡◌, ◌-◌, ◌<◌, List, [], ◌∷◌, ◌++◌, length, None, refl, sym, ap, ◌∙◌, append_assoc, append-nil, arith}
use Rattle.json.specs.Json.{parse_map, after_end_array, value}
use Rattle.serde_json.specs.Data.{item, no_items}
use Rattle.sender_json.proofs.Turns.{passed_on, map_id, map_twice, items_read, items_refused, items_over}
use Rattle.sender_json.specs.declared.failed.ElementError.TheVariants.{NotJson}
use Rattle.sender_json.proofs.reading.read_items.Goals as goal

pub items-init : goal.items-init
items-init g c = record { turns = length c.args.reader.now; enough = omega arith; before = λ a. a; reads = map_id _; ones = []; gathered = c.none-found.ensures; kept = λ ds. refl; shorter = omega arith }

pub returns-in_err-element-clause-err : goal.returns-in_err-element-clause-err
returns-in_err-element-clause-err g c =
    let at = c.items.invariant in
    let going : (after_end_array c.items.reader ≡ None) × (c.take_end_array.new.self ≡ c.items.reader) = grind arith in
    passed_on _ NotJson c.in_err-element.field-0.0 c.from_residual.ensures.1
    (λ e. at.reads ∙ ap (parse_map at.before) (items_refused (value c.args.depth) at.turns c.items.reader going.0 (rw (← going.1) (c.in_err-element.ensures.err e))))

added : {E : Type 0} (ones : List E) (a b : E) (rest whole : List E) → whole ≡ ones ++ b ∷ rest → a ≡ b → whole ≡ (ones ++ a ∷ []) ++ rest
added ones a b rest whole w same = rw (append_assoc, same) w

pub items-preserved : goal.items-preserved
items-preserved g c =
    let at = c.items.invariant in
    let going : (after_end_array c.items.reader ≡ None) × (c.take_end_array.new.self ≡ c.items.reader) = grind arith in
    let done = c.in_ok-element.ensures in
    let d = done.ok.0 in
    let r = c.read.new.reader in
    let less : length r < length c.items.reader = rw (← going.1) done.shorter in
    let turn = items_read (value c.args.depth) at.turns c.items.reader r d (omega (arith, at.enough)) going.0 (rw (← going.1) done.ok.1) in
    record {
      turns = at.turns - 1;
      enough = omega (arith, at.enough);
      before = λ a. at.before (item d a);
      reads = at.reads ∙ ap (parse_map at.before) turn ∙ map_twice at.before (item d) _;
      ones = at.ones ++ c.in_ok-element.element ∷ [];
      gathered = c.in_ok-add.ensures at.ones at.gathered;
      kept = λ ds. added at.ones _ _ _ _ (at.kept (item d ds)) done.ok.2;
      shorter = omega (arith, at.shorter);
    }

pub returns-clause-ok : goal.returns-clause-ok
returns-clause-ok g c =
    let at = c.items.invariant in
    (at.before no_items, at.reads ∙ ap (parse_map at.before) (items_over (value c.args.depth) at.turns c.items.reader c.take_end_array.new.self at.enough (grind arith)), at.gathered ∙ sym (ap (g.G.Gatherer.of c.args.gatherer.now) (at.kept no_items ∙ append-nil at.ones)))
