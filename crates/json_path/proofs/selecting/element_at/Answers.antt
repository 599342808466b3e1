use Rattle.std.proofs.Common.{ap, sym, ◌∙◌, ℕ, ℤ, rules, SFits, w64}
use Rattle.std.specs.Int.{w128}
use Rattle.std.proofs.lemmas.Int.{to_z-of_z}
use Rattle.json_text.specs.Json.{item_list}
use Rattle.json_text.specs.Trees.{items_of}
use Rattle.json_path.specs.Selecting.{from_front, element_from_front}
use Rattle.json_path.proofs.SelectionLemmas.{as_many}
use Rattle.json_path.proofs.selecting.element_at.Goals as goal

pub returns : goal.returns
returns c =
    let p : SFits w64 c.args.place = c.ranges.place in
    let q : SFits w128 c.from_front.result = search rules in
    let e = simp to_z-of_z at c.element_from_front.ensures in
    let f = simp to_z-of_z at c.from_front.ensures in
    e ∙ ap (λ (z : ℤ). element_from_front (item_list (items_of c.args.elements.now)) z) f
    ∙ ap (λ (n : ℕ). element_from_front (item_list (items_of c.args.elements.now)) (from_front n c.args.place)) (sym (as_many c.args.elements.now))
