use Rattle.std.proofs.Common.{◌++◌, List, ℕ, ap, ◌∙◌, subst}
use Rattle.zbx_types.specs.declared.base.BaseItem.{BaseItem}
use Rattle.zbx_types.specs.declared.base.BaseProblem.{BaseProblem}
use Rattle.std.specs.List.{All}
use Rattle.intake_journal.specs.BaseTypes.{IsItemTyped, IsProblemTyped}
use Rattle.intake_journal.specs.Bytes.{text_bytes}
use Rattle.intake_journal.specs.BaseBytes.{list_bytes, item_bytes, problem_bytes, head_bytes, base_bytes}
use Rattle.intake_journal.proofs.Parts.{one_more}
use Rattle.intake_journal.proofs.base_encoding.put_base.Goals as goal

pub returns-clause-ok : goal.returns-clause-ok
unfolding base_bytes
returns-clause-ok c =
    let old = c.args.out.now in
    let base = c.args.base.now in
    let a : List ℕ = head_bytes base in
    let b : List ℕ = a ++ text_bytes base.text in
    let d : List ℕ = b ++ list_bytes item_bytes base.items in
    one_more c.put_list-2.new.out c.put_list.new.out old d (list_bytes problem_bytes base.problems)
    (one_more c.put_list.new.out c.put_text.new.out old b (list_bytes item_bytes base.items)
    (one_more c.put_text.new.out c.put_head.new.out old a (text_bytes base.text) c.in_ok-put_head.ensures.ok c.in_ok-put_text.ensures.ok)
    (c.in_ok-put_list.ensures.ok ∙ ap (λ (parts : List BaseItem). c.put_text.new.out ++ list_bytes item_bytes parts) c.as_slice.ensures))
    (c.in_ok-put_list-2.ensures.ok ∙ ap (λ (parts : List BaseProblem). c.put_list.new.out ++ list_bytes problem_bytes parts) c.as_slice-2.ensures)

pub returns-clause-typed : goal.returns-clause-typed
returns-clause-typed c = record {
  head = c.in_ok-put_head.ensures.typed;
  text = c.in_ok-put_text.ensures.typed;
  items = subst (All IsItemTyped) c.as_slice.ensures c.in_ok-put_list.ensures.typed;
  problems = subst (All IsProblemTyped) c.as_slice-2.ensures c.in_ok-put_list-2.ensures.typed;
}
