use Rattle.std.proofs.Common.{rules, eqb, map}
use Rattle.std.specs.Cmp.{nat_eq_equiv, unsigned_Decides}
use Rattle.std.specs.HashSet as bag
use Rattle.std.specs.HashSet.{hash_set_len}
use Rattle.std.proofs.lemmas.Map.Made.{hash_set_len-Decides}
use Rattle.zbx_types.specs.declared.base.BaseValue.{BaseValue}
use Rattle.base_state.proofs.Pairs.{sizes}
use Rattle.base_state.proofs.fitting_items.are_of_others.Goals as goal

pub returns : goal.returns
returns c =
    let h : bag.IsFromIterResult eqb (map (λ (v : BaseValue). v.number) c.args.values.now) c.in_ok-numbers.numbers = search rules in
    sizes (λ (v : BaseValue). v.number) c.args.values.now c.len.result (hash_set_len c.in_ok-numbers.numbers) c.len.ensures.len
    (hash_set_len-Decides unsigned_Decides nat_eq_equiv (map (λ (v : BaseValue). v.number) c.args.values.now) c.in_ok-numbers.numbers h)
