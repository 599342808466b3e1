use Rattle.std.proofs.Common.{◌∙◌, subst}
use Rattle.macro_text.specs.Expanded.{expanded}
use Rattle.macro_text.specs.Limited.{IsExpansion}
use Rattle.macro_text.specs.declared.limited.Expansion.TheVariants.{Longer}
use Rattle.host_layout.specs.Elements.{placed_item}
use Rattle.host_layout.proofs.LongKeys.{refused}
use Rattle.host_layout.proofs.item_list.expanded_key.Goals as goal

pub returns-in-Longer-clause-refused : goal.returns-in-Longer-clause-refused
returns-in-Longer-clause-refused c = λ before.
    let key = expanded c.args.owner.now.macros c.args.raw.now.key in
    let longer : IsExpansion (Longer c.in-Longer.front) key 2048 = subst (λ e. IsExpansion e key 2048) c.in-Longer.is c.in_ok-key.ensures.value in
    refused c.bad_key.result c.args.owner.now.id c.args.owner.now.macros before (placed_item c.args.source.now c.args.index c.args.raw.now) c.as_slice.result.now
    (c.as_slice.ensures ∙ longer.0) longer.1 c.bad_key.ensures
