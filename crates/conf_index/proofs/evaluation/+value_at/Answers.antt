use Rattle.std.proofs.Common.{◌∙◌, sym, ap, neg_ℤ, option_map, Option, ℤ}
use Rattle.expr_eval.specs.Operations.{negation_of, operation}
use Rattle.expr_eval.specs.Values.{value_over}
use Rattle.conf_index.specs.Evaluation.{value_in}
use Rattle.conf_index.specs.declared.plans.Node.TheVariants.{Const, Called, Neg, Not, Bin}
use Rattle.conf_index.specs.Plans.{flat}
use Rattle.conf_index.proofs.Evaluated.{headed, no_nodes}
use Rattle.conf_index.proofs.evaluation.+value_at.Goals as goal

pub returns-in_default-clause-value : goal.returns-in_default-clause-value
returns-in_default-clause-value t c = λ tree more e. absurd (no_nodes tree c.args.nodes.now more c.in_default.ensures.cases e)

pub returns-in-Const-clause-value : goal.returns-in-Const-clause-value
returns-in-Const-clause-value t c = λ tree more e.
    let h = headed (value_in c.args.values.now) tree c.args.nodes.now more c.in-Some.node.now (Const c.in-Const.number) c.in-Some.rest.now c.in-Some.ensures.cases.0 c.in-Const.is e in record { value = c.with_rest-in-Const.ensures.value ∙ h.0; rest = c.with_rest-in-Const.ensures.rest ∙ h.1 }

pub returns-in-Called-clause-value : goal.returns-in-Called-clause-value
returns-in-Called-clause-value t c = λ tree more e.
    let h = headed (value_in c.args.values.now) tree c.args.nodes.now more c.in-Some.node.now (Called c.in-Called.place) c.in-Some.rest.now c.in-Some.ensures.cases.0 c.in-Called.is e in record { value = c.with_rest-in-Called.ensures.value ∙ c.value_in.ensures ∙ h.0; rest = c.with_rest-in-Called.ensures.rest ∙ h.1 }

pub returns-in-Neg-clause-value : goal.returns-in-Neg-clause-value
returns-in-Neg-clause-value t c = λ tree more e.
    let h = headed (value_in c.args.values.now) tree c.args.nodes.now more c.in-Some.node.now Neg c.in-Some.rest.now c.in-Some.ensures.cases.0 c.in-Neg.is e in
    let operand = c.value_at-operand.ensures.value h.0 more h.2 in
    record { value = c.with_rest-in-Neg.ensures.value ∙ c.negative.ensures ∙ ap (option_map neg_ℤ) operand.value ∙ ap (value_over (value_in c.args.values.now)) (sym h.1); rest = c.with_rest-in-Neg.ensures.rest ∙ operand.rest }

pub returns-in-Not-clause-value : goal.returns-in-Not-clause-value
returns-in-Not-clause-value t c = λ tree more e.
    let h = headed (value_in c.args.values.now) tree c.args.nodes.now more c.in-Some.node.now Not c.in-Some.rest.now c.in-Some.ensures.cases.0 c.in-Not.is e in
    let operand = c.value_at-operand-in-Not.ensures.value h.0 more h.2 in
    record { value = c.with_rest-in-Not.ensures.value ∙ c.negation.ensures ∙ ap negation_of operand.value ∙ ap (value_over (value_in c.args.values.now)) (sym h.1); rest = c.with_rest-in-Not.ensures.rest ∙ operand.rest }

pub returns-in-Bin-clause-value : goal.returns-in-Bin-clause-value
returns-in-Bin-clause-value t c = λ tree more e.
    let h = headed (value_in c.args.values.now) tree c.args.nodes.now more c.in-Some.node.now (Bin c.in-Bin.op) c.in-Some.rest.now c.in-Some.ensures.cases.0 c.in-Bin.is e in
    let left = c.value_at-left.ensures.value h.0 (flat h.1 more) h.3 in
    let right = c.value_at-right.ensures.value h.1 more left.rest in
    record {
      value = c.with_rest-in-Bin.ensures.value ∙ c.operation.ensures ∙ ap (λ (x : Option ℤ). operation c.in-Bin.op x c.value_at-right.result.value) left.value
          ∙ ap (operation c.in-Bin.op (value_over (value_in c.args.values.now) h.0)) right.value ∙ ap (value_over (value_in c.args.values.now)) (sym h.2);
      rest = c.with_rest-in-Bin.ensures.rest ∙ right.rest;
    }
