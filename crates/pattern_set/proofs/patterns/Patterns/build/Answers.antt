use Rattle.std.proofs.Common.{rules, ◌≡◌, ◌∙◌, ◌++◌, ◌∷◌, [], sym, ap, Some, subst, ◌<◌, length, get_or}
use Rattle.zbx_types.specs.Ids.{at_id}
use Rattle.pattern_set.specs.Patterns.{IsPattern}
use Rattle.pattern_set.proofs.Placing.{at_next, one_more}
use Rattle.pattern_set.proofs.patterns.Patterns.build.Goals as goal

pub returns-in_err-build-clause-refused : goal.returns-in_err-build-clause-refused
returns-in_err-build-clause-refused c place same =
    let texts : c.as_slice-text-items.result.now ≡ c.args.texts.now = c.as_slice-text-items.ensures in
    let within : c.loop-index.index < length c.args.texts.now = subst (λ ts. c.loop-index.index < length ts) texts c.loop-index-test.true in
    let text = c.as_str.ensures ∙ c.text-item.is ∙ ap (λ ts. get_or ts c.loop-index.index c.text-item.result) texts in
    let why = c.in_err-build.ensures.refused place (search rules) in
    (c.as_str.result.now, ap (at_id c.args.texts.now) why.0 ∙ at_next c.args.texts.now c.loop-index.index c.text-item.result within ∙ ap Some (sym text), why.1)

pub returns-in_err-build-clause-large : goal.returns-in_err-build-clause-large
returns-in_err-build-clause-large c place same =
    let texts : c.as_slice-text-items.result.now ≡ c.args.texts.now = c.as_slice-text-items.ensures in
    let within : c.loop-index.index < length c.args.texts.now = subst (λ ts. c.loop-index.index < length ts) texts c.loop-index-test.true in
    let text = c.as_str.ensures ∙ c.text-item.is ∙ ap (λ ts. get_or ts c.loop-index.index c.text-item.result) texts in
    let why = c.in_err-build.ensures.large place (search rules) in
    (c.as_str.result.now, ap (at_id c.args.texts.now) why.0 ∙ at_next c.args.texts.now c.loop-index.index c.text-item.result within ∙ ap Some (sym text), why.1, why.2)

pub loop-index-preserved : goal.loop-index-preserved
loop-index-preserved c =
    let texts : c.as_slice-text-items.result.now ≡ c.args.texts.now = c.as_slice-text-items.ensures in
    let within : c.loop-index.index < length c.args.texts.now = subst (λ ts. c.loop-index.index < length ts) texts c.loop-index-test.true in
    let text : c.text-item.result ≡ get_or c.args.texts.now c.loop-index.index c.text-item.result = c.text-item.is ∙ ap (λ ts. get_or ts c.loop-index.index c.text-item.result) texts in
    let more = one_more IsPattern c.loop-index.built.items c.args.texts.now c.loop-index.index c.text-item.result within text (subst IsPattern c.as_str.ensures c.in_ok-build.ensures.pattern) c.loop-index.invariant in
    let made : c.push.new.self.items ≡ c.loop-index.built.items ++ c.text-item.result ∷ [] =
    c.in_ok-push.ensures.items ∙ ap (λ t. c.loop-index.built.items ++ t ∷ []) (c.in_ok-build.ensures.ok ∙ c.as_str.ensures) in
    (made ∙ more.0, more.1)
