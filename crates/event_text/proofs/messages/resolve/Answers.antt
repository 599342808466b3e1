use Rattle.std.proofs.Common.{◌++◌, ◌∷◌, sym, ap, ◌∙◌, rules, append_assoc}
use Rattle.event_text.specs.Messages.{resolved}
use Rattle.event_text.proofs.MessageLemmas.{resolved_plain, resolved_free}
use Rattle.event_text.proofs.messages.resolve.Goals as goal

pub loop-plain-preserved : goal.loop-plain-preserved
loop-plain-preserved c =
    let all = resolved c.args.conf.now c.args.problem.now c.args.recovered.now in
    let made = c.loop-plain.made in
    let plain = c.in-Some.plain.now in
    let brace = 123 ∷ c.in-Some.behind.now in
    record {
      so_far = c.in_ok-rest.ensures.value ∙ ap (λ t. t ++ all brace) c.in_ok-push_str.ensures.ok ∙ append_assoc made plain (all brace)
          ∙ ap (λ t. made ++ t) (sym (ap all c.in-Some.ensures.0 ∙ resolved_plain c.args.conf.now c.args.problem.now c.args.recovered.now plain brace c.in-Some.ensures.1))
          ∙ c.loop-plain.invariant.so_far;
      utf8 = search rules;
    }

pub returns : goal.returns
returns c =
    c.in_ok-push_str-2.ensures.ok
    ∙ ap (λ t. c.loop-plain.made ++ t) (sym (resolved_free c.args.conf.now c.args.problem.now c.args.recovered.now c.loop-plain.rest.now c.in_default.ensures))
    ∙ c.loop-plain.invariant.so_far
