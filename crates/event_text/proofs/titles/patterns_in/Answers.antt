use Rattle.std.proofs.Common.{◌++◌, ◌∷◌, sym, ap, ◌∙◌, rules}
use Rattle.std.proofs.lemmas.List.{append-nil}
use Rattle.event_text.specs.Forms.{patterns_of}
use Rattle.event_text.proofs.TitleLemmas.{patterns_plain, patterns_free}
use Rattle.event_text.proofs.titles.patterns_in.Goals as goal

pub loop-behind-preserved : goal.loop-behind-preserved
loop-behind-preserved c =
    let made = c.loop-behind.made in
    record {
      so_far = c.in_ok-rest.ensures.value
          ∙ ap (λ t. made ++ t) (sym (ap patterns_of c.in-Some.ensures.0 ∙ patterns_plain c.in-Some.field-0-0.now (123 ∷ c.in-Some.behind.now) c.in-Some.ensures.1))
          ∙ c.loop-behind.invariant.so_far;
      utf8 = search rules;
    }

pub returns : goal.returns
returns c = record {
  value = sym (append-nil c.loop-behind.made) ∙ ap (λ t. c.loop-behind.made ++ t) (sym (patterns_free c.loop-behind.rest.now c.in_default.ensures))
      ∙ c.loop-behind.invariant.so_far;
}
