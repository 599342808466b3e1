use Rattle.std.proofs.Common.{rules, ◌≡◌, ◌∙◌, ap, ℕ, List}
use Rattle.pattern_set.specs.Places.{place_of}
use Rattle.prep_steps.specs.Outcomes.{parameter}
use Rattle.prep_steps.proofs.matching.first_place.Goals as goal

pub returns-in-None-clause-place : goal.returns-in-None-clause-place
returns-in-None-clause-place c =
    let missing : c.new.result ≡ parameter c.args.params.now 0 = search rules in
    c.find-in-None-2.ensures.place ∙ ap (λ (text : List ℕ). place_of text c.args.patterns.now) missing
