use Rattle.std.proofs.Common.{◌∙◌, ap, is_some}
use Rattle.regex.specs.Patterns.{Re, find_str}
use Rattle.pattern_set.proofs.Carried.{carried-match}
use Rattle.pattern_set.proofs.matcher.Matcher.matches.Goals as goal

pub returns-clause-found : goal.returns-clause-found
returns-clause-found c =
    let hay = c.args.text.now in
    c.is_match.ensures.found ∙ ap (λ (re : Re). is_some (find_str re hay 0)) c.self.invariant.2
    ∙ carried-match c.self.inside.regex.now c.args.self.now c.self.view_is c.self.invariant.1 c.self.invariant.0 hay (λ k. (c.type_inv.text k).fits)
