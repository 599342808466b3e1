use Rattle.std.proofs.Common.{◌∙◌, ap}
use Rattle.host_layout.specs.Patterns.{has_pattern}
use Rattle.host_layout.proofs.KeptPatterns.{found_kept}
use Rattle.host_layout.proofs.patterns.PatternList.has.Goals as goal

pub returns : goal.returns
returns c = c.contains_key.ensures ∙ found_kept c.args.text.now c.self.inside.paths.entries ∙ ap (λ ps. has_pattern ps c.args.text.now) c.self.view_is
