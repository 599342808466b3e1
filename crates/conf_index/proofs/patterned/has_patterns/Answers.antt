use Rattle.std.proofs.Common.{◌∙◌, subst, List, ℕ}
use Rattle.std.specs.Prelude.{All, Contains}
use Rattle.conf_index.proofs.patterned.has_patterns.Goals as goal

pub returns : goal.returns
returns c = λ t. subst (λ (xs : List (List ℕ)). All (λ text. Contains c.args.texts.now text) xs) (c.as_slice.ensures ∙ c.in_ok-used.ensures.value) (c.are_among.ensures t)
