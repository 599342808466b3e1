use Rattle.std.proofs.Common.{ap, sym, subst, ◌∙◌}
use Rattle.std.specs.Prelude.{All, [], ◌+◌}
use Rattle.std.proofs.lemmas.List.Elements.{All-nil}
use Rattle.book.specs.Progress.{IsBlank}
use Rattle.book.proofs.Claiming.{new_going}
use Rattle.book.proofs.progress.Progress.new.Goals as goal

pub invariant_of-result : goal.invariant_of-result
invariant_of-result g c = (
  new_going g.S.StartName.start c.new-entries.result.items c.new-claims.result c.args.cells c.new-made.result.items c.requires.good c.requires.cells c.new-entries.ensures.items
      (c.new-claims.ensures ∙ ap (λ n. record { first = n + 1; marks = []; next = 1 }) c.requires.before) c.new-made.ensures.items,
  subst (All (IsBlank g.S.StartName.start.stage g.S.StartName.cache)) (sym c.new-spare.ensures.items) (All-nil (IsBlank g.S.StartName.start.stage g.S.StartName.cache)),
  c.requires.before,
  c.requires.few,
  c.requires.cache,
)
