use Rattle.std.proofs.Common.{◌+◌, ◌∙◌, ℕ, List, length, sym, ap, subst, arith}
use Rattle.intake_journal.specs.Block.{staged_in, IsReadable, IsStaged}
use Rattle.intake_journal.proofs.Written.{count_small}
use Rattle.intake_journal.proofs.Staged.{block_is, more_staged, more_groups}
use Rattle.intake_journal.proofs.block.Block.stage.Goals as goal

pub overflow_cast-group : goal.overflow_cast-group
overflow_cast-group c = omega (arith, count_small c.args.group.now, c.requires.within)

pub overflow_add-self : goal.overflow_add-self
overflow_add-self c =
    let block = block_is c.self.inside.bytes c.self.inside.entries c.args.self.now c.self.invariant c.self.view_is in
    omega (arith, count_small c.args.group.now, c.requires.within, block.count, block.few)

pub invariant_of-self-2 : goal.invariant_of-self-2
invariant_of-self-2 c =
    let block = block_is c.self.inside.bytes c.self.inside.entries c.args.self.now c.self.invariant c.self.view_is in
    let readable : IsReadable c.args.group.now = (c.requires.some, c.in_ok-put_behind.ensures.again c.requires.short) in
    subst (λ (l : List ℕ). IsStaged l (c.self.inside.entries + length c.args.group.now)) (sym c.in_ok-put_behind.ensures.ok) (more_staged c.self.inside.bytes c.self.inside.entries c.args.self.now c.args.group.now block readable c.requires.within)

pub returns-clause-ok : goal.returns-clause-ok
returns-clause-ok c =
    let block = block_is c.self.inside.bytes c.self.inside.entries c.args.self.now c.self.invariant c.self.view_is in
    let readable : IsReadable c.args.group.now = (c.requires.some, c.in_ok-put_behind.ensures.again c.requires.short) in
    ap (λ (l : List ℕ). staged_in l) c.in_ok-put_behind.ensures.ok ∙ more_groups c.self.inside.bytes c.self.inside.entries c.args.self.now c.args.group.now block readable c.requires.within
