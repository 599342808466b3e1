use Rattle.std.proofs.Common.{◌≡◌, ℕ, Err, rules}
use Rattle.intake_journal.specs.declared.making.MakeError.TheVariants as error
use Rattle.intake_journal.proofs.BaseMade.{filled_moments, holds_base}
use Rattle.intake_journal.proofs.making.make_in.Goals as goal

pub returns-in_err-refuse_held-clause-too_large : goal.returns-in_err-refuse_held-clause-too_large
returns-in_err-refuse_held-clause-too_large g c =
    let never : (bytes : ℕ) → c.from_residual.result ≡ Err (error.TooLarge bytes) → ⊥ = search rules in
    λ bytes e. absurd (never bytes e)

pub returns-in_err-refuse_held-clause-first_held :
    goal.returns-in_err-refuse_held-clause-first_held
returns-in_err-refuse_held-clause-first_held g c =
    let never : (bytes : ℕ) → c.from_residual.result ≡ Err (error.TooLarge bytes) → ⊥ = search rules in
    λ bytes e. absurd (never bytes e)

pub returns-in-Ok-clause-any_moment : goal.returns-in-Ok-clause-any_moment
returns-in-Ok-clause-any_moment g c =
    let tells = g.D.Disk.tells in
    filled_moments c.args.base.now c.args.block.now c.requires.block c.requires.typed c.requires.formed c.in_ok-refuse_large.ensures.within (tells c.args.disk.now) (tells c.refuse_held.new.disk) (tells c.fill.new.disk)
    c.refuse_held.ensures.before c.in_ok-refuse_held.ensures.empty c.fill.ensures.any_moment

pub returns-in-Err-clause-any_moment : goal.returns-in-Err-clause-any_moment
returns-in-Err-clause-any_moment g c =
    let tells = g.D.Disk.tells in
    filled_moments c.args.base.now c.args.block.now c.requires.block c.requires.typed c.requires.formed c.in_ok-refuse_large.ensures.within (tells c.args.disk.now) (tells c.refuse_held.new.disk) (tells c.fill.new.disk)
    c.refuse_held.ensures.before c.in_ok-refuse_held.ensures.empty c.fill.ensures.any_moment

pub returns-in-Ok-clause-holds : goal.returns-in-Ok-clause-holds
returns-in-Ok-clause-holds g c = holds_base c.args.base.now c.args.block.now c.requires.block c.requires.typed c.requires.formed c.in_ok-refuse_large.ensures.within
