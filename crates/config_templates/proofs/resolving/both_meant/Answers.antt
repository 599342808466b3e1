use Rattle.std.proofs.Common.{◌≡◌, ◌++◌, codes, Ok, rules}
use Rattle.macro_text.specs.Expanded.{expanded}
use Rattle.host_layout.specs.Elements.{placed_trigger}
use Rattle.config_templates.specs.Expressions.{resolved_at, by_items}
use Rattle.config_templates.specs.Meanings.{resolved_now}
use Rattle.config_templates.specs.Scopes.{seen_by}
use Rattle.config_templates.specs.Reading.{expression_at}
use Rattle.config_templates.proofs.Both.{meant_gives, meant_fails}
use Rattle.config_templates.proofs.resolving.both_meant.Goals as goal

pub returns-in_err-first : goal.returns-in_err-first
unfolding resolved_at expression_at expanded by_items
returns-in_err-first c = search (rules, meant_fails (seen_by c.args.scope.now c.args.owner.now) c.args.owner.now.macros (placed_trigger c.args.source.now c.args.index c.args.raw.now))

pub returns : goal.returns
unfolding resolved_at expression_at expanded by_items
returns c =
    let p = placed_trigger c.args.source.now c.args.index c.args.raw.now in
    let first : resolved_at (seen_by c.args.scope.now c.args.owner.now) (p.path ++ codes "/expression") (expanded c.args.owner.now.macros p.body.expression) ≡ Ok (resolved_now c.in_ok-first.first) = search rules in
    meant_gives (seen_by c.args.scope.now c.args.owner.now) c.args.owner.now.macros p c.with_recovery.result (resolved_now c.in_ok-first.first) first c.with_recovery.ensures
