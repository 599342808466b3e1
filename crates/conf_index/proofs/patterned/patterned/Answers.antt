use Rattle.std.proofs.Common.{subst, List, ℕ}
use Rattle.std.specs.Prelude.{All}
use Rattle.zbx_types.specs.declared.triggers.Trigger.{Trigger}
use Rattle.conf_index.specs.Patterned.{HasTexts, ArePatterned}
use Rattle.conf_index.proofs.patterned.patterned.Goals as goal

pub returns : goal.returns
unfolding ArePatterned
returns c =
    subst (λ (texts : List (List ℕ)). All (HasTexts texts) c.args.conf.now.triggers) c.as_slice.ensures
    (subst (λ (triggers : List Trigger). All (HasTexts c.as_slice.result.now) triggers) c.as_slice-2.ensures (c.in_ok-have.ensures c.if-not-have.false))
