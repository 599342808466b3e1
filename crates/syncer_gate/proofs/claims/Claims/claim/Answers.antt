use Rattle.std.proofs.Common.{◌∙◌, sym, ap, subst, is_some}
use Rattle.std.specs.Prelude.{IfSome}
use Rattle.footprint.specs.Feet.{told_by}
use Rattle.syncer_gate.specs.Gate.{batch_of, claimed}
use Rattle.syncer_gate.specs.Core.{Claim, IsStep}
use Rattle.syncer_gate.proofs.Claimed.{AreFree, chosen_free, claim_steps, claim_idles}
use Rattle.syncer_gate.proofs.claims.Claims.claim.Goals as goal

pub hand_out-requires-clause-offered : goal.hand_out-requires-clause-offered
hand_out-requires-clause-offered c =
    let free = subst (AreFree c.args.self.now) (sym c.in_ok-numbers.ensures.numbers) (chosen_free (told_by c.args.feet.now) c.args.self.now c.args.entries.now c.args.looks c.args.limit c.requires.offered) in
    (subst (λ g. AreFree g c.in_ok-numbers.numbers) (sym c.choose.ensures.same) free).offered

pub hand_out-requires-clause-pending : goal.hand_out-requires-clause-pending
hand_out-requires-clause-pending c =
    let free = subst (AreFree c.args.self.now) (sym c.in_ok-numbers.ensures.numbers) (chosen_free (told_by c.args.feet.now) c.args.self.now c.args.entries.now c.args.looks c.args.limit c.requires.offered) in
    (subst (λ g. AreFree g c.in_ok-numbers.numbers) (sym c.choose.ensures.same) free).pending

pub returns-clause-idle : goal.returns-clause-idle
returns-clause-idle c = λ none.
    ap is_some (c.hand_out.ensures.batch ∙ ap (λ g. batch_of g.next c.in_ok-numbers.numbers) c.choose.ensures.same ∙ ap (batch_of c.args.self.now.next) c.in_ok-numbers.ensures.numbers)
    ∙ claim_idles (told_by c.args.feet.now) c.args.self.now c.args.entries.now c.args.looks c.args.limit c.requires.offered c.requires.looks c.requires.limit none

pub returns-clause-step : goal.returns-clause-step
returns-clause-step c =
    subst (λ made. IfSome made (λ batch. IsStep (told_by c.args.feet.now) c.args.entries.now c.args.self.now (Claim batch.id batch.numbers) c.hand_out.new.self))
    (sym (c.hand_out.ensures.batch ∙ ap (λ g. batch_of g.next c.in_ok-numbers.numbers) c.choose.ensures.same))
    (claim_steps (told_by c.args.feet.now) c.args.self.now c.hand_out.new.self c.args.entries.now c.args.looks c.args.limit c.in_ok-numbers.numbers c.requires.offered c.choose.ensures.fresh c.in_ok-numbers.ensures.numbers
    (c.hand_out.ensures.gate ∙ ap (λ g. claimed g c.in_ok-numbers.numbers) c.choose.ensures.same))
