use Rattle.std.proofs.Common.{◌≤◌, ◌+◌, ◌∙◌, List, length, ap, subst, sym}
use Rattle.zbx_types.specs.declared.base.Base.{Base}
use Rattle.zbx_types.specs.declared.entries.Numbered.{Numbered}
use Rattle.base_laws.specs.Grounds.{start_of}
use Rattle.entry_laws.specs.InForce.{HasBegun}
use Rattle.entry_step.specs.Log.{log_of}
use Rattle.journal_opening.specs.Replayed.{flat}
use Rattle.journal_copy.specs.State.{counted, state_of}
use Rattle.journal_copy.proofs.Copies.{kept_state}
use Rattle.journal_copy.proofs.Forming.{kept_formed}
use Rattle.journal_copy.proofs.Keeping.{some_begun}
use Rattle.journal_copy.proofs.copying.state_in.Goals as goal

pub state_of-requires-clause-begun : goal.state_of-requires-clause-begun
state_of-requires-clause-begun g c =
    let base = c.args.kept.journal.base in
    let entries = c.args.kept.entries in
    let some : 1 ≤ length base.text + length entries = subst (λ (b : Base). 1 ≤ length b.text + length entries) c.base.ensures (subst (λ (es : List Numbered). 1 ≤ length c.base.result.now.text + length es) c.as_slice.ensures (c.is_nothing.ensures.some c.if-is_nothing.false)) in
    subst (λ (b : Base). HasBegun (start_of flat b) (log_of c.as_slice-2.result.now)) (sym c.base-2.ensures)
    (subst (λ (es : List Numbered). HasBegun (start_of flat base) (log_of es)) (sym c.as_slice-2.ensures) (some_begun base entries c.requires.kept some))

pub returns-in-Ok-clause-formed : goal.returns-in-Ok-clause-formed
returns-in-Ok-clause-formed g c =
    let base = c.args.kept.journal.base in
    let entries = c.args.kept.entries in
    let some : 1 ≤ length base.text + length entries = subst (λ (b : Base). 1 ≤ length b.text + length entries) c.base.ensures (subst (λ (es : List Numbered). 1 ≤ length c.base.result.now.text + length es) c.as_slice.ensures (c.is_nothing.ensures.some c.if-is_nothing.false)) in
    kept_formed base entries c.requires.kept some c.in-Ok.state
    (c.in-Ok.ensures ∙ ap (λ (b : Base). counted (state_of b c.as_slice-2.result.now)) c.base-2.ensures ∙ ap (λ (es : List Numbered). counted (state_of base es)) c.as_slice-2.ensures)

pub returns-in-Ok-clause-state : goal.returns-in-Ok-clause-state
returns-in-Ok-clause-state g c = λ most old t.
    let base = c.args.kept.journal.base in
    let entries = c.args.kept.entries in
    let some : 1 ≤ length base.text + length entries = subst (λ (b : Base). 1 ≤ length b.text + length entries) c.base.ensures (subst (λ (es : List Numbered). 1 ≤ length c.base.result.now.text + length es) c.as_slice.ensures (c.is_nothing.ensures.some c.if-is_nothing.false)) in
    kept_state g.D.Disk.tells most old c.args.kept.journal entries c.in-Ok.state t some
    (c.in-Ok.ensures ∙ ap (λ (b : Base). counted (state_of b c.as_slice-2.result.now)) c.base-2.ensures ∙ ap (λ (es : List Numbered). counted (state_of base es)) c.as_slice-2.ensures)
