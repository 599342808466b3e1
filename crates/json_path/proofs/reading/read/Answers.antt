use Rattle.std.proofs.Common.{arith, sym, ◌≡◌, ℕ, subst, ◌∙◌}
use Rattle.json_path.specs.Grammar.{IsPathText}
use Rattle.byte_grammar.specs.Fault.{IsFault}
use Rattle.byte_grammar.specs.Fault.{IsViable, EachLength}
use Rattle.byte_grammar.proofs.Faults.{reached_start, reached_next, fault_stop, fault_end}
use Rattle.json_path.specs.Machine.{step, start}
use Rattle.json_path.proofs.Reaching.{tells, none_stop, none_end, found_end, only_end}
use Rattle.json_path.proofs.reading.read.Goals as goal

pub loop-byte-init : goal.loop-byte-init
loop-byte-init c = record { count = omega arith; reached = reached_start step start c.args.text.now c.started-state.result c.started-state.ensures }

pub loop-byte-preserved : goal.loop-byte-preserved
loop-byte-preserved c = record {
  count = omega arith;
  reached = reached_next step start c.args.text.now c.loop-byte.byte-index c.loop-byte.state c.in-Ok-Some.now (omega arith) c.loop-byte.invariant.reached (rw c.in-Ok-Some.field-0-is at c.in-Ok-Some.ensures);
}

pub returns-in-Ok-None-clause-none : goal.returns-in-Ok-None-clause-none
returns-in-Ok-None-clause-none c = λ at e t.
    none_stop c.args.text.now c.loop-byte.byte-index c.loop-byte.state (omega arith) c.loop-byte.invariant.reached (rw c.in-Ok-None.field-0-is at c.in-Ok-None.ensures) t

pub returns-in-Ok-None-clause-place : goal.returns-in-Ok-None-clause-place
returns-in-Ok-None-clause-place c = λ at e.
    let f : c.loop-byte.count ≡ at = cc in
    subst (λ (i : ℕ). IsFault IsPathText c.args.text.now i) (sym c.loop-byte.invariant.count ∙ f)
    (fault_stop step start (IsViable IsPathText) EachLength tells c.args.text.now c.loop-byte.byte-index c.loop-byte.state (omega arith) tt c.loop-byte.invariant.reached (rw c.in-Ok-None.field-0-is at c.in-Ok-None.ensures))

pub returns-in-Ok-Some-ended-clause-found : goal.returns-in-Ok-Some-ended-clause-found
returns-in-Ok-Some-ended-clause-found c =
    found_end c.args.text.now c.loop-byte.byte-index c.loop-byte.state c.in-Ok-Some-ended.path (omega arith) c.loop-byte.invariant.reached (rw c.in-Ok-Some-ended.field-0-is at c.in-Ok-Some-ended.ensures)

pub returns-in-Ok-Some-ended-clause-only : goal.returns-in-Ok-Some-ended-clause-only
returns-in-Ok-Some-ended-clause-only c = only_end c.args.text.now c.in-Ok-Some-ended.path
    (found_end c.args.text.now c.loop-byte.byte-index c.loop-byte.state c.in-Ok-Some-ended.path (omega arith) c.loop-byte.invariant.reached (rw c.in-Ok-Some-ended.field-0-is at c.in-Ok-Some-ended.ensures))

pub returns-in-Ok-None-ended-clause-none : goal.returns-in-Ok-None-ended-clause-none
returns-in-Ok-None-ended-clause-none c = λ at e t.
    none_end c.args.text.now c.loop-byte.byte-index c.loop-byte.state (omega arith) c.loop-byte.invariant.reached (rw c.in-Ok-None-ended.field-0-is at c.in-Ok-None-ended.ensures) t

pub returns-in-Ok-None-ended-clause-place : goal.returns-in-Ok-None-ended-clause-place
returns-in-Ok-None-ended-clause-place c = λ at e.
    let f : c.loop-byte.count ≡ at = cc in
    subst (λ (i : ℕ). IsFault IsPathText c.args.text.now i) (sym c.loop-byte.invariant.count ∙ f)
    (fault_end step start (IsViable IsPathText) EachLength tells c.args.text.now c.loop-byte.byte-index c.loop-byte.state (omega arith) tt c.loop-byte.invariant.reached)
