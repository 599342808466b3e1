use Rattle.std.proofs.Common.{◌≡◌, ◌∙◌, ℕ, Bool, true, false, Option, Some, None, ap, get_or, rules}
use Rattle.std.specs.Prelude.{if◌then◌else◌}
use Rattle.alert_run.specs.Fields.{taken}
use Rattle.alert_run.specs.declared.fields.Split.{Split}
use Rattle.alert_run.proofs.Splitting.{fields_step, fields_bad}
use Rattle.alert_run.proofs.fields.fields_of.Goals as goal

pub returns-then-not-branch : goal.returns-then-not-branch
returns-then-not-branch c =
    let all = c.args.line.now in let i = c.loop-byte.byte-index in
    let halted : c.in_ok-take.field-0 ≡ false = search rules in
    fields_bad all i c.loop-byte.split c.loop-byte-test.true (c.in_ok-take.ensures ∙ ap (λ (t : Bool). if◌then◌else◌ {A = Option Split} t (Some c.take.new.self) None) halted) c.loop-byte.invariant

pub loop-byte-preserved : goal.loop-byte-preserved
loop-byte-preserved c =
    let all = c.args.line.now in let i = c.loop-byte.byte-index in
    let went : c.in_ok-take.field-0 ≡ true = search rules in
    fields_step all i c.loop-byte.split c.take.new.self c.loop-byte-test.true (c.in_ok-take.ensures ∙ ap (λ (t : Bool). if◌then◌else◌ {A = Option Split} t (Some c.take.new.self) None) went) c.loop-byte.invariant
