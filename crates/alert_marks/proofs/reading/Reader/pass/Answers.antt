use Rattle.std.proofs.Common.{◌≡◌, true, false, rules}
use Rattle.std.specs.Prelude.{Result, Ok, Err, OnOk}
use Rattle.alert_marks.proofs.reading.Reader.pass.Goals as goal

on_ok : {T E : Type 0} (r : Result T E) (P Q : Type 0) → (P → Q) → OnOk r P → OnOk r Q
on_ok (Ok x) P Q goes p = goes p
on_ok (Err e) P Q goes p = tt

pub returns-then-self-clause-read : goal.returns-then-self-clause-read
returns-then-self-clause-read c =
    let numbered : c.args.self.now.is_numbered ≡ true = search rules in
    on_ok c.pass_numbered.result _ _ (λ goes read is_open. goes read is_open numbered) c.pass_numbered.ensures.read

pub returns-else-self-clause-read : goal.returns-else-self-clause-read
returns-else-self-clause-read c =
    let plain : c.args.self.now.is_numbered ≡ false = search rules in
    on_ok c.pass_plain.result _ _ (λ goes read is_open. goes read is_open plain) c.pass_plain.ensures.read
