use Rattle.std.proofs.Common.{◌≡◌, ◌≢◌, ◌∙◌, ℕ, ◌+◌, Some, None, drop, sym, ap, subst, rules}
use Rattle.std.proofs.lemmas.List.{take_rest}
use Rattle.std.specs.Prelude.{Result, Ok, Err, OnOk}
use Rattle.alert_marks.specs.Reading.{mark_at, plain_behind}
use Rattle.alert_marks.proofs.Readings.{damaged_plain}
use Rattle.alert_marks.proofs.reading.Reader.pass_plain.Goals as goal

on_ok : {T E : Type 0} (r : Result T E) (P Q : Type 0) → (P → Q) → OnOk r P → OnOk r Q
on_ok (Ok x) P Q goes p = goes p
on_ok (Err e) P Q goes p = tt

pub returns-in-Some-clause-read : goal.returns-in-Some-clause-read
returns-in-Some-clause-read c =
    let bytes = c.args.bytes.now in let gate = c.args.self.now.gate in
    let byte : plain_behind (drop (gate + 1) bytes) ≡ c.plain_behind-byte.result = ap plain_behind (sym (take_rest bytes (gate + 1))) ∙ sym c.plain_behind-byte.ensures in
    let there : mark_at (plain_behind (drop (gate + 1) bytes)) ≡ Some c.in-Some.mark = ap mark_at byte ∙ sym c.mark_at.ensures ∙ c.in-Some.is in
    on_ok c.count.result _ _ (λ goes read is_open plain. goes read is_open plain there) c.count.ensures.read

pub returns-in-None-clause-damaged : goal.returns-in-None-clause-damaged
returns-in-None-clause-damaged c at e read is_open plain =
    let bytes = c.args.bytes.now in let gate = c.args.self.now.gate in
    let byte : plain_behind (drop (gate + 1) bytes) ≡ c.plain_behind-byte.result = ap plain_behind (sym (take_rest bytes (gate + 1))) ∙ sym c.plain_behind-byte.ensures in
    let none : mark_at (plain_behind (drop (gate + 1) bytes)) ≡ None = ap mark_at byte ∙ sym c.mark_at.ensures ∙ c.in-None.is in
    let other : c.plain_behind-byte.result ≢ 50 = search rules in
    let same : gate ≡ at = cc in
    damaged_plain bytes c.args.self.now read is_open plain none (λ (f : plain_behind (drop (gate + 1) bytes) ≡ 50). other (sym byte ∙ f)) at same
