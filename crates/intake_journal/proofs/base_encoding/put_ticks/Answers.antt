use Rattle.std.proofs.Common.{Bool, ◌++◌, List, ℕ, ap, ◌∙◌}
use Rattle.std.specs.Prelude.{is_some, unwrap_or}
use Rattle.intake_journal.specs.Bytes.{moment_bytes}
use Rattle.intake_journal.specs.BaseBytes.{flag_bytes}
use Rattle.intake_journal.proofs.Parts.{one_more}
use Rattle.intake_journal.proofs.base_encoding.put_ticks.Goals as goal

pub returns-clause-ok : goal.returns-clause-ok
returns-clause-ok c =
    let old = c.args.out.now in
    let a : List ℕ = flag_bytes (is_some c.args.first) in
    let m : List ℕ = moment_bytes (unwrap_or c.args.first 0) in
    let n : List ℕ = moment_bytes (unwrap_or c.args.last 0) in
    one_more c.put_moment-2.new.out c.put_moment.new.out old (a ++ m) n
    (one_more c.put_moment.new.out c.put_flag.new.out old a m
    (c.in_ok-put_flag.ensures ∙ ap (λ (so : Bool). old ++ flag_bytes so) c.is_some.ensures)
    (c.in_ok-put_moment.ensures.ok ∙ ap (λ (moment : ℕ). c.put_flag.new.out ++ moment_bytes moment) c.or_zero.ensures))
    (c.in_ok-put_moment-2.ensures.ok ∙ ap (λ (moment : ℕ). c.put_moment.new.out ++ moment_bytes moment) c.or_zero-2.ensures)
