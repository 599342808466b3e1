use Rattle.std.proofs.Common.{◌++◌, List, ℕ}
use Rattle.intake_journal.specs.Bytes.{moment_bytes, text_bytes}
use Rattle.intake_journal.specs.BaseBytes.{long_bytes, value_bytes}
use Rattle.intake_journal.proofs.Parts.{one_more}
use Rattle.intake_journal.proofs.base_encoding.ValuesWritten.put.Goals as goal

pub returns-clause-ok : goal.returns-clause-ok
unfolding value_bytes
returns-clause-ok c =
    let old = c.args.out.now in
    let v = c.args.part.now in
    let a : List ℕ = moment_bytes v.time in
    let b : List ℕ = a ++ long_bytes v.number in
    one_more c.put_text.new.out c.put_long.new.out old b (text_bytes v.value)
    (one_more c.put_long.new.out c.put_moment.new.out old a (long_bytes v.number) c.in_ok-put_moment.ensures.ok c.in_ok-put_long.ensures)
    c.in_ok-put_text.ensures.ok
