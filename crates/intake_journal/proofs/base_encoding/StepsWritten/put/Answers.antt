use Rattle.std.proofs.Common.{◌++◌, List, ℕ}
use Rattle.intake_journal.specs.Bytes.{moment_bytes, text_bytes}
use Rattle.intake_journal.specs.BaseBytes.{flag_bytes, step_bytes}
use Rattle.intake_journal.proofs.Parts.{one_more}
use Rattle.intake_journal.proofs.base_encoding.StepsWritten.put.Goals as goal

pub returns-clause-ok : goal.returns-clause-ok
unfolding step_bytes
returns-clause-ok c =
    let old = c.args.out.now in
    let s = c.args.part.now in
    let a : List ℕ = flag_bytes s.there in
    let b : List ℕ = a ++ moment_bytes s.time in
    one_more c.put_text.new.out c.put_moment.new.out old b (text_bytes s.value)
    (one_more c.put_moment.new.out c.put_flag.new.out old a (moment_bytes s.time) c.in_ok-put_flag.ensures c.in_ok-put_moment.ensures.ok)
    c.in_ok-put_text.ensures.ok
