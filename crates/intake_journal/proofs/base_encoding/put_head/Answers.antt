use Rattle.std.proofs.Common.{◌++◌, List, ℕ}
use Rattle.intake_journal.specs.Bytes.{moment_bytes}
use Rattle.intake_journal.specs.BaseBytes.{long_bytes, ticks_bytes}
use Rattle.intake_journal.proofs.Parts.{one_more}
use Rattle.intake_journal.proofs.base_encoding.put_head.Goals as goal

pub returns-clause-ok : goal.returns-clause-ok
returns-clause-ok c =
    let old = c.args.out.now in
    let base = c.args.base.now in
    let a : List ℕ = long_bytes base.number in
    let b : List ℕ = a ++ moment_bytes base.now in
    let d : List ℕ = b ++ ticks_bytes base.first_tick base.last_tick in
    one_more c.put_long-2.new.out c.put_ticks.new.out old d (long_bytes base.lines)
    (one_more c.put_ticks.new.out c.put_moment.new.out old b (ticks_bytes base.first_tick base.last_tick)
    (one_more c.put_moment.new.out c.put_long.new.out old a (moment_bytes base.now) c.in_ok-put_long.ensures c.in_ok-put_moment.ensures.ok)
    c.in_ok-put_ticks.ensures.ok)
    c.in_ok-put_long-2.ensures
