use Rattle.std.proofs.Common.{◌∷◌, ◌++◌, [], List, ℕ}
use Rattle.intake_journal.specs.Bytes.{number_bytes, moment_bytes}
use Rattle.intake_journal.specs.BaseBytes.{long_bytes, flag_bytes}
use Rattle.intake_journal.proofs.Parts.{one_more}
use Rattle.intake_journal.proofs.base_encoding.put_event.Goals as goal

pub returns-clause-ok : goal.returns-clause-ok
returns-clause-ok c =
    let old = c.args.out.now in
    let a : List ℕ = long_bytes c.args.event.number in
    let b : List ℕ = a ++ number_bytes c.args.event.trigger in
    let d : List ℕ = b ++ moment_bytes c.args.now in
    let e : List ℕ = d ++ c.args.severity ∷ [] in
    one_more c.put_flag.new.out c.extend.new.self old e (flag_bytes c.args.suppressed)
    (one_more c.extend.new.self c.put_moment.new.out old d (c.args.severity ∷ [])
    (one_more c.put_moment.new.out c.put_number.new.out old b (moment_bytes c.args.now)
    (one_more c.put_number.new.out c.put_long.new.out old a (number_bytes c.args.event.trigger) c.in_ok-put_long.ensures c.in_ok-put_number.ensures)
    c.in_ok-put_moment.ensures.ok)
    c.in_ok-extend.ensures.ok)
    c.in_ok-put_flag.ensures
