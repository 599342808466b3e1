use Rattle.std.proofs.Common.{rules, ◌∙◌, ◌&&◌, ℕ, List, Bor}
use Rattle.std.specs.Str.{bytes_eq}
use Rattle.preprocess.specs.Naming.{id_in}
use Rattle.preprocess.proofs.Named.{first_is, none_at}
use Rattle.preprocess.proofs.naming.note.Goals as goal

pub returns-in_ok-insert : goal.returns-in_ok-insert
returns-in_ok-insert c = λ h q.
    let host : Bor (List ℕ) = record { ref_ptr = c.args.host.ref_ptr; now = h } in
    let key : Bor (List ℕ) = record { ref_ptr = c.args.key.ref_ptr; now = q } in
    c.in_ok-insert.ensures.updates.0 (host, key)
    ∙ first_is (id_in c.args.ids.now h q) (bytes_eq c.args.host.now h && bytes_eq c.args.key.now q) c.args.id
    (none_at c.args.ids.now c.args.host.now c.args.key.now h q (search rules))
