use Rattle.std.proofs.Common.{rules, ◌∙◌, ◌&&◌, ℕ, List, Bor}
use Rattle.std.specs.Str.{bytes_eq}
use Rattle.trigger_state.specs.Naming.{id_in}
use Rattle.trigger_state.proofs.Firsts.{noted_is, none_at}
use Rattle.trigger_state.proofs.naming.note.Goals as goal

pub returns-in_ok-insert : goal.returns-in_ok-insert
returns-in_ok-insert c = λ h q.
    let host : Bor (List ℕ) = record { ref_ptr = c.args.host.ref_ptr; now = h } in
    let name : Bor (List ℕ) = record { ref_ptr = c.args.name.ref_ptr; now = q } in
    c.in_ok-insert.ensures.updates.0 (host, name)
    ∙ noted_is (id_in c.args.ids.now h q) (bytes_eq c.args.host.now h && bytes_eq c.args.name.now q) c.args.id
    (none_at c.args.ids.now c.args.host.now c.args.name.now h q (search rules))
