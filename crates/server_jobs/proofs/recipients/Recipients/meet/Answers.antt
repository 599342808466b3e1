use Rattle.std.proofs.Common.{rules, ◌≡◌, ◌∙◌, ap}
use Rattle.std.specs.Prelude.{map, not, string_bytes}
use Rattle.json_form.specs.Places.{has_name}
use Rattle.json_form.proofs.Taken.{names_any}
use Rattle.server_jobs.proofs.Numbering.{place_of}
use Rattle.server_jobs.proofs.recipients.Recipients.meet.Goals as goal

pub returns-clause-place : goal.returns-clause-place
returns-clause-place c =
    let same : string_bytes c.in_ok-name.name ≡ c.args.name.now = search rules in
    let at = place_of c.in_ok-name.name c.insert_full.new.self.keys c.in_ok-insert_full.field-0.0 c.in_ok-insert_full.ensures.stored in
    (at.0, at.1 ∙ same)

pub returns-clause-first : goal.returns-clause-first
returns-clause-first c =
    let same : string_bytes c.in_ok-name.name ≡ c.args.name.now = search rules in
    let met : map string_bytes c.self.inside.met.keys ≡ c.args.self.now = search rules in
    c.in_ok-insert_full.ensures.added
    ∙ ap not (names_any c.in_ok-name.name c.self.inside.met.keys ∙ ap (λ n. has_name n (map string_bytes c.self.inside.met.keys)) same ∙ ap (has_name c.args.name.now) met)
