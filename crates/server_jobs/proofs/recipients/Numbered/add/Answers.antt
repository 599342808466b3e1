use Rattle.std.proofs.Common.{rules, ◌≡◌, ◌<◌, ◌++◌, ◌∷◌, [], ℕ, Bool, length}
use Rattle.std.specs.Prelude.{not, if◌then◌else◌}
use Rattle.json_form.specs.Places.{has_name}
use Rattle.server_jobs.specs.Numbering.{kind_for, recipient_at}
use Rattle.server_jobs.specs.declared.recipients.Numbered.{Numbered}
use Rattle.server_jobs.proofs.Numbering.{numbered_more}
use Rattle.server_jobs.proofs.recipients.Numbered.add.Goals as goal

pub returns : goal.returns
returns c notes is =
    let note = c.args.note.now in let old = c.args.self.now in
    let first : Bool = c.in_ok-place.is_first in let place : ℕ = c.in_ok-place.place in
    let new : Numbered = record { recipients = c.meet.new.self; homes = c.push.new.self; kinds = c.add_kind.new.kinds } in
    let met : first ≡ not (has_name note.recipient old.recipients) = search rules in
    let grown : c.meet.new.self ≡ (if first then old.recipients ++ note.recipient ∷ [] else old.recipients) = search rules in
    let at : (place < length c.meet.new.self) × (recipient_at c.meet.new.self place ≡ note.recipient) = search rules in
    let homes : new.homes.items ≡ old.homes.items ++ place ∷ [] = search rules in
    let kinds : new.kinds.items ≡ (if first then old.kinds.items ++ kind_for c.args.media.now note.recipient ∷ [] else old.kinds.items) = search rules in
    numbered_more c.args.media.now notes note old new place first met grown at homes kinds is
