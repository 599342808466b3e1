use Rattle.std.proofs.Common.{◌≡◌, List, length, map, string_bytes, refl, rules}
use Rattle.alert_queue.specs.Law.{AreFresh}
use Rattle.alert_queue.specs.New.{IsNew}
use Rattle.alert_queue.specs.Queues.{Queued}
use Rattle.alert_run.specs.declared.types.Note.{Note}
use Rattle.server_jobs.specs.Numbering.{IsNumbering, marked_in}
use Rattle.server_jobs.specs.Sessions.{command_for}
use Rattle.server_jobs.specs.declared.recipients.Numbered.{Numbered}
use Rattle.server_jobs.proofs.Commands.{ordered}
use Rattle.server_jobs.proofs.ordering.orders_of.Goals as goal

pub returns : goal.returns
returns c =
    let media = c.args.media.now in
    let all : List Note = c.as_slice-all.result.now in
    let n : Numbered = c.in_ok-numbered.numbered in
    let queue : Queued = c.in_ok-queue.queue in
    let same : all ≡ c.args.notes = search rules in
    let is : IsNumbering media all n = search rules in
    let new : IsNew n.homes.items (marked_in (length all) c.args.marks.now) n.kinds.items queue = search rules in
    let fresh : AreFresh queue = c.in_ok-queue.ensures.fresh in
    let names : map string_bytes c.names.result.now ≡ n.recipients = search rules in
    let commands : c.in_ok-commands.commands ≡ map (command_for media) (map string_bytes c.names.result.now) = search rules in
    ordered media c.args.notes all c.args.marks.now n queue _ c.names.result.now same is new fresh refl refl names commands
