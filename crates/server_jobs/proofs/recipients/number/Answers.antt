use Rattle.server_jobs.proofs.recipients.number.Goals as goal

pub loop-note-init : goal.loop-note-init
loop-note-init c = record { numbering = c.new-numbered.ensures c.args.media.now }
