use Rattle.std.proofs.Common.{◌≡◌, ◌++◌, ◌+◌, ◌<◌, ◌∙◌, take, length, get_or, ap, subst, sym}
use Rattle.entry_step.specs.Log.{log_of}
use Rattle.entry_step.specs.Records.{replay}
use Rattle.syncer_gate.specs.declared.marks.Mark.TheVariants.{Pending, Applied}
use Rattle.book.specs.Entries.{IsWholeLog}
use Rattle.book.specs.Progress.{ProgressView}
use Rattle.book.proofs.Finishing.{records_next}
use Rattle.book.proofs.progress.Progress.records.Goals as goal

pub returns-clause-whole : goal.returns-clause-whole
returns-clause-whole g c = subst (λ (p : ProgressView). IsWholeLog g.S.StartName.start p.entries) c.self.view_is c.self.invariant.0.whole

pub returns-clause-next : goal.returns-clause-next
returns-clause-next g c =
    subst (λ (p : ProgressView). c.args.place < length p.entries → get_or p.gate.marks c.args.place Pending ≡ Applied → replay g.S.StartName.start (log_of (take (c.args.place + 1) p.entries)) ≡ replay g.S.StartName.start (log_of (take c.args.place p.entries)) ++ c.kept_at.result.now) c.self.view_is
    (λ l applied. records_next g.S.StartName.start (record { entries = c.self.inside.entries.items; gate = c.self.inside.claims; cells = c.self.inside.cells; made = c.self.inside.made.items }) c.self.invariant.0 c.args.place l applied
    ∙ ap (λ rs. replay g.S.StartName.start (log_of (take c.args.place c.self.inside.entries.items)) ++ rs) (sym c.kept_at.ensures))
