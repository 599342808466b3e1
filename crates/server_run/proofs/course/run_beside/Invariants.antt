use Rattle.std.proofs.Common.{refl}
use Rattle.entry_laws.specs.InForce.{behind_all}
use Rattle.entry_step.specs.Log.{log_of}
use Rattle.base_laws.specs.Grounds.{start_of}
use Rattle.journal_opening.specs.Replayed.{flat}
use Rattle.server_run.proofs.course.run_beside.Given as goal

-- with what the run begins
abbrev pub ghosts-started_beside : goal.ghosts-started_beside
ghosts-started_beside g a =
    record {
      flat = flat;
      base = a.front.journal.base;
      kept = a.front.intake.entries;
      start = behind_all flat (start_of flat a.front.journal.base) (log_of a.front.intake.entries);
      first = refl;
      outbox = g.O.Sink.tells a.outbox;
      cache = a.cache.value;
    }
