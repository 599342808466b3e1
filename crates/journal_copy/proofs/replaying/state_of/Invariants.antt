use Rattle.std.proofs.Common.{refl}
use Rattle.base_laws.specs.Grounds.{start_of}
use Rattle.book_opening.specs.Opening.{no_cache}
use Rattle.book_opening.specs.Outgoing.{no_outbox}
use Rattle.entry_laws.specs.InForce.{behind_all}
use Rattle.entry_step.specs.Log.{log_of}
use Rattle.journal_opening.specs.Replayed.{flat}
use Rattle.journal_copy.proofs.replaying.state_of.Given as goal

-- what is replayed: the journal's entries on its base, beside no outbox
abbrev pub ghosts-replay_kept : goal.ghosts-replay_kept
ghosts-replay_kept a = record {
  flat = flat;
  base = a.base.now;
  kept = a.kept.now;
  start = behind_all flat (start_of flat a.base.now) (log_of a.kept.now);
  first = refl;
  outbox = no_outbox;
  cache = no_cache;
}
