use Rattle.journal_copy.proofs.Keeping.{kept_sound}
use Rattle.journal_copy.proofs.replaying.state_of.Goals as goal

pub replay_kept-requires-clause-sound : goal.replay_kept-requires-clause-sound
replay_kept-requires-clause-sound c = kept_sound _ _ c.requires.kept
