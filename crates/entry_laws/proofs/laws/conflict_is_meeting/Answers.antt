use Rattle.entry_laws.proofs.Meeting.{conflict_is_meeting}
use Rattle.entry_laws.proofs.laws.conflict_is_meeting.Goals as goal

pub returns : goal.returns
returns c = conflict_is_meeting
