use Rattle.std.proofs.Common.{subst}
use Rattle.std.specs.List.{All}
use Rattle.intake_journal.specs.BaseTypes.{IsTagTyped}
use Rattle.intake_journal.proofs.base_encoding.put_record.Goals as goal

pub returns-in_ok-put_list-in-Problem-clause-typed :
    goal.returns-in_ok-put_list-in-Problem-clause-typed
returns-in_ok-put_list-in-Problem-clause-typed c =
    let event = c.in_ok-put_event-in-Problem.ensures.typed in
    let names = c.in_ok-put_names-in-Problem.ensures.typed in
    rw c.in-Problem.is (event.0, event.1, event.2, names.0, names.1, names.2, subst (All IsTagTyped) c.as_slice.ensures c.in_ok-put_list-in-Problem.ensures.typed)
