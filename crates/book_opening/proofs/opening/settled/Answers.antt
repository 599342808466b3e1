use Rattle.book_opening.proofs.opening.settled.Goals as goal

pub returns-in-Ok-clause-replayed : goal.returns-in-Ok-clause-replayed
returns-in-Ok-clause-replayed c = λ flat base log outbox replayed. record {
  present = c.in-Ok.ensures.still flat base log replayed.present;
  recorded = record { tally = replayed.recorded.tally; compared = replayed.recorded.compared; missing = replayed.recorded.missing };
}
