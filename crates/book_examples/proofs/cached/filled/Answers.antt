use Rattle.book_examples.proofs.cached.filled.Goals as goal

pub invariant_of-shelf : goal.invariant_of-shelf
invariant_of-shelf c = c.new-2.ensures.of c.in_ok-new.field-0
