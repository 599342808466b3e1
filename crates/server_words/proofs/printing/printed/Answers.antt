use Rattle.server_words.proofs.printing.printed.Goals as goal

pub returns-in-MarksAhead : goal.returns-in-MarksAhead
returns-in-MarksAhead c = rw c.in-MarksAhead.is c.two_counts_line-in-MarksAhead.ensures
