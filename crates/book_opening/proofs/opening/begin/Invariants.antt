use Rattle.book_opening.proofs.opening.begin.Given as goal

abbrev pub ghosts-replay_all : goal.ghosts-replay_all
ghosts-replay_all g a = record { name = a.blank.name; parts = a.blank.parts }
