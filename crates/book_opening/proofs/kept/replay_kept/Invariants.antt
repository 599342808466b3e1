use Rattle.book_opening.proofs.kept.replay_kept.Given as goal

abbrev pub ghosts-reach_all : goal.ghosts-reach_all
ghosts-reach_all g a = record { name = a.blank.name; parts = a.blank.parts }
