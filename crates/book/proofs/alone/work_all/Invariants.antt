use Rattle.book.proofs.alone.work_all.Given as goal

abbrev pub ghosts-work_uncounted : goal.ghosts-work_uncounted
ghosts-work_uncounted g a = record { name = a.blank.name; parts = a.blank.parts }
