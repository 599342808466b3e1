use Rattle.server_run.proofs.course.started_beside.Given as goal

-- the ring that was just made
abbrev pub ghosts-named_beside : goal.ghosts-named_beside
ghosts-named_beside g a = record { ring = a.ring.id }
