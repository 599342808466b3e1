use Rattle.server_run.proofs.course.started.Given as goal

-- the ring that was just made
abbrev pub ghosts-named : goal.ghosts-named
ghosts-named g a = record { ring = a.ring.id }
