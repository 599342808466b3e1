use Rattle.book_examples.proofs.rings.cross_behind.Given as goal

-- the ring that was just made
abbrev pub ghosts-cross : goal.ghosts-cross
ghosts-cross g a = record { ring = a.ring.id }
