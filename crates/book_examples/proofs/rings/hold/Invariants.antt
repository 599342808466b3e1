use Rattle.book_examples.proofs.rings.hold.Given as goal

-- the ring that was just made
abbrev pub ghosts-tell : goal.ghosts-tell
ghosts-tell g a = record { ring = a.ring.id }
