use Rattle.server_run.proofs.syncing.work.Given as goal

-- a ledger that nobody reads
abbrev pub ghosts-do_orders : goal.ghosts-do_orders
ghosts-do_orders g a = record { name = a.blank.name; parts = a.blank.parts }
