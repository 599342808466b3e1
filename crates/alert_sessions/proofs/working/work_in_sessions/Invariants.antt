use Rattle.alert_sessions.proofs.working.work_in_sessions.Given as goal

abbrev pub ghosts-work_named-N-CallName : goal.ghosts-work_named-N-CallName
ghosts-work_named-N-CallName g a = record { start = a.queue; kept = a.marks.list; disk = g.D.Disk.tells a.marks.disk }

abbrev pub ghosts-work_named-F-Ledger : goal.ghosts-work_named-F-Ledger
ghosts-work_named-F-Ledger g a = record { name = a.failures.name; parts = a.failures.parts }

abbrev pub ghosts-work_named-S-Ledger : goal.ghosts-work_named-S-Ledger
ghosts-work_named-S-Ledger g a = record { name = a.successes.name; parts = a.successes.parts }
