use Rattle.workers.proofs.run.run_workers.Given as goal

abbrev pub ghosts-run_counted-P-Ledger : goal.ghosts-run_counted-P-Ledger
ghosts-run_counted-P-Ledger g a = record { name = a.picks.name; parts = a.picks.parts }

abbrev pub ghosts-run_counted-Q-Ledger : goal.ghosts-run_counted-Q-Ledger
ghosts-run_counted-Q-Ledger g a = record { name = a.rans.name; parts = a.rans.parts }
