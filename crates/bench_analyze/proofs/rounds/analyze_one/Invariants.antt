-- The ledger of a pair's counter.
use Rattle.bench_analyze.proofs.rounds.analyze_one.Given as goal

abbrev pub ghosts-analyze_counted : goal.ghosts-analyze_counted
ghosts-analyze_counted a = record { name = a.blank.name; parts = a.blank.parts }
