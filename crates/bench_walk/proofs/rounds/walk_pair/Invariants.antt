-- The ledger of a walk's counter.
use Rattle.bench_walk.proofs.rounds.walk_pair.Given as goal

abbrev pub ghosts-walk_counted : goal.ghosts-walk_counted
ghosts-walk_counted a = record { name = a.blank.name; parts = a.blank.parts }
