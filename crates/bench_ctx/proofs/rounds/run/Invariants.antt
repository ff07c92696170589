use Rattle.bench_ctx.proofs.rounds.run.Given as goal

abbrev pub ghosts-additions : goal.ghosts-additions
ghosts-additions a = record { name = a.blank.name; parts = a.blank.parts }
