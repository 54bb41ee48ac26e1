use Rattle.bench_peel.proofs.peeling.pairs.Given as goal

abbrev pub ghosts-pairs_by : goal.ghosts-pairs_by
ghosts-pairs_by a = record { name = a.blank.name; parts = a.blank.parts }
