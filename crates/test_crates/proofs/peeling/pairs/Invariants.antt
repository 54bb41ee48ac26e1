use Rattle.test_crates.proofs.peeling.pairs.Given as goal

abbrev pub ghosts-pairs_by : goal.ghosts-pairs_by
ghosts-pairs_by g a = record { name = a.blank.name; parts = a.blank.parts }
