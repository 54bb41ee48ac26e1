use Rattle.test_crates.proofs.peeling.triples.Given as goal

abbrev pub ghosts-triples_by : goal.ghosts-triples_by
ghosts-triples_by g a = record { name = a.blank.name; parts = a.blank.parts }
