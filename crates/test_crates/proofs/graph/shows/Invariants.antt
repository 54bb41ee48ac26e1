use Rattle.test_crates.proofs.graph.shows.Given as goal

abbrev pub ghosts-shows_by : goal.ghosts-shows_by
ghosts-shows_by g a = record { name = a.blank.name; parts = a.blank.parts }
