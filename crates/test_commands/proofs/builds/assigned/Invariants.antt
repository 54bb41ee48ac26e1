use Rattle.test_commands.proofs.builds.assigned.Given as goal

abbrev pub ghosts-assign_pairs : goal.ghosts-assign_pairs
ghosts-assign_pairs a = record { name = a.blank.name; parts = a.blank.parts }
