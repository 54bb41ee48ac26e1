use Rattle.test_commands.proofs.builds.built.Given as goal

abbrev pub ghosts-build_by : goal.ghosts-build_by
ghosts-build_by g a = record { name = a.blank.name; parts = a.blank.parts }
