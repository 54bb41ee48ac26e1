use Rattle.cm_filter_dump.proofs.building.FilterBuilderBuilder.make.Given as goal

abbrev pub ghosts-make_by : goal.ghosts-make_by
ghosts-make_by g a = record { name = a.blank.name; parts = a.blank.parts }
