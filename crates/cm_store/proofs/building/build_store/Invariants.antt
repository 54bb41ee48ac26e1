use Rattle.cm_store.proofs.building.build_store.Given as goal

abbrev pub ghosts-store_by : goal.ghosts-store_by
ghosts-store_by a = record { name = a.blank.name; parts = a.blank.parts }
