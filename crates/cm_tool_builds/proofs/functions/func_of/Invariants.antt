use Rattle.cm_tool_builds.proofs.functions.func_of.Given as goal

abbrev pub ghosts-func_by : goal.ghosts-func_by
ghosts-func_by g a = record { name = a.blank.name; parts = a.blank.parts }
