use Rattle.cm_judge_reports.proofs.judging.verdict_on.Given as goal

abbrev pub ghosts-verdict_by : goal.ghosts-verdict_by
ghosts-verdict_by g a = record { name = a.blank.name; parts = a.blank.parts }
