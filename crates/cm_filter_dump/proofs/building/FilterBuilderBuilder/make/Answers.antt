use Rattle.cm_filter_dump.proofs.building.FilterBuilderBuilder.make.Goals as goal

pub returns-clause-cause : goal.returns-clause-cause
returns-clause-cause g c = c.make_by.ensures.cause _
